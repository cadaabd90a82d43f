-- Words spell one list of records at most.
use Rattle.std.proofs.Common.{◌≡◌, ℕ, List, ◌++◌, sym, ap, ◌∙◌}
use Rattle.std.proofs.lemmas.List.Elements.{All-append}
use Rattle.lc_record.specs.declared.record.Record.{Record}
use Rattle.lc_log.specs.LogText.{IsWhole, joined}
use Rattle.lc_log.proofs.LogLemmas.{joined-append, one_text-by}
use Rattle.lc_rest.specs.Parts.{AreSpelled}
use Rattle.lc_rest.proofs.SpelledWords.{all_text}

pub one_spelling : (words : List ℕ) (rs qs : List Record) → AreSpelled words rs → AreSpelled words qs → rs ≡ qs
one_spelling words rs qs its others = one_text-by words rs qs (all_text words rs its) (all_text words qs others)

-- and the words of two lists one after the other spell both
pub spelled_both : (words more : List ℕ) (rs qs : List Record) → AreSpelled words rs → AreSpelled more qs → AreSpelled (words ++ more) (rs ++ qs)
spelled_both words more rs qs its others = record {
  text = ap (λ (l : List ℕ). l ++ more) its.text ∙ ap (λ (l : List ℕ). joined rs ++ l) others.text ∙ sym (joined-append rs qs);
  whole = All-append IsWhole rs qs its.whole others.whole;
}
