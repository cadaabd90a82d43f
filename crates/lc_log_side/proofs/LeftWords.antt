-- What is left of the rounds that have ended, over the calls of a log.
use Rattle.std.proofs.Common.{◌≡◌, ℕ, ◌+◌, List, [], ◌∷◌, ◌++◌, length, length-append, All, sym, ◌∙◌, ap, subst, append_assoc}
use Rattle.std.specs.List.{concat}
use Rattle.std.proofs.lemmas.List.{append-nil}
use Rattle.std.proofs.lemmas.List.Elements.{All-append}
use Rattle.std.proofs.lemmas.List.Folds.{concat-append}
use Rattle.lc_log.specs.LogText.{IsWhole, joined}
use Rattle.lc_log.proofs.LogLemmas.{joined-append}
use Rattle.lc_rest.specs.Parts.{IsKnownClean}
use Rattle.lc_log_side.specs.Ended.{EndedWords}
use Rattle.lc_log_side.specs.Left.{IsLeft}
use Rattle.lc_log_side.specs.Published.{records_of}
use Rattle.lc_log_side.proofs.EndedRecords.{AreOf}

-- what is gone and what is left are all that was taken
pub left-long : (past : List (List ℕ)) (known : List ℕ) (gone : ℕ) (words : List ℕ) → IsLeft past known gone words → length (concat past) ≡ gone + length words
left-long past known gone words is = ap (λ (l : List ℕ). length l) is.parts ∙ length-append (joined is.front) words ∙ ap (λ (n : ℕ). n + length words) (sym is.gone_is)

pub left-same : (past past_now : List (List ℕ)) (known known_now : List ℕ) (e e_now : EndedWords) → IsLeft past known e.gone e.words → past_now ≡ past → known_now ≡ known → e_now ≡ e → IsLeft past_now known_now e_now.gone e_now.words
left-same past past_now known known_now e e_now is one two three =
    subst (λ (p : List (List ℕ)). IsLeft p known_now e_now.gone e_now.words) (sym one)
    (subst (λ (k : List ℕ). IsLeft past k e_now.gone e_now.words) (sym two)
    (subst (λ (x : EndedWords). IsLeft past known x.gone x.words) (sym three) is))

-- a reset adds the records of its round
pub left-reset : (past next : List (List ℕ)) (known : List ℕ) (gone gone_now : ℕ) (words stable taken new : List ℕ) → IsLeft past known gone words → (its : AreOf stable) → All (IsKnownClean known) its.records
    → stable ≡ taken → next ≡ past ++ taken ∷ [] → new ≡ words ++ stable → gone_now ≡ gone → IsLeft next known gone_now new
left-reset past next known gone gone_now words stable taken new is its clean all next_is more same = record {
  front = is.front;
  kept = is.kept ++ its.records;
  front_whole = is.front_whole;
  whole = All-append IsWhole is.kept its.records is.whole its.are.whole;
  parts =
      ap concat next_is ∙ concat-append past (taken ∷ []) ∙ ap (λ (l : List ℕ). concat past ++ l) (append-nil taken ∙ sym all) ∙ ap (λ (l : List ℕ). l ++ stable) is.parts ∙ append_assoc (joined is.front) words stable
      ∙ ap (λ (l : List ℕ). joined is.front ++ l) (sym more);
  gone_is = same ∙ is.gone_is;
  text = more ∙ ap (λ (l : List ℕ). l ++ stable) is.text ∙ ap (λ (l : List ℕ). joined is.kept ++ l) its.are.text ∙ sym (joined-append is.kept its.records);
  clean = All-append (IsKnownClean known) is.kept its.records is.clean clean;
}

-- what is published stays over a reset
pub published-same : (past next : List (List ℕ)) (taken stable none : List ℕ) → next ≡ past ++ taken ∷ [] → stable ≡ taken → none ≡ [] → records_of (concat next ++ none) ≡ records_of (concat past ++ stable)
published-same past next taken stable none next_is all gone =
    ap (λ (l : List (List ℕ)). records_of (concat l ++ none)) next_is
    ∙ ap (λ (l : List ℕ). records_of (l ++ none)) (concat-append past (taken ∷ []) ∙ ap (λ (l : List ℕ). concat past ++ l) (append-nil taken))
    ∙ ap (λ (l : List ℕ). records_of ((concat past ++ taken) ++ l)) gone
    ∙ ap records_of (append-nil (concat past ++ taken))
    ∙ ap (λ (l : List ℕ). records_of (concat past ++ l)) (sym all)
