use Rattle.std.proofs.Common.{◌∙◌, ℕ, List, [], ◌∷◌, ◌++◌, get_or, take, sym, ap, append-nil}
use Rattle.std.proofs.lemmas.List.{take_all, take_more}
use Rattle.lc_record.specs.Words.{bytes_of}
use Rattle.lc_record.proofs.WordLemmas.{bytes_of-append}
use Rattle.lc_tool.proofs.commands.log_bytes.Goals as goal

pub loop-word-init : goal.loop-word-init
loop-word-init c = c.new-bytes.ensures.items

pub loop-word-preserved : goal.loop-word-preserved
loop-word-preserved c =
    let word = get_or c.args.words.now c.loop-word.word-index 0 in
    c.in_ok-extend_from_slice.ensures.items
    ∙ ap (λ (l : List ℕ). l ++ c.to_le_bytes.result) c.loop-word.invariant
    ∙ ap (λ (l : List ℕ). bytes_of (take c.loop-word.word-index c.args.words.now) ++ l) (c.to_le_bytes.ensures ∙ sym (append-nil _))
    ∙ sym (bytes_of-append (take c.loop-word.word-index c.args.words.now) (word ∷ []))
    ∙ ap bytes_of (sym (take_more c.args.words.now c.loop-word.word-index 0 c.loop-word-test.true))

pub returns : goal.returns
returns c = c.loop-word.invariant ∙ ap bytes_of (take_all c.loop-word.word-index c.args.words.now c.loop-word-test.false)
