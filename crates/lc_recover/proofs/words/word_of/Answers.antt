use Rattle.std.proofs.Common.{ℕ, [], ◌∷◌, List, ◌∙◌, sym, ap}
use Rattle.std.specs.Int.{w64, from_le_bytes}
use Rattle.lc_log.proofs.WalkLemmas.{words_of-eight}
use Rattle.lc_recover.proofs.words.word_of.Goals as goal

pub returns : goal.returns
returns c =
    words_of-eight c.args.bytes.now c.requires
    ∙ ap (λ (bytes : List ℕ). from_le_bytes w64 bytes ∷ []) (sym c.copy_from_slice.ensures.after)
    ∙ ap (λ (word : ℕ). word ∷ []) (sym c.from_le_bytes.ensures)
