use Rattle.std.proofs.Common.{take}
use Rattle.std.specs.Io.KnownBytes.{Appends}
use Rattle.lc_text.specs.Text.{words_text}
use Rattle.lc_text.proofs.hex.write_words.Given as goal

abbrev pub invariant-loop-word : goal.invariant-loop-word
invariant-loop-word g l = Appends (g.W.Write.contents l.fn.writer) (g.W.Write.contents l.writer) (words_text (take l.word-index l.words))
