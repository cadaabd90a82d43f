use Rattle.std.proofs.Common.{take}
use Rattle.std.specs.Io.KnownBytes.{Appends}
use Rattle.lc_text.specs.Text.{hex_text}
use Rattle.lc_text.proofs.hex.write_hex.Given as goal

abbrev pub invariant-loop-byte : goal.invariant-loop-byte
invariant-loop-byte g l = Appends (g.W.Write.contents l.fn.writer) (g.W.Write.contents l.writer) (hex_text (take l.byte-index l.bytes))
