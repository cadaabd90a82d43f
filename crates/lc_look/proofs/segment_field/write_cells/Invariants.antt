use Rattle.std.proofs.Common.{take}
use Rattle.std.specs.Io.KnownBytes.{Appends}
use Rattle.lc_look.specs.Picture.{cells_text}
use Rattle.lc_look.proofs.segment_field.write_cells.Given as goal

abbrev pub invariant-loop-cell : goal.invariant-loop-cell
invariant-loop-cell g l = Appends (g.W.Write.contents l.fn.writer) (g.W.Write.contents l.writer) (cells_text (take l.cell-index l.cells))
