use Rattle.std.proofs.Common.{length, ap, arith}
use Rattle.lc_range.proofs.CutLemmas.{length_copies}
use Rattle.lc_range.proofs.undo.Undo.copies.Goals as goal

pub returns : goal.returns
returns c = omega (arith, c.len.ensures.value, length_copies c.self.inside.ranges.items c.self.inside.bytes.items, ap length c.self.view_is)
