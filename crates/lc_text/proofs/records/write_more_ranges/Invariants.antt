use Rattle.std.proofs.Common.{◌++◌, take}
use Rattle.std.specs.Prelude.{codes, flat_map}
use Rattle.std.specs.Io.KnownBytes.{Appends}
use Rattle.lc_text.specs.Text.{range_text}
use Rattle.lc_text.proofs.records.write_more_ranges.Given as goal

abbrev pub invariant-loop-range : goal.invariant-loop-range
invariant-loop-range g l = Appends (g.W.Write.contents l.fn.writer) (g.W.Write.contents l.writer) (flat_map (λ x. codes "," ++ range_text x) (take l.range-index l.ranges))
