use Rattle.std.proofs.Common.{◌-◌, length}
use Rattle.lc_recover.specs.Reads.{area_count}
use Rattle.lc_recover.proofs.Zeroed.{AreMade}
use Rattle.lc_recover.proofs.zeros.zero_areas.Given as goal

abbrev pub invariant-loop-len : goal.invariant-loop-len
invariant-loop-len l = AreMade l.geometry l.areas.items

abbrev pub decreases-loop-len : goal.decreases-loop-len
decreases-loop-len l = area_count l.geometry - length l.areas.items
