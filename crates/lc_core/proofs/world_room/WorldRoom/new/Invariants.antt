use Rattle.std.proofs.Common.{◌≡◌, None}
use Rattle.std.specs.Prelude.{replicate}
use Rattle.lc_core.proofs.world_room.WorldRoom.new.Given as goal

abbrev pub invariant-loop : goal.invariant-loop
invariant-loop g l = l.travelling.items ≡ replicate l.counter None
