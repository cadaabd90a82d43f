use Rattle.std.proofs.Common.{length}
use Rattle.lc_node.proofs.store_room.discard_rooms.Given as goal

abbrev pub invariant-loop-room : goal.invariant-loop-room
invariant-loop-room g l = Unit {0}

abbrev pub decreases-loop-room : goal.decreases-loop-room
decreases-loop-room g l = length l.rooms.items
