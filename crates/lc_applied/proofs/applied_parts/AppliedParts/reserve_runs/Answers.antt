use Rattle.std.proofs.Common.{arith, refl}
use Rattle.lc_applied.proofs.applied_parts.AppliedParts.reserve_runs.Goals as goal

pub returns-then-has_room-clause-made : goal.returns-then-has_room-clause-made
returns-then-has_room-clause-made c =
    let size = c.of-size.ensures in
    let room = c.if-has_room.ensures.room.0 refl in
    let small = c.has_room.ensures.small in
    let few = room.few_bytes in
    let runs = room.few_runs in
    record { part = room.part; few_runs = omega (arith, size, runs); few_bytes = omega (arith, size, few, small) }
