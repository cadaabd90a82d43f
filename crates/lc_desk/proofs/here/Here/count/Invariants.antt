use Rattle.std.proofs.Common.{◌≡◌, take}
use Rattle.lc_desk.proofs.Counting.{CountsSome}
use Rattle.lc_desk.proofs.here.Here.count.Given as goal

abbrev pub invariant-loop-range : goal.invariant-loop-range
invariant-loop-range l =
    CountsSome (take l.range-index l.ranges) l.segment l.counted l.fn.self.slots.items l.self.slots.items × (l.self.spare ≡ l.fn.self.spare)
