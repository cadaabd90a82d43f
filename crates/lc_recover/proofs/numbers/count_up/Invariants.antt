use Rattle.std.proofs.Common.{take}
use Rattle.lc_recover.proofs.Counts.{AllFilled}
use Rattle.lc_recover.proofs.numbers.count_up.Given as goal

abbrev pub invariant-loop-number : goal.invariant-loop-number
invariant-loop-number l = AllFilled l.initial.counts (take l.number-index l.numbers) l.counts
