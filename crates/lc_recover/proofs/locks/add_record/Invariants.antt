use Rattle.std.proofs.Common.{◌≡◌, ◌++◌, map, take, vec_capacity}
use Rattle.lc_recover.specs.Locks.{number_of}
use Rattle.lc_recover.proofs.locks.add_record.Given as goal

abbrev pub invariant-loop-index : goal.invariant-loop-index
invariant-loop-index l = (l.numbers.items ≡ l.initial.numbers.items ++ map number_of (take l.index l.view.locks)) × (vec_capacity l.numbers ≡ vec_capacity l.initial.numbers)
