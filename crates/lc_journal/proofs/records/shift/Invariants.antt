use Rattle.std.proofs.Common.{◌≡◌, ◌++◌, map, take, drop}
use Rattle.lc_journal.specs.Records.{shifted}
use Rattle.lc_journal.proofs.records.shift.Given as goal

abbrev pub invariant-loop-place : goal.invariant-loop-place
invariant-loop-place l =
    l.places ≡ map (shifted l.cut) (take l.place-index l.initial.places) ++ drop l.place-index l.initial.places
