use Rattle.std.proofs.Common.{◌+◌, ◌-◌, ◌^◌, drop}
use Rattle.lc_range.specs.RangeSet.{EndWithin, IsCanonical}
use Rattle.lc_range.proofs.OutsideLemmas.{AreFrom, Walked}
use Rattle.lc_range.proofs.undo.Undo.keep_outside.Given as goal

abbrev pub invariant-loop-run : goal.invariant-loop-run
invariant-loop-run l = record {
  walked : Walked l.initial.self l.self l.image l.place.range.segment l.place.range.offset l.from (l.place.range.offset + l.place.range.len) l.runs (drop l.run-index l.run-items);
  canonical : IsCanonical (drop l.run-index l.run-items);
  ends : EndWithin (drop l.run-index l.run-items) (2 ^ 32 - 1);
  from_place : AreFrom l.place.range (drop l.run-index l.run-items);
}
