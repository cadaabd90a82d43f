use Rattle.std.proofs.Common.{◌≡◌, ◌≤◌, take}
use Rattle.lc_desk.specs.Unfinished.{begun_in}
use Rattle.lc_desk.proofs.desk.Desk.begun.Given as goal

abbrev pub invariant-loop-seat : goal.invariant-loop-seat
invariant-loop-seat l = record {
  count : l.begun ≡ begun_in (take l.seat-index l.seat-items);
  few : l.begun ≤ l.seat-index;
}
