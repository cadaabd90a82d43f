use Rattle.std.proofs.Common.{◌≡◌, ℕ, ◌≤◌}
use Rattle.std.specs.VecDeque.{deque_capacity, deque_len}
use Rattle.lc_segments.specs.Pages.{FitsToken}
use Rattle.lc_segments.specs.Writes.{AreUnderWay}
use Rattle.lc_segments.proofs.page_writes.begin_all.Given as goal

abbrev pub invariant-loop-page : goal.invariant-loop-page
invariant-loop-page g l = record {
  under_way : (since : ℕ) → FitsToken g.D.Area since l.fn.area l.token l.bytes → AreUnderWay g.D.Area since l.area l.token l.bytes l.page l.writes.items;
  few : deque_len l.writes ≤ l.page;
  same_capacity : deque_capacity l.writes ≡ deque_capacity l.fn.writes;
  no_failure : g.D.Area.failures l.area ≡ g.D.Area.failures l.fn.area;
}
