use Rattle.std.proofs.Common.{◌≡◌, ℕ, List, length}
use Rattle.std.specs.VecDeque.{deque_capacity}
use Rattle.lc_token.specs.declared.token.Token.{Token}
use Rattle.lc_segments.specs.Writes.{AreUnderWay, HaveRoom}
use Rattle.lc_segments.proofs.UnderWay.{calls_left}
use Rattle.lc_segments.proofs.page_writes.finish_all.Given as goal

abbrev pub invariant-loop-write : goal.invariant-loop-write
invariant-loop-write g l = record {
  room : HaveRoom g.D.Area l.area l.writes.items;
  same_capacity : deque_capacity l.writes ≡ deque_capacity l.fn.writes;
  no_failure : g.D.Area.failures l.area ≡ g.D.Area.failures l.fn.area;
  under_way : (since : ℕ) (token : Token) (bytes : List ℕ) → AreUnderWay g.D.Area since l.fn.area token bytes (length token.pages) l.fn.writes.items
      → AreUnderWay g.D.Area since l.area token bytes (length token.pages) l.writes.items;
}

abbrev pub decreases-loop-write : goal.decreases-loop-write
decreases-loop-write g l = calls_left l.writes.items
