use Rattle.std.proofs.Common.{◌≡◌, ℕ, ◌+◌, Some, vec_len, vec_capacity}
use Rattle.std.specs.Prelude.{slice_get}
use Rattle.lc_lock.specs.declared.ticket_lock.TicketLock.{TicketLock}
use Rattle.lc_lock.specs.Loans.{key_of}
use Rattle.lc_segments.specs.SegView.{SegView}
use Rattle.lc_node.specs.declared.fresh_segment.FreshSegment.{FreshSegment}
use Rattle.lc_node.proofs.coming_up.lock_all.Given as goal

abbrev pub invariant-loop : goal.invariant-loop
invariant-loop g l = record {
  left : vec_len l.segments + l.counter ≡ vec_len l.fn.segments;
  filled : vec_len l.locks ≡ l.counter;
  space : vec_capacity l.locks ≡ vec_capacity l.fn.locks;
  rest : (k : ℕ) (s : FreshSegment g.row.D.Denot) → slice_get l.segments.items k ≡ Some s → key_of s.lock.lock ≡ (l.counter + k) + 1;
  in_order : (k : ℕ) (lock : TicketLock (SegView g.row.D.Denot) ℕ) → slice_get l.locks.items k ≡ Some lock → key_of lock ≡ k + 1;
}
