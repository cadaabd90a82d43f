use Rattle.std.proofs.Common.{◌≡◌, ℕ, ◌+◌, ◌<◌, length, ap, ◌∙◌, arith, refl}
use Rattle.lc_lock.specs.declared.ticket_lock.TicketLock.{TicketLock}
use Rattle.lc_lock.specs.Loans.{key_of}
use Rattle.lc_segments.specs.SegView.{SegView}
use Rattle.lc_node.proofs.EachPlace.{each_more, each_none, first_is, left_is}
use Rattle.lc_node.proofs.coming_up.lock_all.Goals as goal

pub loop-init : goal.loop-init
loop-init g c = record {
  left = omega arith;
  filled = omega (arith, ap length c.requires.empty, c.args.locks.ok.0);
  space = refl;
  rest = λ k s got. (let here : k + 1 ≡ (0 + k) + 1 = omega arith in c.requires.in_order k s got ∙ here);
  in_order = each_none (λ k (lock : TicketLock (SegView g.row.D.Denot) ℕ). key_of lock ≡ k + 1) c.args.locks.items c.requires.empty;
}

pub loop-preserved : goal.loop-preserved
loop-preserved g c =
    let inv = c.loop.invariant in
    let at = c.loop.counter in
    let some : 0 < length c.loop.segments.items = omega (arith, inv.left, c.loop-test.true, c.len-end.ensures, c.loop.segments.ok.0) in
    let here : (at + 0) + 1 ≡ at + 1 = omega arith in
    record {
      left = omega (arith, c.remove.ensures.len, inv.left);
      filled = omega (arith, c.push_reserved.ensures.len, inv.filled);
      space = omega (arith, c.push_reserved.ensures.capacity, inv.space);
      rest = λ k s got.
          (let next : (at + (1 + k)) + 1 ≡ ((at + 1) + k) + 1 = omega arith in
          inv.rest (1 + k) s (left_is c.loop.segments.items c.remove.new.self.items k s c.remove.ensures.items got) ∙ next);
      in_order = each_more (λ k (lock : TicketLock (SegView g.row.D.Denot) ℕ). key_of lock ≡ k + 1) c.push_reserved.new.self.items c.loop.locks.items c.come_up.result at
          c.push_reserved.ensures.items (omega (arith, inv.filled, c.loop.locks.ok.0)) inv.in_order
          (c.come_up.ensures ∙ inv.rest 0 c.remove.result (first_is c.loop.segments.items c.remove.result some c.remove.ensures.value) ∙ here);
    }
