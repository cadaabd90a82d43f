-- A seat that holds its turn.
use Rattle.std.proofs.Common.{◌≡◌, ℕ, [], ◌∷◌, sym, ap, ◌∙◌}
use Rattle.std.specs.Prelude.{Option, None}
use Rattle.atomic_table.specs.declared.shared.Seat.{Seat}
use Rattle.lc_lock.specs.declared.turn.TicketState.TheVariants.{Holds}
use Rattle.lc_lock.specs.declared.turn.LockView.{LockView}
use Rattle.lc_lock.specs.TicketQueue.{ticket_of, place, holding}

module _ {T K : Type 0} where
  pub is_holding : (s : Seat (Option T) (LockView K)) (n : ℕ) → s.me.0.turn ≡ Holds n → s.me.1 ≡ (0, None) ∷ [] → s ≡ holding s
  is_holding s n a b = let turn : s.me.0.turn ≡ Holds (ticket_of s.me.0.turn) = a ∙ sym (ap (λ z. Holds (ticket_of z)) a) in λ k. record s { me = (place s.me.0.key (turn k), b k) }
