use Rattle.std.proofs.Common.{rules, ◌∷◌, sym, ap, ◌∙◌, Some, None}
use Rattle.atomic_table.specs.Table.{rest}
use Rattle.lc_lock.proofs.Seats.{is_holding}
use Rattle.lc_lock.proofs.ticket_lock.TicketLock.lock.Goals as goal

pub exchange-requires : goal.exchange-requires
exchange-requires g c = let s = c.wait_for_turn.ensures.served in (search rules, (Some s.1, ap (λ m. m.1) s.4 ∙ (λ k. (0, Some s.1) ∷ ap (λ m. rest m.1) (sym s.4) k)))

pub invariant_of-result-clause-holds : goal.invariant_of-result-clause-holds
invariant_of-result-clause-holds g c = let s = c.wait_for_turn.ensures.served in let now = c.exchange.ensures.3 in
    is_holding _ s.0 (ap (λ m. m.0.turn) now ∙ ap (λ m. m.0.turn) s.4) (ap (λ m. m.1) now ∙ (λ k. (0, None) ∷ ap (λ m. rest m.1) s.4 k))
