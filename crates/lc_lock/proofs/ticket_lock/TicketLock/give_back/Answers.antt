use Rattle.std.proofs.Common.{rules, ◌∷◌, sym, ap, ◌∙◌, Some, None}
use Rattle.atomic_table.specs.Table.{rest}
use Rattle.lc_lock.specs.TicketQueue.{ticket_of}
use Rattle.lc_lock.proofs.Keeps.{serves}
use Rattle.lc_lock.proofs.ticket_lock.TicketLock.give_back.Goals as goal

pub exchange-before-requires : goal.exchange-before-requires
exchange-before-requires g c = let s = c.requires.holds in (search rules, (None, ap (λ z. z.me.1) s ∙ (λ k. (0, None) ∷ ap (λ z. rest z.me.1) (sym s) k)))

pub fetch_add-requires : goal.fetch_add-requires
fetch_add-requires g c = let s = c.requires.holds in let now = c.exchange-before.ensures.3 in (
  search rules,
  search rules,
  serves g.T.Keyed.fits _ _ _ (ticket_of c.args.seat.now.me.0.turn) c.args.ticket _ _ c.args.value (search rules) (ap (λ m. m.0.turn) now ∙ ap (λ z. z.me.0.turn) s) (ap (λ m. m.1) now ∙ (λ k. (0, Some c.args.value) ∷ ap (λ z. rest z.me.1) s k)) c.requires.ticket c.requires.fits (search rules),
)
