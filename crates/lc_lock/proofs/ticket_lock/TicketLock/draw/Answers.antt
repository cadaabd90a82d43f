use Rattle.std.proofs.Common.{rules, sym, ◌∙◌, true≢false}
use Rattle.lc_lock.proofs.Keeps.{comes, draws}
use Rattle.lc_lock.proofs.ticket_lock.TicketLock.draw.Goals as goal

pub load_new_seat-word-requires : goal.load_new_seat-word-requires
load_new_seat-word-requires g c = (search rules, comes g.T.Keyed.fits _ _)

pub compare_exchange-found-requires : goal.compare_exchange-found-requires
compare_exchange-found-requires g c = (search rules, search rules, draws g.T.Keyed.fits _ _ _ _ _ _ c.loop.invariant.idle (λ full. absurd (true≢false (sym (c.is_full.ensures.1 full) ∙ c.if-is_full.false))) (search rules))
