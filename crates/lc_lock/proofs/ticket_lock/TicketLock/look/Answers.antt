use Rattle.std.proofs.Common.{rules, ap}
use Rattle.lc_lock.proofs.Keeps.{takes_turn}
use Rattle.lc_lock.proofs.ticket_lock.TicketLock.look.Goals as goal

pub load-requires : goal.load-requires
load-requires g c = (search rules, search rules, takes_turn g.T.Keyed.fits _ _ _ c.requires.waits.0 _ (ap (λ m. m.0.turn) c.requires.waits.3))
