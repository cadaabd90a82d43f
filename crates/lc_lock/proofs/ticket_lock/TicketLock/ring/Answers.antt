use Rattle.std.proofs.Common.{rules}
use Rattle.lc_lock.proofs.Keeps.{rings}
use Rattle.lc_lock.proofs.ticket_lock.TicketLock.ring.Goals as goal

pub fetch_add-requires : goal.fetch_add-requires
fetch_add-requires g c = (search rules, search rules, rings g.T.Keyed.fits _ _ _ _ _ c.requires.bell.0)
