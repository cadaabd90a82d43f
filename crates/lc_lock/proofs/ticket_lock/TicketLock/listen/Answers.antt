use Rattle.std.proofs.Common.{rules}
use Rattle.lc_lock.proofs.Keeps.{listens}
use Rattle.lc_lock.proofs.ticket_lock.TicketLock.listen.Goals as goal

pub fetch_or-requires : goal.fetch_or-requires
fetch_or-requires g c = (search rules, search rules, listens g.T.Keyed.fits _ _ _ _ _ c.requires.bell.0)
