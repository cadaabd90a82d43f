use Rattle.std.proofs.Common.{rules, ◌≡◌, ◌∷◌, [], replicate, ap, ◌∙◌, None}
use Rattle.lc_lock.specs.declared.bells.TheConstants.{BELLS}
use Rattle.lc_lock.proofs.Keeps.{opens, begins}
use Rattle.lc_lock.proofs.Seats.{is_holding}
use Rattle.lc_lock.proofs.ticket_lock.TicketLock.vacant.Goals as goal

pub vacant-requires : goal.vacant-requires
vacant-requires g c = opens g.T.Keyed.fits c.args.key.now _ (replicate BELLS 0) (search rules)

pub load-requires : goal.load-requires
load-requires g c = (search rules, search rules, begins g.T.Keyed.fits _ _ _ _ (search rules))

pub invariant_of-result-2-clause-holds : goal.invariant_of-result-2-clause-holds
invariant_of-result-2-clause-holds g c = let now = c.load.ensures.2 in let bare : c.in_ok-table.seat.me.1 ≡ [] = search rules in
    is_holding _ 0 (ap (λ m. m.0.turn) now) (ap (λ m. m.1) now ∙ (λ k. (0, None) ∷ bare k))
