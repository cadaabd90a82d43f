use Rattle.std.proofs.Common.{[], inl, inr, arith}
use Rattle.lc_log.proofs.StateLemmas.{rest_image, opening_image}
use Rattle.lc_journal.proofs.log.Log.give_up.Goals as goal

pub returns-in-Idle-clause-stands : goal.returns-in-Idle-clause-stands
returns-in-Idle-clause-stands g c = rw c.in-Idle.is (λ steps stable group stands honest image is.
    inl (rest_image (g.D.Area.now c.in-Idle.log.area) (g.D.Area.dirty c.in-Idle.log.area) c.in-Idle.log.end stable (stands.2 honest) image is))

pub returns-in-Written-clause-stands : goal.returns-in-Written-clause-stands
returns-in-Written-clause-stands g c = rw c.in-Written.is (λ steps stable group stands honest image is.
    inl (rest_image (g.D.Area.now c.in-Written.log.area) (g.D.Area.dirty c.in-Written.log.area) c.in-Written.log.end stable (stands.1 honest).at_rest image is))

pub returns-in-Synced-clause-stands : goal.returns-in-Synced-clause-stands
returns-in-Synced-clause-stands g c = rw c.in-Synced.is (λ steps stable group stands honest image is.
    inl (rest_image (g.D.Area.now c.in-Synced.log.area) (g.D.Area.dirty c.in-Synced.log.area) c.in-Synced.log.end stable (stands.1 honest).0.at_rest image is))

pub returns-in-Opened-clause-stands : goal.returns-in-Opened-clause-stands
returns-in-Opened-clause-stands g c = rw c.in-Opened.is (λ steps stable group stands honest image is.
    elim (opening_image 165 (g.D.Area.now c.in-Opened.log.area) (g.D.Area.dirty c.in-Opened.log.area) c.in-Opened.log.end c.in-Opened.log.words stable group (stands.1 honest) image is) [
      | inl without ↦ inl without
      | inr whole ↦ inr (omega (arith, stands.0), whole)
    ])

pub returns-in-Sealed-clause-stands : goal.returns-in-Sealed-clause-stands
returns-in-Sealed-clause-stands g c = rw c.in-Sealed.is (λ steps stable group stands. (
  stands.0,
  stands.1,
  λ honest image is.
      inr (rest_image (g.D.Area.now c.in-Sealed.log.area) (g.D.Area.dirty c.in-Sealed.log.area) c.in-Sealed.log.end stable (stands.2 honest) image is),
))

pub returns-in-Emptied-clause-stands : goal.returns-in-Emptied-clause-stands
returns-in-Emptied-clause-stands g c = rw c.in-Emptied.is (λ steps stable group stands. (
  stands.0,
  stands.1,
  λ honest image is.
      inl (rest_image (g.D.Area.now c.in-Emptied.log.area) (g.D.Area.dirty c.in-Emptied.log.area) c.in-Emptied.log.end [] (stands.2 honest) image is),
))
