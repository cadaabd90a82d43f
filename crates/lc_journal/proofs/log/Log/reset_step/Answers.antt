use Rattle.std.proofs.Common.{refl}
use Rattle.lc_journal.proofs.CallsTold.{reset_rests}
use Rattle.lc_journal.proofs.log.Log.reset_step.Goals as goal

pub returns-in-Ok-clause-steps : goal.returns-in-Ok-clause-steps
returns-in-Ok-clause-steps g c = rw c.in-Sealed.is (λ stable idle. (refl, refl, c.in-Ok.ensures.closing stable idle))

pub returns-in-Err-clause-steps : goal.returns-in-Err-clause-steps
returns-in-Err-clause-steps g c = rw c.in-Sealed.is (λ stable idle. (refl, refl, c.in-Err.ensures.failed stable idle))

pub returns-in-Err-reset_sync-clause-steps : goal.returns-in-Err-reset_sync-clause-steps
returns-in-Err-reset_sync-clause-steps g c = rw c.in-Closing.is (λ stable closing. (refl, refl, c.in-Err-reset_sync.ensures.failed stable closing))

pub returns-in_default : goal.returns-in_default
returns-in_default g c = absurd (reset_rests g.D.Area c.args.self c.in_default.not-Sealed c.in_default.not-Closing c.requires.sealed c.requires.full)
