use Rattle.std.proofs.Common.{arith, subst, List}
use Rattle.lc_recover.proofs.Going.{begun-going}
use Rattle.lc_recover.specs.Reads.{AreOfBytes}
use Rattle.lc_recover.specs.Recovery.{IsGoing}
use Rattle.lc_recover.specs.declared.recovery_phase.RecoveryPhase.TheVariants.{Syncing}
use Rattle.lc_recover.proofs.recovery.Recovery.new.Goals as goal

pub overflow_cast-area : goal.overflow_cast-area
overflow_cast-area g c = omega (arith, c.in-Some.ensures.few, c.args.geometry.few_nodes, c.args.geometry.few_segments)

pub invariant_of-result : goal.invariant_of-result
invariant_of-result g c =
    subst (λ (l : List g.row.D.Denot). IsGoing g.D.Area c.args.geometry (Syncing 0) l) c.as_slice.ensures.value
    (begun-going g.D.Area c.args.geometry c.as_slice.result.now c.in_default.ensures.right c.in_default.ensures.bytes)

pub returns-clause-bytes : goal.returns-clause-bytes
returns-clause-bytes g c = subst (λ (l : List g.row.D.Denot). AreOfBytes g.D.Area l) c.as_slice.ensures.value c.in_default.ensures.bytes
