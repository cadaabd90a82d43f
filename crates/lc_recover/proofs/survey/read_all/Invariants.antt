use Rattle.std.proofs.Common.{◌≡◌, map}
use Rattle.lc_recover.specs.KeptAreas.{IsReadOf, read_count}
use Rattle.lc_recover.specs.Reads.{AreHonest, AreLeftAs}
use Rattle.lc_recover.specs.RecoveryPhase.{AreasFit}
use Rattle.lc_recover.specs.declared.recovery_phase.RecoveryPhase.TheVariants.{Syncing}
use Rattle.lc_recover.proofs.survey.read_all.Given as goal

abbrev pub invariant-loop : goal.invariant-loop
invariant-loop g l = record {
  fits : AreasFit g.D.Area l.geometry (Syncing 0) l.areas;
  count : read_count l.read ≡ l.counter;
  read : IsReadOf g.D.Area l.geometry l.areas l.read;
  honest : AreHonest g.D.Area l.initial.areas → AreHonest g.D.Area l.areas;
  left : AreLeftAs g.D.Area l.initial.areas l.areas;
  reads : AreHonest g.D.Area l.initial.areas → map g.D.Area.now l.areas ≡ map g.D.Area.now l.initial.areas;
}
