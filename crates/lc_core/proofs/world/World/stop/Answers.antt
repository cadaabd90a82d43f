use Rattle.std.proofs.Common.{subst}
use Rattle.lc_core.proofs.Geometries.{stops_geometry}
use Rattle.lc_core.proofs.Stopped.{stop_counts, stop_leads}
use Rattle.lc_core.specs.Stops.{IsLeftBy, StopsAll}
use Rattle.lc_core.specs.declared.world_phase.WorldPhase.{WorldPhase}
use Rattle.lc_core.proofs.world.World.stop.Given.{Over}
use Rattle.lc_core.proofs.world.World.stop.Goals as goal

module _ (g : Over) (c : goal.Joined-self-stopped g) where
  stops : StopsAll g.D.Area c.args.self.now.phase c.stopped.result
  stops = subst (λ (p : WorldPhase g.row.D.Denot g.D.Area). StopsAll g.D.Area p c.stopped.result) c.replace.ensures.value c.stopped.ensures.stops

pub returns-clause-follows : goal.returns-clause-follows
returns-clause-follows g c = λ m s x h. stop_leads g.D.Area m s x c.args.choices.now c.args.self.now.phase c.stopped.result (stops g c) h

pub returns-clause-counts : goal.returns-clause-counts
returns-clause-counts g c = stop_counts g.D.Area c.args.self.now.phase c.stopped.result (stops g c)

pub returns-clause-geometry : goal.returns-clause-geometry
returns-clause-geometry g c = stops_geometry g.D.Area c.args.self.now.phase c.stopped.result (stops g c)

pub returns-clause-chosen : goal.returns-clause-chosen
returns-clause-chosen g c = subst (λ (p : WorldPhase g.row.D.Denot g.D.Area). IsLeftBy g.D.Area g.D.Stoppable.left c.args.choices.now p c.stopped.result) c.replace.ensures.value c.stopped.ensures.chosen
