use Rattle.std.proofs.Common.{◌≡◌, refl, sym, subst}
use Rattle.std.specs.Prelude.{replicate}
use Rattle.lc_record.specs.declared.geometry.Geometry.{Geometry}
use Rattle.lc_recover.specs.Reads.{AllMergeTo}
use Rattle.lc_recover.specs.Recovery.{Recovering, begun}
use Rattle.lc_model.specs.Sound.{Sound}
use Rattle.lc_model.specs.State.{first_state}
use Rattle.lc_model.proofs.Keeps.{sound-first}
use Rattle.lc_core.specs.World.{FitsDown}
use Rattle.lc_core.proofs.world.World.new.Goals as goal

pub returns-clause-fits : goal.returns-clause-fits
returns-clause-fits g c m x same honest merges none =
    let is : c.in_ok-recovery.recovery ≡ begun c.args.geometry c.args.areas.items = c.in_ok-recovery.ensures.begun in
    subst (λ (r : Recovering g.row.D.Denot). FitsDown g.D.Area m r (first_state c.args.geometry) x) (sym is) record {
      geometry_is = sym same;
      cut = replicate c.args.geometry.nodes 0;
      down = refl;
      sound = subst (λ (v : Geometry). Sound v (first_state c.args.geometry)) (sym same) (sound-first c.args.geometry);
      lengths = c.in_ok-recovery.ensures.right;
      honest = honest;
      merges = subst (λ (v : Geometry). AllMergeTo g.D.Area v c.args.areas.items m.start x.disks.numbers) (sym same) merges;
      steps_are = none;
    }
