use Rattle.std.proofs.Common.{drop, List, refl, sym, ap, subst, ◌∙◌}
use Rattle.std.specs.Prelude.{slice_get}
use Rattle.lc_record.specs.declared.geometry.Geometry.{Geometry}
use Rattle.lc_recover.specs.Reads.{AreOfBytes, HaveLengths}
use Rattle.lc_recover.specs.Recovery.{Recovering}
use Rattle.lc_core.specs.Pages.{RestsAll}
use Rattle.lc_core.specs.Recovering.{HasComeUp}
use Rattle.lc_core.specs.declared.world_phase.WorldPhase.TheVariants.{Up}
use Rattle.lc_core.proofs.Recoveries.{down_same}
use Rattle.lc_core.proofs.world_phase.WorldPhase.risen.Goals as goal

pub finish-requires : goal.finish-requires
finish-requires g c = c.requires.done c.in-Down.recovery c.in-Down.is

pub furnish-requires-clause-geometry : goal.furnish-requires-clause-geometry
furnish-requires-clause-geometry g c = c.finish.ensures.geometry ∙ c.requires.geometry c.in-Down.recovery c.in-Down.is

pub furnish-requires-clause-lengths : goal.furnish-requires-clause-lengths
furnish-requires-clause-lengths g c =
    subst (λ (v : Geometry). HaveLengths g.D.Area v c.finish.result.areas) (sym c.finish.ensures.geometry)
    (subst (λ (areas : List g.row.D.Denot). HaveLengths g.D.Area c.in-Down.recovery.geometry areas) (sym c.finish.ensures.areas)
    (c.requires.lengths c.in-Down.recovery c.in-Down.is))

pub returns : goal.returns
returns g c r is =
    let came : HasComeUp g.D.Area c.in-Down.recovery (Up c.furnish.result) = (
      c.furnish.result,
      refl,
      record {
        store = c.finish.result;
        geometry = c.finish.ensures.geometry;
        areas = c.finish.ensures.areas;
        same_geometry = c.furnish.ensures.geometry ∙ c.finish.ensures.geometry;
        log_areas = λ n node got. c.furnish.ensures.log_areas n node got ∙ ap (λ (areas : List g.row.D.Denot). slice_get areas n) c.finish.ensures.areas;
        made = c.finish.ensures.made;
        each = c.finish.ensures.each;
        fresh = c.furnish.ensures.fresh;
        lengths = c.requires.lengths c.in-Down.recovery c.in-Down.is;
        bytes = subst (λ (areas : List g.row.D.Denot). AreOfBytes g.D.Area areas) c.finish.ensures.areas c.furnish.ensures.bytes;
        segments = c.furnish.ensures.areas
            ∙ ap (λ (v : Geometry). drop v.nodes c.finish.result.areas) c.finish.ensures.geometry
            ∙ ap (λ (areas : List g.row.D.Denot). drop c.in-Down.recovery.geometry.nodes areas) c.finish.ensures.areas;
        rest = subst (λ (v : Geometry). RestsAll g.D.Area v c.furnish.result.segments.items) c.finish.ensures.geometry c.furnish.ensures.rest;
      },
    ) in
    subst (λ (v : Recovering g.row.D.Denot). HasComeUp g.D.Area v (Up c.furnish.result))
    (down_same g.D.Area c.in-Down.recovery r (sym c.in-Down.is ∙ is)) came
