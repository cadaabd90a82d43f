use Rattle.std.proofs.Common.{◌≡◌, List, take, drop, length, ◌++◌, sym, ap, subst, ◌∙◌, arith}
use Rattle.lc_recover.specs.Reads.{HaveLengths}
use Rattle.lc_recover.specs.Recovery.{begun}
use Rattle.lc_core.specs.Areas.{AreStopped}
use Rattle.lc_core.specs.Stops.{AreLeftBy}
use Rattle.lc_core.specs.declared.world_phase.WorldPhase.TheVariants.{Down}
use Rattle.lc_desk.proofs.Furnishing.{all_back}
use Rattle.lc_core.proofs.ImagesFit.{stopped_lengths}
use Rattle.lc_core.proofs.Stopped.{by_stops, left_so}
use Rattle.lc_core.proofs.world_phase.WorldPhase.stopped.Goals as goal

pub unreachable-requires : goal.unreachable-requires
unreachable-requires g c =
    let news = c.stop_all.new.areas in
    let back : take c.in-Some.areas.len (news ++ drop (length news) c.in-Some.areas.items) ≡ news =
    all_back c.in-Some.areas.len news (drop (length news) c.in-Some.areas.items) (omega (arith, c.stop_all.auto.areas, c.as_mut_slice.ensures.len)) in
    let stopped : AreStopped g.D.Area c.in-Some.areas.items news = subst (λ (l : List g.row.D.Denot). AreStopped g.D.Area l news) c.as_mut_slice.ensures.value c.stop_all.ensures.stopped in
    let lengths : HaveLengths g.D.Area c.in-Some.geometry (take c.in-Some.areas.len (news ++ drop (length news) c.in-Some.areas.items)) =
    subst (λ (l : List g.row.D.Denot). HaveLengths g.D.Area c.in-Some.geometry l) (sym back) (stopped_lengths g.D.Area c.in-Some.areas.items news stopped c.in-Some.geometry c.in-Some.ensures.lengths) in
    c.in-Err.ensures.wrong.2.is (lengths c.in-Err.ensures.wrong.0)

pub returns-clause-chosen : goal.returns-clause-chosen
returns-clause-chosen g c =
    let news = c.stop_all.new.areas in
    let back : take c.in-Some.areas.len (news ++ drop (length news) c.in-Some.areas.items) ≡ news =
    all_back c.in-Some.areas.len news (drop (length news) c.in-Some.areas.items) (omega (arith, c.stop_all.auto.areas, c.as_mut_slice.ensures.len)) in
    left_so g.D.Area g.D.Stoppable.left c.args.choices.now c.args.self c.in-Some.geometry c.in-Some.areas.items news _ c.in-Some.ensures.areas
    (subst (λ (l : List g.row.D.Denot). AreLeftBy g.D.Area g.D.Stoppable.left c.args.choices.now l news) c.as_mut_slice.ensures.value c.stop_all.ensures.chosen)
    (ap Down (c.in-Ok.ensures.begun ∙ ap (begun c.in-Some.geometry) back))

pub returns-clause-stops : goal.returns-clause-stops
returns-clause-stops g c =
    let news = c.stop_all.new.areas in
    let back : take c.in-Some.areas.len (news ++ drop (length news) c.in-Some.areas.items) ≡ news =
    all_back c.in-Some.areas.len news (drop (length news) c.in-Some.areas.items) (omega (arith, c.stop_all.auto.areas, c.as_mut_slice.ensures.len)) in
    by_stops g.D.Area c.args.self c.in-Some.geometry c.in-Some.areas.items news _ c.in-Some.ensures.areas
    (subst (λ (l : List g.row.D.Denot). AreStopped g.D.Area l news) c.as_mut_slice.ensures.value c.stop_all.ensures.stopped)
    (ap Down (c.in-Ok.ensures.begun ∙ ap (begun c.in-Some.geometry) back))
