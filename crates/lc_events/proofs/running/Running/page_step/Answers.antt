use Rattle.std.proofs.Common.{◌<◌, [], ◌∷◌, refl, arith}
use Rattle.std.proofs.lemmas.Option.{slice_get_read}
use Rattle.lc_model.specs.declared.event.Event.TheVariants.{PageStep}
use Rattle.lc_model.proofs.Rows.{node_known}
use Rattle.lc_events.proofs.LogAreas.{areas_stay}
use Rattle.lc_events.proofs.Onward.{onward, travel_on, whole_set}
use Rattle.lc_events.proofs.running.Running.page_step.Goals as goal

pub invariant_of-self : goal.invariant_of-self
invariant_of-self g c =
    let w = c.args.self.now in
    let node = c.index_mut.result.now in
    let within : c.args.node < w.nodes.len = omega (arith, w.all_nodes, node_known w.geometry c.args.node (c.args.segment ∷ []) (c.args.page ∷ []) c.requires.known) in
    let at = slice_get_read w.nodes.items w.nodes.len c.args.node node w.nodes.ok.0 within c.index_mut.ensures.value in
    record {
      few = w.few;
      all_nodes = w.all_nodes;
      all_places = w.all_places;
      named = w.named;
      whole = whole_set g.D.Area w.geometry w.nodes.items c.args.node node c.page_step.new.self at w.whole c.page_step.ensures.whole.seats c.page_step.ensures.whole.slots;
    }

pub returns-clause-follows : goal.returns-clause-follows
unfolding onward
returns-clause-follows g c = λ m s x h common area halts.
    let w = c.args.self.now in
    let node = c.index_mut.result.now in
    let within : c.args.node < w.nodes.len = omega (arith, w.all_nodes, node_known w.geometry c.args.node (c.args.segment ∷ []) (c.args.page ∷ []) c.requires.known) in
    let at = slice_get_read w.nodes.items w.nodes.len c.args.node node w.nodes.ok.0 within c.index_mut.ensures.value in
    let event = PageStep c.args.node c.args.segment c.args.page in
    let goes = c.page_step.ensures.follows m c.args.node s x h.sound common (h.each c.args.node node at) area halts in (
      onward g.D.Area m c.args.node event s x c.page_step.result w.geometry w.nodes.items w.travelling.items h common node at c.page_step.new.self goes.0 w.travelling.items
          (travel_on g.D.Area m c.args.node event s x c.page_step.result w.geometry w.nodes.items w.travelling.items h common node at c.page_step.new.self goes.0 (λ k e. absurd (omega (arith, e)))),
      goes.1,
      goes.2,
    )

pub returns-clause-logs : goal.returns-clause-logs
returns-clause-logs g c =
    let w = c.args.self.now in
    let node = c.index_mut.result.now in
    let within : c.args.node < w.nodes.len = omega (arith, w.all_nodes, node_known w.geometry c.args.node (c.args.segment ∷ []) (c.args.page ∷ []) c.requires.known) in
    let at = slice_get_read w.nodes.items w.nodes.len c.args.node node w.nodes.ok.0 within c.index_mut.ensures.value in
    record { geometry = refl; areas = areas_stay g.D.Area w.nodes.items c.args.node node c.page_step.new.self at c.page_step.ensures.log }
