use Rattle.std.proofs.Common.{◌≡◌, ℕ, ◌+◌, ◌-◌, ◌<◌, [], ◌∷◌, length, Some, None, refl, sym, ap, subst, ◌∙◌, arith}
use Rattle.std.specs.Prelude.{slice_set}
use Rattle.std.proofs.lemmas.Option.{slice_get_read, slice_get-get_or, same_Some as same_some}
use Rattle.lc_token.specs.declared.token.Token.{Token}
use Rattle.lc_model.proofs.Rows.{node_known}
use Rattle.lc_model.specs.declared.event.Event.TheVariants.{Leave}
use Rattle.lc_model.specs.declared.reply.Reply.TheVariants.{Ok as Accepted, Refused}
use Rattle.lc_desk.specs.Slots.{FitsToken}
use Rattle.lc_events.proofs.Onward.{onward, stays_onward, whole_set}
use Rattle.lc_events.proofs.Travels.{named_set, segment_known, travel_moved}
use Rattle.lc_events.proofs.Faults.{logs_stay}
use Rattle.lc_events.proofs.running.Running.send_off.Goals as goal

pub invariant_of-self : goal.invariant_of-self
invariant_of-self g c =
    let w = c.args.self.now in
    let node = c.index_mut.result.now in
    let within : c.args.node < w.nodes.len = omega (arith, w.all_nodes, node_known w.geometry c.args.node (c.args.segment ∷ []) [] c.requires.known) in
    let at = slice_get_read w.nodes.items w.nodes.len c.args.node node w.nodes.ok.0 within c.index_mut.ensures.value in
    let segment = segment_known w.geometry c.args.node c.args.segment c.requires.known in
    let place : c.args.segment - 1 < length w.travelling.items = omega (arith, segment.0, segment.1, w.all_places, w.travelling.ok.0) in
    let named : (c.args.segment - 1) + 1 ≡ c.args.segment = omega (arith, segment.0) in
    record {
      few = w.few;
      all_nodes = w.all_nodes;
      all_places = w.all_places;
      whole = whole_set g.D.Area w.geometry w.nodes.items c.args.node node c.leave.new.self at w.whole c.leave.ensures.whole.seats c.leave.ensures.whole.slots;
      named = named_set w.travelling.items (c.args.segment - 1) _ (Some c.in-Ok.token) (slice_get-get_or w.travelling.items (c.args.segment - 1) None place)
          (λ token is. ap (λ (t : Token). t.segment) (sym (same_some c.in-Ok.token token is)) ∙ c.in-Ok.ensures.segment ∙ sym named) w.named;
    }

pub invariant_of-self-in-Err-1 : goal.invariant_of-self-in-Err-1
invariant_of-self-in-Err-1 g c =
    let w = c.args.self.now in
    let node = c.index_mut.result.now in
    let within : c.args.node < w.nodes.len = omega (arith, w.all_nodes, node_known w.geometry c.args.node (c.args.segment ∷ []) [] c.requires.known) in
    let at = slice_get_read w.nodes.items w.nodes.len c.args.node node w.nodes.ok.0 within c.index_mut.ensures.value in
    let segment = segment_known w.geometry c.args.node c.args.segment c.requires.known in
    let place : c.args.segment - 1 < length w.travelling.items = omega (arith, segment.0, segment.1, w.all_places, w.travelling.ok.0) in
    let named : (c.args.segment - 1) + 1 ≡ c.args.segment = omega (arith, segment.0) in
    record {
      few = w.few;
      all_nodes = w.all_nodes;
      all_places = w.all_places;
      whole = whole_set g.D.Area w.geometry w.nodes.items c.args.node node c.leave.new.self at w.whole c.leave.ensures.whole.seats c.leave.ensures.whole.slots;
      named = w.named;
    }

pub returns-in-Ok : goal.returns-in-Ok
returns-in-Ok g c = record {
  follows = λ m s x h common told.
      let w = c.args.self.now in
      let node = c.index_mut.result.now in
      let within : c.args.node < w.nodes.len = omega (arith, w.all_nodes, node_known w.geometry c.args.node (c.args.segment ∷ []) [] c.requires.known) in
      let at = slice_get_read w.nodes.items w.nodes.len c.args.node node w.nodes.ok.0 within c.index_mut.ensures.value in
      let segment = segment_known w.geometry c.args.node c.args.segment c.requires.known in
      let place : c.args.segment - 1 < length w.travelling.items = omega (arith, segment.0, segment.1, w.all_places, w.travelling.ok.0) in
      let named : (c.args.segment - 1) + 1 ≡ c.args.segment = omega (arith, segment.0) in
      let left = c.in-Ok.ensures.follows m c.args.node s x h.sound common (h.each c.args.node node at) told in
      onward g.D.Area m c.args.node (Leave c.args.node c.args.segment) s x Accepted w.geometry w.nodes.items w.travelling.items h common node at c.leave.new.self left.0
      (slice_set w.travelling.items (c.args.segment - 1) (Some c.in-Ok.token))
      (travel_moved g.D.Area m c.args.node (Leave c.args.node c.args.segment) s x Accepted w.geometry w.nodes.items w.travelling.items h c.leave.new.self left.0 (c.args.segment - 1) _
      (Some c.in-Ok.token) (sym named) (slice_get-get_or w.travelling.items (c.args.segment - 1) None place)
      (λ token is. (
        ap left.0.after.place named ∙ left.1,
        subst (λ (t : Token). FitsToken m ((c.args.segment - 1) + 1) t left.0.after left.0.next) (same_some c.in-Ok.token token is) (subst (λ (i : ℕ). FitsToken m i c.in-Ok.token left.0.after left.0.next) (sym named) left.2),
      ))
      (λ none. absurd cc));
  names = refl;
  logs =
      let w = c.args.self.now in
      let node = c.index_mut.result.now in
      let within : c.args.node < w.nodes.len = omega (arith, w.all_nodes, node_known w.geometry c.args.node (c.args.segment ∷ []) [] c.requires.known) in
      let at = slice_get_read w.nodes.items w.nodes.len c.args.node node w.nodes.ok.0 within c.index_mut.ensures.value in
      record { geometry = refl; logs = logs_stay g.D.Area w.nodes.items c.args.node node c.leave.new.self at c.leave.ensures.log };
}

pub returns-in-Err : goal.returns-in-Err
returns-in-Err g c = record {
  follows = λ m s x h common told.
      let w = c.args.self.now in
      let node = c.index_mut.result.now in
      let within : c.args.node < w.nodes.len = omega (arith, w.all_nodes, node_known w.geometry c.args.node (c.args.segment ∷ []) [] c.requires.known) in
      let at = slice_get_read w.nodes.items w.nodes.len c.args.node node w.nodes.ok.0 within c.index_mut.ensures.value in
      let segment = segment_known w.geometry c.args.node c.args.segment c.requires.known in
      let place : c.args.segment - 1 < length w.travelling.items = omega (arith, segment.0, segment.1, w.all_places, w.travelling.ok.0) in
      let named : (c.args.segment - 1) + 1 ≡ c.args.segment = omega (arith, segment.0) in
      stays_onward g.D.Area m c.args.node (Leave c.args.node c.args.segment) s x (Refused c.in-Err.refusal) w.geometry w.nodes.items w.travelling.items h common node at c.leave.new.self
      (c.in-Err.ensures.follows m c.args.node s x h.sound common (h.each c.args.node node at) told) (λ k e. absurd (omega (arith, e)));
  names = c.in-Err.ensures.names;
  logs =
      let w = c.args.self.now in
      let node = c.index_mut.result.now in
      let within : c.args.node < w.nodes.len = omega (arith, w.all_nodes, node_known w.geometry c.args.node (c.args.segment ∷ []) [] c.requires.known) in
      let at = slice_get_read w.nodes.items w.nodes.len c.args.node node w.nodes.ok.0 within c.index_mut.ensures.value in
      record { geometry = refl; logs = logs_stay g.D.Area w.nodes.items c.args.node node c.leave.new.self at c.leave.ensures.log };
}
