use Rattle.std.proofs.Common.{◌≡◌, ℕ, ◌-◌, List, Option, Some, None, refl, sym, ap, subst, ◌∙◌, arith}
use Rattle.std.specs.Prelude.{slice_set}
use Rattle.lc_token.specs.declared.token.Token.{Token}
use Rattle.lc_model.specs.State.{Travelling, At}
use Rattle.lc_model.specs.declared.event.Event.TheVariants.{Arrive}
use Rattle.lc_model.specs.declared.reply.Reply.TheVariants.{Ok as Accepted, Refused}
use Rattle.lc_events.specs.NodeState.{GoesOn}
use Rattle.lc_events.specs.Nodes.{AreNamed}
use Rattle.lc_events.specs.Running.{Onward}
use Rattle.lc_model.specs.Refusals.{common_refusal}
use Rattle.lc_model.specs.declared.refusal.Refusal.TheVariants.{OutOfTurn}
use Rattle.lc_events.proofs.Onward.{onward, stays_onward, whole_set}
use Rattle.lc_events.proofs.Travels.{Arriving, arriving, arriving_travels, named_set, none_arrives, place_read, set_back, set_it, travel_moved}
use Rattle.lc_events.proofs.Faults.{logs_stay}
use Rattle.lc_events.proofs.running.Running.take_in.Given.{Over}
use Rattle.lc_events.proofs.running.Running.take_in.Goals.{After-index_mut-2}
use Rattle.lc_events.proofs.running.Running.take_in.Goals as goal

-- the node and the token that this arrival finds
found : (g : Over) (c : After-index_mut-2 g) → Arriving g.D.Area c.args.self.now c.args.node c.args.segment c.index_mut-2.result.now c.index_mut.result.now c.in-Some.token
found g c = arriving g.D.Area c.args.self.now c.args.node c.args.segment c.requires.known c.index_mut-2.result.now c.index_mut.result.now c.in-Some.token
    c.index_mut-2.ensures.value c.index_mut.ensures.value (sym c.take.ensures.value ∙ c.in-Some.is)

pub arrive-requires-clause-first : goal.arrive-requires-clause-first
arrive-requires-clause-first g c = (let it = found g (goal.at.arrive-requires-clause-first g c).After-index_mut-2 in omega (arith, it.its, it.first))

pub arrive-requires-clause-slot : goal.arrive-requires-clause-slot
arrive-requires-clause-slot g c =
    let it = found g (goal.at.arrive-requires-clause-slot g c).After-index_mut-2 in
    let slots = (c.args.self.now.whole c.args.node c.index_mut-2.result.now it.at).slots in
    omega (arith, it.its, it.last, slots)

pub returns-in_default : goal.returns-in_default
returns-in_default g c = record {
  follows = λ m s x h common.
      let w = c.args.self.now in
      let place = place_read g.D.Area w c.args.node c.args.segment c.requires.known c.index_mut.result.now c.index_mut.ensures.value in
      let none : c.index_mut.result.now ≡ None = sym c.take.ensures.value ∙ c.in_default.is in
      subst (λ (tokens : List (Option Token)). Onward g.D.Area m (Arrive c.args.node c.args.segment) s x (Refused OutOfTurn) w.geometry w.nodes.items tokens)
      (sym (set_it w.travelling.items (c.args.segment - 1) c.index_mut.result.now c.take.new.self place.was (c.take.ensures.after ∙ sym none)))
      (none_arrives g.D.Area m c.args.node c.args.segment s x w.geometry w.nodes.items w.travelling.items h
      (λ travels. h.on_the_way.none (c.args.segment - 1) (place.was ∙ ap (λ o. Some o) none) (ap s.place place.named ∙ travels)));
  names = refl;
  logs = record { geometry = refl; logs = refl };
}

pub invariant_of-self-in-Ok : goal.invariant_of-self-in-Ok
invariant_of-self-in-Ok g c =
    let w = c.args.self.now in
    let it = found g (goal.at.invariant_of-self-in-Ok g c).After-index_mut-2 in
    record {
      few = w.few;
      all_nodes = w.all_nodes;
      all_places = w.all_places;
      whole = whole_set g.D.Area w.geometry w.nodes.items c.args.node c.index_mut-2.result.now c.arrive.new.self it.at w.whole c.arrive.ensures.whole.seats c.arrive.ensures.whole.slots;
      named = named_set w.travelling.items (c.args.segment - 1) _ c.take.new.self it.was (λ token is. (let none : None ≡ Some token = sym c.take.ensures.after ∙ is in absurd cc)) w.named;
    }

pub invariant_of-self-in-Err : goal.invariant_of-self-in-Err
invariant_of-self-in-Err g c =
    let w = c.args.self.now in
    let it = found g (goal.at.invariant_of-self-in-Err g c).After-index_mut-2 in
    record {
      few = w.few;
      all_nodes = w.all_nodes;
      all_places = w.all_places;
      whole = whole_set g.D.Area w.geometry w.nodes.items c.args.node c.index_mut-2.result.now c.arrive.new.self it.at w.whole c.arrive.ensures.whole.seats c.arrive.ensures.whole.slots;
      named = subst AreNamed (sym (set_back w.travelling.items (c.args.segment - 1) c.index_mut.result.now c.take.new.self (Some c.in-Err.token) it.was (ap (λ t. Some t) c.in-Err.ensures.follows.0 ∙ sym it.stood))) w.named;
    }

pub returns-in-Ok : goal.returns-in-Ok
returns-in-Ok g c =
    let w = c.args.self.now in
    let node = c.index_mut-2.result.now in
    let it = found g (goal.at.returns-in-Ok g c).After-index_mut-2 in
    record {
      follows = λ m s x h common.
          let there = arriving_travels g.D.Area w c.args.node c.args.segment m s x node c.index_mut.result.now c.in-Some.token h it in
          let came = subst (λ (i : ℕ). (goes : GoesOn g.D.Area m c.args.node (Arrive c.args.node i) s x Accepted c.arrive.new.self) × (goes.after.place i ≡ At c.args.node)) it.its
          (c.in-Ok.ensures.follows m c.args.node s x h.sound (ap (λ i. common_refusal m.geometry s (Arrive c.args.node i)) it.its ∙ common) (h.each c.args.node node it.at) there.0 there.1) in
          onward g.D.Area m c.args.node (Arrive c.args.node c.args.segment) s x Accepted w.geometry w.nodes.items w.travelling.items h common node it.at c.arrive.new.self came.0
          (slice_set w.travelling.items (c.args.segment - 1) c.take.new.self)
          (travel_moved g.D.Area m c.args.node (Arrive c.args.node c.args.segment) s x Accepted w.geometry w.nodes.items w.travelling.items h c.arrive.new.self came.0 (c.args.segment - 1) _ c.take.new.self (sym it.named) it.was
          (λ token is. (let none : None ≡ Some token = sym c.take.ensures.after ∙ is in absurd cc))
          (λ none travels. (let both : At c.args.node ≡ Travelling = sym came.1 ∙ ap came.0.after.place (sym it.named) ∙ travels in absurd cc)));
      names = refl;
      logs = record { geometry = refl; logs = logs_stay g.D.Area w.nodes.items c.args.node node c.arrive.new.self it.at c.arrive.ensures.log };
    }

pub returns-in-Err : goal.returns-in-Err
returns-in-Err g c =
    let w = c.args.self.now in
    let node = c.index_mut-2.result.now in
    let it = found g (goal.at.returns-in-Err g c).After-index_mut-2 in
    record {
      follows = λ m s x h common.
          let there = arriving_travels g.D.Area w c.args.node c.args.segment m s x node c.index_mut.result.now c.in-Some.token h it in
          let stays = subst (λ (i : ℕ). GoesOn g.D.Area m c.args.node (Arrive c.args.node i) s x (Refused c.in-Err.refusal) c.arrive.new.self) it.its
          (c.in-Err.ensures.follows.1 m c.args.node s x h.sound (ap (λ i. common_refusal m.geometry s (Arrive c.args.node i)) it.its ∙ common) (h.each c.args.node node it.at) there.0 there.1) in
          subst (λ (tokens : List (Option Token)). Onward g.D.Area m (Arrive c.args.node c.args.segment) s x (Refused c.in-Err.refusal) w.geometry (slice_set w.nodes.items c.args.node c.arrive.new.self) tokens)
          (sym (set_back w.travelling.items (c.args.segment - 1) c.index_mut.result.now c.take.new.self (Some c.in-Err.token) it.was (ap (λ t. Some t) c.in-Err.ensures.follows.0 ∙ sym it.stood)))
          (stays_onward g.D.Area m c.args.node (Arrive c.args.node c.args.segment) s x (Refused c.in-Err.refusal) w.geometry w.nodes.items w.travelling.items h common node it.at c.arrive.new.self stays (λ k e. absurd (omega (arith, e))));
      names = c.in-Err.ensures.names;
      logs = record { geometry = refl; logs = logs_stay g.D.Area w.nodes.items c.args.node node c.arrive.new.self it.at c.arrive.ensures.log };
    }
