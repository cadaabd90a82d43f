use Rattle.std.proofs.Common.{◌≡◌, None, Some, List, length, refl, sym, ap, subst, ◌∙◌}
use Rattle.std.specs.Prelude.{Option, slice_get}
use Rattle.std.proofs.lemmas.Bool.{ltb-true}
use Rattle.std.proofs.lemmas.Option.{slice_get_past, slice_get_read}
use Rattle.lc_core.specs.Rounds.{round_at, round_in}
use Rattle.lc_core.specs.World.{FitsPhase}
use Rattle.lc_events.specs.declared.node_state.NodeState.{NodeState}
use Rattle.lc_core.specs.declared.world_phase.WorldPhase.{WorldPhase}
use Rattle.lc_core.proofs.world.World.round.Goals as goal

pub returns-in-Some-clause-stands : goal.returns-in-Some-clause-stands
returns-in-Some-clause-stands g c =
    let nodes = c.deref.result.now in
    let node = c.in-Some.node.now in
    let found = c.in-Some.ensures.lookup in
    let there : slice_get nodes c.args.node ≡ Some node = slice_get_read nodes (length nodes) c.args.node node refl (ltb-true c.args.node (length nodes) (sym found.0)) found.1 in
    let at : slice_get c.in-Up.up.running.nodes.items c.args.node ≡ Some node = ap (λ (l : List (NodeState g.row.D.Denot g.D.Area)). slice_get l c.args.node) (sym c.deref.ensures.value) ∙ there in
    ap (λ (o : Option (NodeState g.row.D.Denot g.D.Area)). round_at g.D.Area o) (sym at) ∙ ap (λ (phase : WorldPhase g.row.D.Denot g.D.Area). round_in g.D.Area phase c.args.node) (sym c.in-Up.is)

pub returns-in-Some-clause-shows : goal.returns-in-Some-clause-shows
returns-in-Some-clause-shows g c = λ m s x fits up is.
    let nodes = c.deref.result.now in
    let node = c.in-Some.node.now in
    let found = c.in-Some.ensures.lookup in
    let there : slice_get nodes c.args.node ≡ Some node = slice_get_read nodes (length nodes) c.args.node node refl (ltb-true c.args.node (length nodes) (sym found.0)) found.1 in
    let at : slice_get c.in-Up.up.running.nodes.items c.args.node ≡ Some node = ap (λ (l : List (NodeState g.row.D.Denot g.D.Area)). slice_get l c.args.node) (sym c.deref.ensures.value) ∙ there in
    let its = (subst (λ (phase : WorldPhase g.row.D.Denot g.D.Area). FitsPhase g.D.Area m phase s x) c.in-Up.is fits).0 in
    (its.running.each c.args.node node at).round

pub returns-in-None-clause-stands : goal.returns-in-None-clause-stands
returns-in-None-clause-stands g c =
    let nodes = c.deref.result.now in
    let none : slice_get nodes c.args.node ≡ None = slice_get_past nodes c.args.node c.in-None.ensures.lookup.3 in
    let at : slice_get c.in-Up.up.running.nodes.items c.args.node ≡ None = ap (λ (l : List (NodeState g.row.D.Denot g.D.Area)). slice_get l c.args.node) (sym c.deref.ensures.value) ∙ none in
    ap (λ (o : Option (NodeState g.row.D.Denot g.D.Area)). round_at g.D.Area o) (sym at) ∙ ap (λ (phase : WorldPhase g.row.D.Denot g.D.Area). round_in g.D.Area phase c.args.node) (sym c.in-Up.is)
