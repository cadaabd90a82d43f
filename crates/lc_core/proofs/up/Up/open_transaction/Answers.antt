use Rattle.std.proofs.Common.{◌≡◌, None, Some, List, length, refl, sym, ap, ◌∙◌}
use Rattle.std.specs.Prelude.{slice_get, Option}
use Rattle.std.proofs.lemmas.Bool.{ltb-true}
use Rattle.std.proofs.lemmas.Option.{slice_get_past, slice_get_read}
use Rattle.lc_core.specs.OpenTransactions.{open_in_node}
use Rattle.lc_events.specs.declared.node_state.NodeState.{NodeState}
use Rattle.lc_core.proofs.up.Up.open_transaction.Goals as goal

pub returns-in-Some : goal.returns-in-Some
returns-in-Some g c =
    let up = c.args.self.now in
    let nodes = c.deref.result.now in
    let node = c.in-Some.node.now in
    let found = c.in-Some.ensures.lookup in
    let there : slice_get nodes c.args.node ≡ Some node = slice_get_read nodes (length nodes) c.args.node node refl (ltb-true c.args.node (length nodes) (sym found.0)) found.1 in
    let at : slice_get up.running.nodes.items c.args.node ≡ Some node = ap (λ (l : List (NodeState g.row.D.Denot g.D.Area)). slice_get l c.args.node) (sym c.deref.ensures.value) ∙ there in
    c.open_transaction.ensures
    ∙ ap (λ (o : Option (NodeState g.row.D.Denot g.D.Area)). open_in_node c.args.thread o) (sym at)

pub returns-in-None : goal.returns-in-None
returns-in-None g c =
    let up = c.args.self.now in
    let nodes = c.deref.result.now in
    let none : slice_get nodes c.args.node ≡ None = slice_get_past nodes c.args.node c.in-None.ensures.lookup.3 in
    let at : slice_get up.running.nodes.items c.args.node ≡ None = ap (λ (l : List (NodeState g.row.D.Denot g.D.Area)). slice_get l c.args.node) (sym c.deref.ensures.value) ∙ none in
    ap (λ (o : Option (NodeState g.row.D.Denot g.D.Area)). open_in_node c.args.thread o) (sym at)
