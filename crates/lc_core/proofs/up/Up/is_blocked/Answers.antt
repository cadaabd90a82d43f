use Rattle.std.proofs.Common.{◌≡◌, ◌-◌, ℕ, None, Some, true, List, length, refl, sym, ap, subst, ◌∙◌, true≢false}
use Rattle.std.specs.Prelude.{slice_get, Option}
use Rattle.std.proofs.lemmas.Bool.{ltb-true}
use Rattle.std.proofs.lemmas.Option.{slice_get_past, slice_get_read}
use Rattle.lc_core.specs.Truncating.{HasOpenOn, newer_at, under_way_in}
use Rattle.lc_events.specs.Truncating.{newer_in}
use Rattle.lc_events.specs.declared.node_state.NodeState.{NodeState}
use Rattle.lc_core.proofs.up.Up.is_blocked.Goals as goal

pub returns-then-is_newer : goal.returns-then-is_newer
returns-then-is_newer g c =
    let up = c.args.self.now in
    let nodes = c.deref.result.now in
    let node = c.in-Some.node.now in
    let found = c.in-Some.ensures.lookup in
    let there : slice_get nodes c.args.node ≡ Some node = slice_get_read nodes (length nodes) c.args.node node refl (ltb-true c.args.node (length nodes) (sym found.0)) found.1 in
    let at : slice_get up.running.nodes.items c.args.node ≡ Some node = ap (λ (l : List (NodeState g.row.D.Denot g.D.Area)). slice_get l c.args.node) (sym c.deref.ensures.value) ∙ there in
    let newer : newer_at c.args.segment c.args.page (under_way_in c.args.page (slice_get up.segments.items (c.args.segment - 1))) (slice_get up.running.nodes.items c.args.node) ≡ true =
    ap (λ (o : Option (NodeState g.row.D.Denot g.D.Area)). newer_at c.args.segment c.args.page (under_way_in c.args.page (slice_get up.segments.items (c.args.segment - 1))) o) at
    ∙ ap (λ (u : Option ℕ). newer_in c.args.page u (slice_get node.desk.here.slots.items (c.args.segment - 1))) (sym c.number_under_way-under_way.ensures)
    ∙ sym c.is_newer.ensures
    ∙ c.if-is_newer.true in (
      λ is. (newer, subst (λ (o : Option (NodeState g.row.D.Denot g.D.Area)). HasOpenOn c.args.segment c.args.page o) (sym at) (c.is_uncommitted.ensures.0 is)),
      λ both. c.is_uncommitted.ensures.1 (subst (λ (o : Option (NodeState g.row.D.Denot g.D.Area)). HasOpenOn c.args.segment c.args.page o) at both.1),
    )

pub returns-else-is_newer : goal.returns-else-is_newer
returns-else-is_newer g c =
    let up = c.args.self.now in
    let nodes = c.deref.result.now in
    let node = c.in-Some.node.now in
    let found = c.in-Some.ensures.lookup in
    let there : slice_get nodes c.args.node ≡ Some node = slice_get_read nodes (length nodes) c.args.node node refl (ltb-true c.args.node (length nodes) (sym found.0)) found.1 in
    let at : slice_get up.running.nodes.items c.args.node ≡ Some node = ap (λ (l : List (NodeState g.row.D.Denot g.D.Area)). slice_get l c.args.node) (sym c.deref.ensures.value) ∙ there in (
      λ is. absurd (true≢false (sym is ∙ c.if-is_newer.false)),
      λ both.
          c.is_newer.ensures
          ∙ ap (λ (u : Option ℕ). newer_in c.args.page u (slice_get node.desk.here.slots.items (c.args.segment - 1))) c.number_under_way-under_way.ensures
          ∙ ap (λ (o : Option (NodeState g.row.D.Denot g.D.Area)). newer_at c.args.segment c.args.page (under_way_in c.args.page (slice_get up.segments.items (c.args.segment - 1))) o) (sym at)
          ∙ both.0,
    )

pub returns-in-None : goal.returns-in-None
returns-in-None g c =
    let up = c.args.self.now in
    let nodes = c.deref.result.now in
    let none : slice_get nodes c.args.node ≡ None = slice_get_past nodes c.args.node c.in-None.ensures.lookup.3 in
    let at : slice_get up.running.nodes.items c.args.node ≡ None = ap (λ (l : List (NodeState g.row.D.Denot g.D.Area)). slice_get l c.args.node) (sym c.deref.ensures.value) ∙ none in (
      λ is. absurd (true≢false (sym is)),
      λ both.
          absurd (true≢false (sym both.0 ∙ ap (λ (o : Option (NodeState g.row.D.Denot g.D.Area)). newer_at c.args.segment c.args.page (under_way_in c.args.page (slice_get up.segments.items (c.args.segment - 1))) o) at)),
    )
