use Rattle.std.proofs.Common.{◌≤◌, ◌∙◌, length, subst, arith}
use Rattle.lc_core.specs.Pages.{areas_of}
use Rattle.lc_core.proofs.AreaShown.{behind_logs}
use Rattle.lc_core.proofs.up.Up.area.Goals as goal

-- src/area_shown.rt:29:5
pub returns-in-None : goal.returns-in-None
returns-in-None g c areas are =
    let up = c.args.self.now in
    let past : length up.running.nodes.items ≤ c.args.place = subst (λ xs. length xs ≤ c.args.place) c.deref.ensures.value (omega (arith, c.in-None.ensures.lookup)) in
    c.segment_area.ensures ∙ behind_logs (areas_of g.D.Area up.segments.items) areas up.running.geometry.nodes c.len.result c.args.place are.segments
    (omega (arith, up.running.all_nodes, up.running.nodes.ok.0, c.len.ensures)) (omega (arith, past, up.running.nodes.ok.0, c.len.ensures))
