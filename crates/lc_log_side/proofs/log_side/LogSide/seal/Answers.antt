use Rattle.std.proofs.Common.{rules, ap, ◌∙◌}
use Rattle.lc_stage.specs.declared.stage_view.StageView.{StageView}
use Rattle.lc_stage.specs.Staging.{open_count}
use Rattle.lc_stage.specs.Seats.{flush_view}
use Rattle.lc_log_side.proofs.SideKeeps.{Stays, stays, stays_hears, stays_seals, stays_twice, stays_unsealed}
use Rattle.lc_log_side.proofs.log_side.LogSide.seal.Goals.{in-Ok, in-Err-Moved}
use Rattle.lc_log_side.proofs.log_side.LogSide.seal.Goals as goal

pub invariant_of-self-2 : goal.invariant_of-self-2
invariant_of-self-2 g c = let inv = c.self.invariant in let v : StageView = flush_view c.self.inside.flusher in let u : StageView = flush_view c.note.new.flusher in
    let heard : Stays v u = stays_hears v u _ c.note.ensures.heard in
    let idle = ap (λ (z : StageView). open_count z.mine) c.note.ensures.seat ∙ (ap (λ (z : StageView). open_count z.mine) c.tail-at.ensures.seen ∙ inv.idle_probe) in
    stays g.D.Area c.self.inside c.seal.new.flusher c.note.new.seat inv (search rules) idle (elim c.match-seal.branch [
      | in-Ok w ↦ stays_twice v u _ heard (stays_seals u _ _ w.in-Ok.ensures.ok.0)
      | in-Err-Moved w ↦ stays_twice v u _ heard (stays_unsealed _ u _ _ w.in-Err-Moved.ensures.refused)
    ])
