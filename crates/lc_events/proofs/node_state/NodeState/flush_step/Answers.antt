use Rattle.std.proofs.Common.{refl, sym, ◌∙◌}
use Rattle.lc_model.specs.declared.event.Event.TheVariants.{FlushStep}
use Rattle.lc_events.proofs.Going.{by_log, settled_by}
use Rattle.lc_events.proofs.node_state.NodeState.flush_step.Goals as goal

pub returns : goal.returns
returns g c = record {
  follows = λ node m s x sound common h.
      let w = c.args.self.now in
      let new = c.flush_step.new.self in
      let step = c.flush_step.ensures.follows node m s x h.journal in
      by_log g.D.Area m node (FlushStep node) s x c.flush_step.result step.0 step.1
      (settled_by m s x (FlushStep node) c.flush_step.result (λ e. absurd cc) (λ answer is. absurd cc)) refl w h new step.2
      (new.group_room ∙ c.flush_step.ensures.words ∙ sym w.journal.group_room) c.flush_step.ensures.round step.3;
  whole = record { seats = refl; slots = refl };
  device = c.flush_step.ensures.fault;
  names = c.flush_step.ensures.names;
}
