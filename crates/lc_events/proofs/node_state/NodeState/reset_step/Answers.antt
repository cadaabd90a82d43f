use Rattle.std.proofs.Common.{refl, sym, ◌∙◌}
use Rattle.lc_events.proofs.Emptying.{by_reset}
use Rattle.lc_events.proofs.node_state.NodeState.reset_step.Goals as goal

pub returns : goal.returns
returns g c = record {
  follows = λ node m s x sound common h.
      let w = c.args.self.now in
      let new = c.reset_step.new.self in
      by_reset g.D.Area m node s x c.reset_step.result w new h (new.group_room ∙ c.reset_step.ensures.words ∙ sym w.journal.group_room)
      (c.reset_step.ensures.follows node m s x sound common h.journal h.round h.known);
  whole = record { seats = refl; slots = refl };
  device = c.reset_step.ensures.fault;
  names = c.reset_step.ensures.names;
}
