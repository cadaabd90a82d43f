use Rattle.std.proofs.Common.{refl, sym, ap, ◌∙◌}
use Rattle.std.specs.Prelude.{vec_len}
use Rattle.lc_model.proofs.Rows.{known}
use Rattle.lc_model.specs.declared.event.Event.TheVariants.{Leave}
use Rattle.lc_desk.specs.declared.here.Here.{Here}
use Rattle.lc_events.proofs.Shortness.{same_len}
use Rattle.lc_journal.proofs.Logged.{count_same}
use Rattle.lc_events.proofs.Tokens.{token_leaves, token_stays}
use Rattle.lc_events.proofs.Travels.{segment_known}
use Rattle.lc_events.proofs.node_state.NodeState.leave.Goals as goal

pub returns-in-Ok : goal.returns-in-Ok
returns-in-Ok g c = record {
  follows = λ m n s x sound common h told.
      let w = c.args.self.now in
      let j = w.journal in
      token_leaves g.D.Area m n s x sound w h c.leave.new.self c.args.segment c.requires.first (segment_known m.geometry n c.args.segment (known m.geometry s (Leave n c.args.segment) common)).1 c.args.writing c.count-reserved.result j.acked
      (c.count-reserved.ensures ∙ count_same g.D.Area m n s x j.log j.records j.dropped j.trimmed j.taken j.acked h.journal)
      h.journal.acked_is told c.in-Ok.token c.in-Ok.ensures.leaves (λ slot at. (c.in-Ok.ensures.done slot at).0 refl);
  segment = c.in-Ok.ensures.segment;
  whole = (let moved = c.in-Ok.ensures.leaves.0.2 in record { seats = ap vec_len moved.seats; slots = ap (λ (h : Here). vec_len h.slots) moved.here });
  names = tt;
  log = refl;
}

pub returns-in-Some : goal.returns-in-Some
returns-in-Some g c = record {
  follows = λ m n s x sound common h told.
      let w = c.args.self.now in
      let j = w.journal in
      token_stays g.D.Area m n s x sound w h c.leave.new.self c.args.segment c.requires.first (segment_known m.geometry n c.args.segment (known m.geometry s (Leave n c.args.segment) common)).1 c.args.writing c.count-reserved.result j.acked
      (c.count-reserved.ensures ∙ count_same g.D.Area m n s x j.log j.records j.dropped j.trimmed j.taken j.acked h.journal)
      h.journal.acked_is told c.in-Err.fault c.in-Some.refusal (sym c.token_refusal.ensures ∙ c.in-Some.is) c.in-Err.ensures.leaves;
  segment = tt;
  whole = (let stays = c.in-Err.ensures.leaves.0 in record { seats = ap vec_len stays.seats; slots = same_len c.args.self.now.desk.here c.leave.new.self.here stays.slots });
  names = c.in-Err.ensures.names c.in-Some.refusal (sym c.token_refusal.ensures ∙ c.in-Some.is);
  log = refl;
}
