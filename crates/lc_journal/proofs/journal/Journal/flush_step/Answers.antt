use Rattle.std.proofs.Common.{◌≤◌, ◌<◌, refl, sym, ap, subst, ◌∙◌, arith}
use Rattle.lc_model.specs.declared.reply.Reply.{Reply}
use Rattle.lc_journal.specs.CallReplies.{tells_call}
use Rattle.lc_journal.specs.FaultReplies.{TellsFault}
use Rattle.lc_journal.specs.Journal.{reply_of}
use Rattle.lc_journal.specs.Log.{CallsOnce}
use Rattle.lc_journal.specs.Records.{front_of, span_of}
use Rattle.lc_journal.proofs.CallsTold.{flush_called}
use Rattle.lc_journal.proofs.Faults.{call_tells}
use Rattle.lc_journal.proofs.Spans.{leading_le}
use Rattle.lc_journal.proofs.Flushing.{some_reply, nothing_row, sealed_row, first_call, later_call, same_itself}
use Rattle.lc_journal.proofs.journal.Journal.flush_step.Goals.{then-is_idle+else-front-self, else-is_idle}
use Rattle.lc_journal.specs.MayReply.{may_flush, or_fault}
use Rattle.lc_journal.proofs.Names.{of_flush}
use Rattle.lc_journal.proofs.journal.Journal.flush_step.Goals as goal

pub returns-then-is_sealed : goal.returns-then-is_sealed
returns-then-is_sealed g c = record {
  follows = λ node m s x h.
      let w = c.args.self.now in
      let sealed = sym c.is_sealed.ensures ∙ c.if-is_sealed.true in (
        s,
        sealed_row g.D.Area m node s x w.records w.dropped w.trimmed w.acked w.log w.taken h sealed (omega (arith, w.kept, w.dropped_acked)) (omega (arith, w.acked_taken, w.taken_closed))
            (omega (arith, w.sealed sealed, leading_le w.records.records)),
        same_itself g.D.Area m node s x w.records w.dropped w.trimmed w.acked,
        h,
      );
  names = refl;
  nothing = λ is. refl;
  words = refl;
  round = refl;
  device = λ some. absurd (some refl);
  fault = record { known = refl; failures = refl; kind = refl; call = refl };
}

pub returns-then-front-self : goal.returns-then-front-self
returns-then-front-self g c = record {
  follows = λ node m s x h.
      let w = c.args.self.now in (
        s,
        nothing_row g.D.Area m node s x w.records w.dropped w.trimmed w.acked w.log w.taken h (sym c.is_idle.ensures ∙ c.if-is_idle.true) (sym c.front.ensures ∙ c.if-front-self.true),
        same_itself g.D.Area m node s x w.records w.dropped w.trimmed w.acked,
        h,
      );
  names = refl;
  nothing = λ is. refl;
  words = refl;
  round = refl;
  device = λ some. absurd (some refl);
  fault = record { known = refl; failures = refl; kind = refl; call = refl };
}

pub returns : goal.returns
returns g c = record {
  follows = λ node m s x h.
      let w = c.args.self.now in
      let k = w.records in
      rw (c.advance.ensures.reply, c.advance.ensures.acked, c.advance.ensures.records, c.advance.ensures.dropped, c.advance.ensures.trimmed, c.advance.ensures.taken)
      (elim c.if-is_idle.branch [
        | then-is_idle+else-front-self b ↦
            let t = b.take_closed.ensures in
            let kept : k.before ≤ w.acked = omega (arith, w.kept, w.dropped_acked) in
            let some : w.acked < front_of k = omega (arith, w.acked_taken, w.taken_closed, b.front.ensures, b.if-front-self.false) in
            rw (b.self-is, t.records, t.dropped, t.trimmed, t.acked, t.taken)
            (first_call g.D.Area m node s x k w.dropped w.trimmed w.acked w.log c.advance.new.self.log b.take_closed.new.self.group.words w.taken h
            (sym c.is_idle.ensures ∙ b.if-is_idle.true) kept some (t.words ∙ ap (λ n. span_of k w.acked n) t.taken)
            (rw (b.self-is, t.log) at c.advance.ensures.steps))
        | else-is_idle b ↦
            rw b.self-is
            (later_call g.D.Area m node s x k w.dropped w.trimmed w.acked w.log c.advance.new.self.log w.group.words w.taken h c.requires.up
            (sym c.is_idle.ensures ∙ b.if-is_idle.false) (sym c.is_sealed.ensures ∙ c.if-is_sealed.false) w.dropped_acked w.acked_taken (rw b.self-is at c.advance.ensures.steps))
      ]);
  names = ap (or_fault may_flush) c.advance.ensures.reply ∙ of_flush g.D.Area c.advance.new.self.log c.if-is_idle.self.taken;
  nothing = λ is. absurd (some_reply g.D.Area c.advance.new.self.log c.if-is_idle.self.taken (sym c.advance.ensures.reply ∙ is));
  words = c.advance.ensures.room ∙ (elim c.if-is_idle.branch [
    | then-is_idle+else-front-self b ↦ rw b.self-is b.take_closed.ensures.room
    | else-is_idle b ↦ rw b.self-is refl
  ]);
  round = c.advance.ensures.round ∙ (elim c.if-is_idle.branch [
    | then-is_idle+else-front-self b ↦ rw b.self-is b.take_closed.ensures.round
    | else-is_idle b ↦ rw b.self-is refl
  ]);
  device = λ some. elim c.if-is_idle.branch [
    | then-is_idle+else-front-self b ↦ rw (b.self-is, b.take_closed.ensures.log) at c.advance.ensures.device
    | else-is_idle b ↦ rw b.self-is at c.advance.ensures.device
  ];
  fault =
      let w = c.args.self.now in
      let calls : CallsOnce g.D.Area w.log c.advance.new.self.log = elim c.if-is_idle.branch [
        | then-is_idle+else-front-self b ↦ rw (b.self-is, b.take_closed.ensures.log) at c.advance.ensures.device
        | else-is_idle b ↦ rw b.self-is at c.advance.ensures.device
      ] in
      subst (λ (reply : Reply). TellsFault g.D.Area (tells_call reply) reply w.log c.advance.new.self.log) (sym c.advance.ensures.reply)
      (call_tells g.D.Area (tells_call (reply_of g.D.Area c.advance.new.self.log c.if-is_idle.self.taken)) (flush_called g.D.Area c.advance.new.self.log c.if-is_idle.self.taken) w.log c.advance.new.self.log c.if-is_idle.self.taken c.requires.up calls);
}
