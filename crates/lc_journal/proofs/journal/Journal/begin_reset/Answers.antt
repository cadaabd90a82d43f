use Rattle.std.proofs.Common.{◌≡◌, ◌≤◌, true, refl, sym, subst, ◌∙◌, arith, inl, inr, eq-eqb, ne_eqb}
use Rattle.std.proofs.lemmas.Bool.{cases_Bool}
use Rattle.lc_model.specs.declared.refusal.Refusal.TheVariants.{Unflushed, Unclean, RoundsSpent}
use Rattle.lc_model.specs.declared.reply.Reply.TheVariants.{Stepped, Nothing, Refused}
use Rattle.lc_journal.specs.Log.{Seals, is_idle}
use Rattle.lc_settled.specs.Numbers.{stable_records}
use Rattle.lc_journal.specs.Records.{count_of, front_of}
use Rattle.lc_settled.specs.Settled.{last_round}
use Rattle.lc_settled.specs.Turns.{reset_to}
use Rattle.lc_journal.proofs.ResetRows.{begins_nothing, begins_so, begins_spent, begins_unclean, begins_unflushed, flushed, none_stable, resets_none, settled_first, some_stable, stays_unreset, unflushed}
use Rattle.lc_journal.proofs.Sealing.{reset_fits}
use Rattle.lc_journal.proofs.Spans.{leading_le}
use Rattle.lc_journal.proofs.journal.Journal.begin_reset.Given.{Over}
use Rattle.lc_journal.proofs.journal.Journal.begin_reset.Goals as goal

pub returns-then-count-self-clause-follows : goal.returns-then-count-self-clause-follows
returns-then-count-self-clause-follows g c = λ node m s x sound common h round knows.
    let w = c.args.self.now in
    stays_unreset g.D.Area m node s x w h (Refused Unflushed) refl (resets_none g.D.Area m node s x w h c.requires.up c.requires.free)
    (begins_unflushed s x node (stable_records m s x node) (unflushed g.D.Area m node s x w h (omega (arith, c.if-count-self.true, c.count.ensures)))) refl round

pub returns-then-self-clause-follows : goal.returns-then-self-clause-follows
returns-then-self-clause-follows g c = λ node m s x sound common h round knows.
    let w = c.args.self.now in
    stays_unreset g.D.Area m node s x w h Nothing refl (resets_none g.D.Area m node s x w h c.requires.up c.requires.free)
    (begins_nothing s x node (stable_records m s x node) (flushed g.D.Area m node s x w h (omega (arith, c.if-count-self.false, c.count.ensures)))
    (none_stable g.D.Area m node s x w h c.if-self.true)) refl round

pub returns-in-Some-clause-follows : goal.returns-in-Some-clause-follows
returns-in-Some-clause-follows g c = λ node m s x sound common h round knows.
    let w = c.args.self.now in
    let least = sym (c.least_unclean.ensures m node s x sound h knows) ∙ c.in-Some.is in
    stays_unreset g.D.Area m node s x w h (Refused (Unclean c.in-Some.field-0.segment c.in-Some.field-0.seq)) refl (resets_none g.D.Area m node s x w h c.requires.up c.requires.free)
    (begins_unclean s x node (stable_records m s x node) _ (flushed g.D.Area m node s x w h (omega (arith, c.if-count-self.false, c.count.ensures))) least) refl round

pub returns-then-self-eq-LAST_ROUND-clause-follows : goal.returns-then-self-eq-LAST_ROUND-clause-follows
returns-then-self-eq-LAST_ROUND-clause-follows g c = λ node m s x sound common h round knows.
    let w = c.args.self.now in
    let least = sym (c.least_unclean.ensures m node s x sound h knows) ∙ c.in_default.is in
    let front : front_of w.records ≤ count_of w.records = omega (arith, leading_le w.records.records) in
    stays_unreset g.D.Area m node s x w h (Refused RoundsSpent) refl (resets_none g.D.Area m node s x w h c.requires.up c.requires.free)
    (begins_spent s x node (stable_records m s x node) (flushed g.D.Area m node s x w h (omega (arith, c.if-count-self.false, c.count.ensures)))
    (some_stable g.D.Area m node s x w h (omega (arith, c.if-self.false, w.dropped_acked)) (omega (arith, w.acked_taken, w.taken_closed, front))) least
    (eq-eqb (x.round node) last_round (sym round ∙ c.if-self-eq-LAST_ROUND.true))) refl round

module _ (g : Over) (c : goal.After-replace-log g) where
  -- nothing is under way
  idle : is_idle g.D.Area c.args.self.now.log ≡ true
  idle =
      let w = c.args.self.now in
      let front : front_of w.records ≤ count_of w.records = omega (arith, leading_le w.records.records) in
      elim (cases_Bool (is_idle g.D.Area w.log)) [
        | inl is ↦ is
        | inr busy ↦ (let some = w.busy c.requires.up busy c.requires.free in absurd (omega (arith, some, c.if-count-self.false, c.count.ensures, w.taken_closed, front)))
      ]

pub seal-requires : goal.seal-requires
seal-requires g c = record { idle = subst (λ log. is_idle g.D.Area log ≡ true) (sym c.replace-log.ensures.value) (idle g c) }

pub returns-clause-follows : goal.returns-clause-follows
returns-clause-follows g c = λ node m s x sound common h round knows.
    let w = c.args.self.now in
    let seals : Seals g.D.Area w.log c.seal.result = subst (λ log. Seals g.D.Area log c.seal.result) c.replace-log.ensures.value c.seal.ensures in
    let least = sym (c.least_unclean.ensures m node s x sound h knows) ∙ c.in_default.is in
    let front : front_of w.records ≤ count_of w.records = omega (arith, leading_le w.records.records) in
    let more : x.round node ≡ last_round → _ = λ e. c.if-self-eq-LAST_ROUND.false (round ∙ e) in
    record {
      after = s;
      next = reset_to x node 1;
      row = inl (refl, refl);
      settled = settled_first m s x node (Stepped 1) (resets_none g.D.Area m node s x w h c.requires.up c.requires.free)
          (begins_so s x node (stable_records m s x node) (flushed g.D.Area m node s x w h (omega (arith, c.if-count-self.false, c.count.ensures)))
          (some_stable g.D.Area m node s x w h (omega (arith, c.if-self.false, w.dropped_acked)) (omega (arith, w.acked_taken, w.taken_closed, front))) least
          (ne_eqb (x.round node) last_round more));
      turns = refl;
      same = inl refl;
      fits = reset_fits g.D.Area m node s x w.records w.dropped w.trimmed w.taken w.acked w.log c.seal.result 1 h c.requires.up seals.works seals.reset
          (seals.stands _ _ _ h.stands);
      round = round;
    }
