use Rattle.std.proofs.Common.{refl, ◌≤◌, ◌+◌, ℕ, arith, length, ap, sym, subst, ◌∙◌, inl, inr, true≢false}
use Rattle.lc_model.specs.Machine.{appended}
use Rattle.lc_record.proofs.ListLemmas.{IfOk_both as ok_both}
use Rattle.lc_journal.specs.Records.{KeptRecords, count_of, span_of}
use Rattle.lc_journal.specs.Journal.{FitsLog}
use Rattle.lc_journal.proofs.Logged.{Extends, err_then, ok_or, same_extends, more_extends, count_same, fits_more}
use Rattle.lc_journal.proofs.JournalParts.{same_journal}
use Rattle.lc_journal.proofs.journal.Journal.reserve.Given.{Over}
use Rattle.lc_journal.proofs.journal.Journal.reserve.Goals as goal

module _ (g : Over) (c : goal.After-reserve g) where
  -- the records, with what has come
  extends : (more : ℕ) × (length (span_of c.args.self.now.records c.args.self.now.dropped (count_of c.args.self.now.records)) + more ≤ c.args.self.now.group.room)
      × Extends c.args.self.now.records c.reserve.new.self c.args.self.now.dropped c.args.self.now.acked c.args.self.now.taken more
  extends =
      let w = c.args.self.now in
      elim (ok_or c.reserve.result c.reserve.ensures.added c.reserve.ensures.err) [
        | inl added ↦ (
          length c.args.words.now,
          c.requires.room,
          subst (λ (k : KeptRecords). Extends w.records k w.dropped w.acked w.taken (length c.args.words.now)) (sym added)
              (more_extends w.records w.dropped w.acked w.taken w.kept w.dropped_acked w.acked_taken w.taken_closed c.args.words.now),
        )
        | inr same ↦ (
          0,
          omega (arith, w.room),
          subst (λ (k : KeptRecords). Extends w.records k w.dropped w.acked w.taken 0) (sym same)
              (same_extends w.records w.dropped w.acked w.taken w.kept w.dropped_acked w.acked_taken w.taken_closed),
        )
      ]

pub invariant_of-self : goal.invariant_of-self
invariant_of-self g c =
    let w = c.args.self.now in
    let some = extends g c in
    let e = some.2 in
    record {
      kept = omega (arith, w.kept, e.before_is);
      kept_for_peers = omega (arith, w.kept_for_peers, e.before_is);
      dropped_acked = w.dropped_acked;
      trimmed_acked = w.trimmed_acked;
      acked_taken = w.acked_taken;
      taken_closed = omega (arith, w.taken_closed, e.front);
      group_room = w.group_room;
      short = w.short;
      log_room = w.log_room;
      room = omega (arith, some.1, e.end);
      end = λ up free. w.end up free ∙ sym (ap length e.stable);
      under_way = λ up busy free. w.under_way up busy free ∙ sym (ap length e.on_its_way);
      busy = w.busy;
      sealed = λ is. absurd (true≢false (sym is ∙ c.requires.free));
      emptied = w.emptied;
      rounds = w.rounds;
      one_more = w.one_more;
    }

pub returns-clause-logs : goal.returns-clause-logs
returns-clause-logs g c =
    let w = c.args.self.now in
    ok_both c.reserve.result c.reserve.ensures.number c.reserve.ensures.added (λ number counts added m node s x t r h own last spelled whole. (
      counts ∙ count_same g.D.Area m node s x w.log w.records w.dropped w.trimmed w.taken w.acked h,
      subst (λ (k : KeptRecords). FitsLog g.D.Area m node w.log k w.dropped w.trimmed w.taken w.acked (appended s t) x) (sym added)
          (fits_more g.D.Area m node s x w.log w.records w.dropped w.trimmed w.taken w.acked h t r c.args.words.now w.acked_taken w.taken_closed own last spelled whole),
    ))

pub returns-clause-end : goal.returns-clause-end
returns-clause-end g c =
    let w = c.args.self.now in
    ok_both c.reserve.result c.reserve.ensures.number c.reserve.ensures.added (λ number counts added.
    ap (λ (k : KeptRecords). length (span_of k w.dropped (count_of k))) added
    ∙ (more_extends w.records w.dropped w.acked w.taken w.kept w.dropped_acked w.acked_taken w.taken_closed c.args.words.now).end)

pub returns-clause-err : goal.returns-clause-err
returns-clause-err g c =
    err_then c.reserve.result c.reserve.ensures.err (λ same. same_journal g.D.Area c.args.self.now _ (record {
      log = refl;
      group = refl;
      words = refl;
      records = same;
      dropped = refl;
      trimmed = refl;
      taken = refl;
      acked = refl;
      round = refl;
    }))
