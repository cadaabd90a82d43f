use Rattle.std.proofs.Common.{arith, length, ap, sym, subst, ◌∙◌}
use Rattle.lc_model.specs.Machine.{closed_by}
use Rattle.lc_journal.specs.Records.{KeptRecords, count_of, span_of}
use Rattle.lc_journal.specs.Journal.{FitsLog}
use Rattle.lc_journal.proofs.Logged.{Extends, closed_count, closed_extends, fits_closed}
use Rattle.lc_journal.proofs.journal.Journal.close.Given.{Over}
use Rattle.lc_journal.proofs.journal.Journal.close.Goals as goal

module _ (g : Over) (c : goal.After-close g) where
  extends : Extends c.args.self.now.records c.close.new.self c.args.self.now.dropped c.args.self.now.acked c.args.self.now.taken 0
  extends =
      let w = c.args.self.now in
      subst (λ (k : KeptRecords). Extends w.records k w.dropped w.acked w.taken 0) (sym c.close.ensures)
      (closed_extends w.records w.dropped w.acked w.taken w.kept w.dropped_acked w.acked_taken w.taken_closed c.args.number)

pub invariant_of-self : goal.invariant_of-self
invariant_of-self g c =
    let w = c.args.self.now in
    let e = extends g c in
    record {
      kept = omega (arith, w.kept, e.before_is);
      kept_for_peers = omega (arith, w.kept_for_peers, e.before_is);
      dropped_acked = w.dropped_acked;
      trimmed_acked = w.trimmed_acked;
      acked_taken = w.acked_taken;
      taken_closed = omega (arith, w.taken_closed, e.front);
      group_room = w.group_room;
      short = w.short;
      log_room = w.log_room;
      room = omega (arith, w.room, e.end);
      end = λ up free. w.end up free ∙ sym (ap length e.stable);
      under_way = λ up busy free. w.under_way up busy free ∙ sym (ap length e.on_its_way);
      busy = w.busy;
      sealed = λ is. omega (arith, w.sealed is, ap count_of c.close.ensures, closed_count c.args.number w.records);
      emptied = w.emptied;
      rounds = w.rounds;
      one_more = w.one_more;
    }

pub returns-clause-shuts : goal.returns-clause-shuts
returns-clause-shuts g c m node thread s x t sound h found there =
    let w = c.args.self.now in
    subst (λ (k : KeptRecords). FitsLog g.D.Area m node w.log k w.dropped w.trimmed w.taken w.acked (record s { history = closed_by node thread s.history }) x) (sym c.close.ensures)
    (fits_closed g.D.Area m node s x w.log w.records w.dropped w.trimmed w.taken w.acked h thread c.args.number t sound found there)

pub returns-clause-end : goal.returns-clause-end
returns-clause-end g c =
    let w = c.args.self.now in
    omega (
      arith,
      ap (λ (k : KeptRecords). length (span_of k w.dropped (count_of k))) c.close.ensures,
      (closed_extends w.records w.dropped w.acked w.taken w.kept w.dropped_acked w.acked_taken w.taken_closed c.args.number).end,
    )
