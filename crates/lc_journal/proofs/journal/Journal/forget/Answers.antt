use Rattle.std.proofs.Common.{◌≤◌, ℕ, length, refl, sym, ap, subst, ◌∙◌, arith}
use Rattle.lc_journal.specs.Journal.{FitsLog}
use Rattle.lc_journal.specs.Records.{KeptRecords, count_of, front_of, span_of}
use Rattle.lc_journal.proofs.Forgetting.{IsForgotten, is_forgotten, log_forgotten}
use Rattle.lc_journal.proofs.journal.Journal.forget.Given.{Over}
use Rattle.lc_journal.proofs.journal.Journal.forget.Goals as goal

-- what a journal has in front may go
record MayForget (before front number : ℕ) : Type 0 where
  pub kept : before ≤ number
  pub closed : number ≤ front

pub forget-requires : goal.forget-requires
forget-requires g c =
    let w = c.args.self.now in
    record { kept = omega (arith, w.kept, w.kept_for_peers, c.min.ensures); closed = omega (arith, w.dropped_acked, w.acked_taken, w.taken_closed, c.min.ensures) }

module _ (g : Over) (c : goal.After-forget g) where
  may : MayForget c.args.self.now.records.before (front_of c.args.self.now.records) c.min.result
  may =
      let w = c.args.self.now in
      record { kept = omega (arith, w.kept, w.kept_for_peers, c.min.ensures); closed = omega (arith, w.dropped_acked, w.acked_taken, w.taken_closed, c.min.ensures) }

  is : IsForgotten c.args.self.now.records c.forget.new.self c.args.self.now.dropped c.args.self.now.acked c.args.self.now.taken
  is =
      let w = c.args.self.now in
      subst (λ (k : KeptRecords). IsForgotten w.records k w.dropped w.acked w.taken) (sym c.forget.ensures)
      (is_forgotten w.records c.min.result may.kept may.closed w.dropped w.acked w.taken (omega (arith, c.min.ensures)) w.dropped_acked w.acked_taken)

pub invariant_of-self : goal.invariant_of-self
invariant_of-self g c =
    let w = c.args.self.now in
    let e = is g c in
    let before = ap (λ (k : KeptRecords). k.before) c.forget.ensures in
    record {
      kept = omega (arith, before, c.min.ensures);
      kept_for_peers = omega (arith, before, c.min.ensures);
      dropped_acked = w.dropped_acked;
      trimmed_acked = w.trimmed_acked;
      acked_taken = w.acked_taken;
      taken_closed = omega (arith, w.taken_closed, e.front);
      group_room = w.group_room;
      short = w.short;
      log_room = w.log_room;
      room = omega (arith, w.room, e.end);
      end = λ up free. w.end up free ∙ sym (ap length e.stable);
      under_way = λ up busy free. w.under_way up busy free ∙ sym (ap length e.on_its_way);
      busy = w.busy;
      sealed = λ up. omega (arith, w.sealed up, e.count);
      emptied = w.emptied;
      rounds = w.rounds;
      one_more = w.one_more;
    }

pub returns : goal.returns
returns g c =
    let w = c.args.self.now in
    let kept : w.records.before ≤ c.min.result = omega (arith, w.kept, w.kept_for_peers, c.min.ensures) in
    let closed : c.min.result ≤ front_of w.records = omega (arith, w.dropped_acked, w.acked_taken, w.taken_closed, c.min.ensures) in
    record {
      still = λ m node s x h.
          subst (λ (k : KeptRecords). FitsLog g.D.Area m node w.log k w.dropped w.trimmed w.taken w.acked s x) (sym c.forget.ensures)
          (log_forgotten w.records c.min.result kept closed g.D.Area m node w.log w.dropped w.trimmed w.taken w.acked s x h);
      kept = ap (λ (k : KeptRecords). k.before) c.forget.ensures ∙ c.min.ensures;
      end = ap (λ (k : KeptRecords). length (span_of k w.dropped (count_of k))) c.forget.ensures
          ∙ (is_forgotten w.records c.min.result kept closed w.dropped w.acked w.taken (omega (arith, c.min.ensures)) w.dropped_acked w.acked_taken).end;
      log = refl;
      group = refl;
      words = refl;
      dropped = refl;
      trimmed = refl;
      acked = refl;
      round = refl;
    }
