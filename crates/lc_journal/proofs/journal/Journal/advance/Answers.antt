use Rattle.std.proofs.Common.{◌≡◌, ◌≤◌, ◌<◌, ℕ, false, arith, inl, inr, length, ap, sym, refl, subst, ◌∙◌, true≢false}
use Rattle.std.proofs.lemmas.Bool.{cases_Bool}
use Rattle.lc_journal.specs.Log.{HasRoom, MovesOn, CallsOnce, taken_by, is_failed, is_idle, is_sealed}
use Rattle.lc_journal.specs.Records.{count_of, front_of, span_of}
use Rattle.lc_journal.proofs.Spans.{leading_le, length-span}
use Rattle.lc_journal.proofs.Rooms.{acked_stays, free_still, sealed_works, room_for, size_kept, ends_by, end_is, way_is, acked_between}
use Rattle.lc_journal.proofs.journal.Journal.advance.Goals as goal

pub flush_step-requires : goal.flush_step-requires
flush_step-requires g c =
    let w = c.args.self.now in
    let k = w.records in
    let front : front_of k ≤ count_of k = omega (arith, leading_le k.records) in
    let first = length-span k w.dropped w.acked (count_of k) w.kept w.dropped_acked (omega (arith, w.acked_taken, w.taken_closed, front)) in
    let second = length-span k w.acked w.taken (count_of k) (omega (arith, w.kept, w.dropped_acked)) w.acked_taken (omega (arith, w.taken_closed, front)) in
    record {
      room =
          subst (λ log. HasRoom g.D.Area log (taken_by g.D.Area log (length w.group.words))) (sym c.replace-log.ensures.value)
          (room_for g.D.Area w.log (length (span_of k w.dropped w.acked)) (length (span_of k w.acked w.taken)) (length (span_of k w.dropped (count_of k))) (length w.group.words)
          (omega (arith, first, second)) (λ up. omega (arith, w.room, w.log_room up)) (λ up. w.end up c.requires.free) (λ up busy. w.under_way up busy c.requires.free) (λ idle. ap length (c.requires.words idle)) c.requires.free);
      free = ap (is_sealed g.D.Area) c.replace-log.ensures.value ∙ c.requires.free;
    }

pub invariant_of-self : goal.invariant_of-self
invariant_of-self g c =
    let w = c.args.self.now in
    let k = w.records in
    let new = c.flush_step.result in
    let moves : MovesOn g.D.Area w.log (length w.group.words) new = subst (λ log. MovesOn g.D.Area log (length w.group.words) new) c.replace-log.ensures.value c.flush_step.ensures.ends in
    let calls : CallsOnce g.D.Area w.log new = subst (λ log. CallsOnce g.D.Area log new) c.replace-log.ensures.value c.flush_step.ensures.device in
    let between = acked_between g.D.Area new w.taken w.acked w.acked_taken in
    let both = length-span k w.dropped w.acked w.taken w.kept w.dropped_acked w.acked_taken in
    let by = λ (up : is_failed g.D.Area new ≡ false).
    let was = (size_kept g.D.Area w.log new calls up).0 in
    ends_by g.D.Area w.log new (length (span_of k w.dropped w.acked)) (length (span_of k w.acked w.taken)) (length w.group.words) up was moves (w.end was c.requires.free) (λ busy. w.under_way was busy c.requires.free)
    (λ idle. ap length (c.requires.words idle)) c.requires.free in
    let free = λ (up : is_failed g.D.Area new ≡ false). free_still g.D.Area w.log new (length w.group.words) moves (size_kept g.D.Area w.log new calls up).0 c.requires.free up in
    record {
      kept = w.kept;
      kept_for_peers = w.kept_for_peers;
      dropped_acked = omega (arith, w.dropped_acked, between.0, c.acked_after-self.ensures);
      trimmed_acked = omega (arith, w.trimmed_acked, between.0, c.acked_after-self.ensures);
      acked_taken = omega (arith, between.1, c.acked_after-self.ensures);
      taken_closed = w.taken_closed;
      group_room = w.group_room;
      short = w.short;
      log_room = λ up. let same = size_kept g.D.Area w.log new calls up in omega (arith, w.log_room same.0, same.1);
      room = w.room;
      end = λ up not. rw c.acked_after-self.ensures
          (end_is g.D.Area new (length (span_of k w.dropped w.acked)) (length (span_of k w.acked w.taken)) w.taken w.acked (λ (n : ℕ). length (span_of k w.dropped n)) up not (by up) refl both);
      under_way = λ up busy not. rw c.acked_after-self.ensures
          (way_is g.D.Area new (length (span_of k w.dropped w.acked)) (length (span_of k w.acked w.taken)) w.taken w.acked (λ (n : ℕ). length (span_of k n w.taken)) up busy not (by up) refl);
      busy = λ up busy not.
          let stays = acked_stays g.D.Area new w.taken w.acked busy in
          let was = (size_kept g.D.Area w.log new calls up).0 in
          let some : w.acked < w.taken = (elim (cases_Bool (is_idle g.D.Area w.log)) [
            | inl idle ↦ c.requires.some idle
            | inr works ↦ w.busy was works c.requires.free
          ]) in
          omega (arith, some, stays, c.acked_after-self.ensures);
      sealed = λ is. absurd (true≢false (sym is ∙ free (sealed_works g.D.Area new is)));
      emptied = λ is. absurd (true≢false (sym is ∙ free (sealed_works g.D.Area new is)));
      rounds = w.rounds;
      one_more = λ is. absurd (true≢false (sym is ∙ free (sealed_works g.D.Area new is)));
    }
