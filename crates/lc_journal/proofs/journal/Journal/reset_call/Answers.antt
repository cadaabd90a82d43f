use Rattle.std.proofs.Common.{◌≡◌, false, ap, sym, subst, ◌∙◌, arith, true≢false}
use Rattle.lc_journal.specs.Log.{CallsOnce, MovesReset, is_emptied, is_failed, is_sealed}
use Rattle.lc_journal.proofs.Rooms.{sealed_works, size_kept}
use Rattle.lc_journal.proofs.Sealing.{reset_still}
use Rattle.lc_journal.proofs.journal.Journal.reset_call.Goals as goal

pub reset_step-requires : goal.reset_step-requires
reset_step-requires g c = record {
  sealed = ap (is_sealed g.D.Area) c.replace-log.ensures.value ∙ c.requires.sealed;
  full = ap (is_emptied g.D.Area) c.replace-log.ensures.value ∙ c.requires.full;
}

pub invariant_of-self : goal.invariant_of-self
invariant_of-self g c =
    let w = c.args.self.now in
    let new = c.reset_step.result in
    let moves : MovesReset g.D.Area w.log new = subst (λ log. MovesReset g.D.Area log new) c.replace-log.ensures.value c.reset_step.ensures.ends in
    let calls : CallsOnce g.D.Area w.log new = subst (λ log. CallsOnce g.D.Area log new) c.replace-log.ensures.value c.reset_step.ensures.device in
    let still = λ (up : is_failed g.D.Area new ≡ false). reset_still g.D.Area w.log new c.requires.sealed (w.emptied c.requires.sealed) moves up in
    record {
      kept = w.kept;
      kept_for_peers = w.kept_for_peers;
      dropped_acked = w.dropped_acked;
      trimmed_acked = w.trimmed_acked;
      acked_taken = w.acked_taken;
      taken_closed = w.taken_closed;
      group_room = w.group_room;
      short = w.short;
      log_room = λ up. let same = size_kept g.D.Area w.log new calls up in omega (arith, w.log_room same.0, same.1);
      room = w.room;
      end = λ up free. absurd (true≢false (sym (still up).0 ∙ free));
      under_way = λ up busy free. absurd (true≢false (sym (still up).0 ∙ free));
      busy = λ up busy free. absurd (true≢false (sym (still up).0 ∙ free));
      sealed = λ is. w.sealed c.requires.sealed;
      emptied = λ is. (still (sealed_works g.D.Area new is)).1;
      rounds = w.rounds;
      one_more = λ is. w.one_more c.requires.sealed;
    }
