use Rattle.std.proofs.Common.{◌≡◌, ℕ, length, Some, refl, sym, ap, subst, ◌∙◌}
use Rattle.std.proofs.lemmas.Option.{same_Some as same_some}
use Rattle.lc_model.specs.Machine.{dropped, appended}
use Rattle.lc_model.specs.State.{running_of, is_by}
use Rattle.lc_model.specs.declared.event.Event.TheVariants.{Reserve}
use Rattle.lc_model.specs.declared.reply.Reply.TheVariants.{Ended, Reserved}
use Rattle.lc_model.proofs.Holders.{is_by-both}
use Rattle.lc_model.proofs.Lists.{found-passes}
use Rattle.lc_model.proofs.Rows.{reserve-done}
use Rattle.lc_record.proofs.ListLemmas.{OnErr_from as on_err}
use Rattle.lc_settled.specs.Numbers.{next_record}
use Rattle.lc_desk.specs.Prepares.{Ends, GetsPlace, Keeps}
use Rattle.lc_settled.specs.Settled.{reserve_open}
use Rattle.lc_desk.specs.declared.ending.Ending.{Ending}
use Rattle.lc_desk.specs.declared.log_end.LogEnd.{LogEnd}
use Rattle.lc_desk.specs.Slots.{besides_of}
use Rattle.lc_desk.proofs.Dropping.{only_dropped}
use Rattle.lc_events.proofs.Going.{by_desk, settled_by, slots_alike, stays_so}
use Rattle.lc_journal.proofs.OtherLogs.{logs_appended}
use Rattle.lc_desk.proofs.Others.{beside_appended}
use Rattle.lc_events.proofs.Reserved.{own_record, ended_open, ends_at}
use Rattle.lc_events.proofs.Slotted.{aside_appended, numbers_fit, slots_appended}
use Rattle.lc_events.proofs.node_state.NodeState.reserve.Goals as goal

pub returns-in_err-refusal-clause-err : goal.returns-in_err-refusal-clause-err
returns-in_err-refusal-clause-err g c = on_err c.from_residual.result _ (λ m n s x h.
    let w = c.args.self.now in
    record {
      desk = c.in_err-refusal.ensures.err m n s h.desk;
      slots = slots_alike m n w.desk.here c.prepare.new.self.here s x c.prepare.ensures.beside h.slots;
      journal = h.journal;
      room = h.room;
      round = h.round;
      known = h.known;
    })

pub returns-in_err-number-in-Record-clause-err : goal.returns-in_err-number-in-Record-clause-err
returns-in_err-number-in-Record-clause-err g c = on_err c.from_residual-in_err-number-in-Record.result _ (λ m n s x h.
    let w = c.args.self.now in
    let same = c.in_err-number-in-Record.ensures.err in
    let kept = subst (λ (ending : Ending). Keeps w.desk ending c.prepare.new.self) c.in-Record.is c.in_ok-refusal.ensures.still in
    record {
      desk = kept m n s h.desk;
      slots = slots_alike m n w.desk.here c.prepare.new.self.here s x c.prepare.ensures.beside h.slots;
      journal = rw same h.journal;
      room = rw same h.room;
      round = rw same h.round;
      known = h.known;
    })

pub returns-in-Refused-clause-follows : goal.returns-in-Refused-clause-follows
returns-in-Refused-clause-follows g c = λ m s x sound common h sealed.
    let w = c.args.self.now in
    let log : LogEnd = record { end = c.end.result; room = w.journal.words; sealed = c.is_sealed.result } in
    let ends = ends_at g.D.Area m c.args.node s x w c.end.result c.is_sealed.result h c.end.ensures (c.is_sealed.ensures ∙ sealed) in
    let all = c.in_ok-refusal.ensures.prepares m s x sound h.desk (numbers_fit m c.args.node w.desk.here s x h.slots) ends in
    let mine = subst (λ (ending : Ending). Ends m c.args.node c.args.thread s x log ending c.prepare.new.self) c.in-Refused.is all in
    stays_so g.D.Area m c.args.node (Reserve c.args.node c.args.thread) s x _ mine.0 (settled_by m s x (Reserve c.args.node c.args.thread) _ (λ e. absurd cc) mine.1) refl
    (record {
      desk = mine.2;
      slots = slots_alike m c.args.node w.desk.here c.prepare.new.self.here s x c.prepare.ensures.beside h.slots;
      journal = h.journal;
      room = h.room;
      round = h.round;
      known = h.known;
    })

pub returns-in-Empty-clause-follows : goal.returns-in-Empty-clause-follows
returns-in-Empty-clause-follows g c = λ m s x sound common h sealed.
    let w = c.args.self.now in
    let log : LogEnd = record { end = c.end.result; room = w.journal.words; sealed = c.is_sealed.result } in
    let ends = ends_at g.D.Area m c.args.node s x w c.end.result c.is_sealed.result h c.end.ensures (c.is_sealed.ensures ∙ sealed) in
    let all = c.in_ok-refusal.ensures.prepares m s x sound h.desk (numbers_fit m c.args.node w.desk.here s x h.slots) ends in
    let mine = subst (λ (ending : Ending). Ends m c.args.node c.args.thread s x log ending c.prepare.new.self) c.in-Empty.is all in
    by_desk g.D.Area m c.args.node (Reserve c.args.node c.args.thread) s x Ended (dropped s c.args.node c.args.thread) mine.0
    (settled_by m s x (Reserve c.args.node c.args.thread) Ended (λ e. absurd cc) (ended_open m s (dropped s c.args.node c.args.thread) x (running_of c.args.node c.args.thread s) mine.0))
    refl w h c.prepare.new.self (only_dropped s c.args.node c.args.thread) c.prepare.ensures.beside mine.1

pub returns-in_ok-number-in-Record-clause-follows : goal.returns-in_ok-number-in-Record-clause-follows
returns-in_ok-number-in-Record-clause-follows g c = λ m s x sound common h sealed.
    let w = c.args.self.now in
    let log : LogEnd = record { end = c.end.result; room = w.journal.words; sealed = c.is_sealed.result } in
    let ends = ends_at g.D.Area m c.args.node s x w c.end.result c.is_sealed.result h c.end.ensures (c.is_sealed.ensures ∙ sealed) in
    let all = c.in_ok-refusal.ensures.prepares m s x sound h.desk (numbers_fit m c.args.node w.desk.here s x h.slots) ends in
    let mine = subst (λ (ending : Ending). Ends m c.args.node c.args.thread s x log ending c.prepare.new.self) c.in-Record.is all in
    let ready = mine.0 in
    let t = ready.transaction in
    let own : t.node ≡ c.args.node = (is_by-both c.args.node c.args.thread t (found-passes (is_by c.args.node c.args.thread) s.running t ready.running)).0 in
    let words = c.as_slice.result.now in
    let spelled : words ≡ c.in-Record.words = c.as_slice.ensures in
    let again : length c.in-Record.words ≡ length c.as_slice-in-Record.result.now = ap length (sym c.as_slice-in-Record.ensures) in
    let logged = c.in_ok-number-in-Record.ensures.logs m c.args.node s x t (next_record m s x t) h.journal own
    (own_record m c.args.node c.args.thread s x t ready.running) (sym (spelled ∙ ready.record_is.spelled))
    (record { canonical = ready.record_is.canonical; short = ready.record_is.short }) in
    let answer : reserve_open m s x (running_of c.args.node c.args.thread s) ≡ Some (Reserved c.end.result (length c.as_slice-in-Record.result.now)) =
    rw (ready.running, ready.set) (ap Some (ready.answer ∙ ap (λ (n : ℕ). Reserved c.end.result n) again)) in
    record {
      after = appended s t;
      next = x;
      row = reserve-done m s c.args.node c.args.thread t c.end.result (length c.as_slice-in-Record.result.now) ready.running ready.set;
      settled = settled_by m s x (Reserve c.args.node c.args.thread) _ (λ e. absurd cc) (λ reply is. same_some _ _ (sym answer ∙ is));
      turns = refl;
      aside = record {
        desks = beside_appended m c.args.node c.args.thread s t sound ready.running;
        logs = logs_appended m c.args.node c.args.thread s x t ready.running;
        slots = aside_appended m c.args.node s x t;
        known = λ other segment differ. refl;
      };
      fits = record {
        desk = c.reserve-in-Record.ensures.reserves m c.args.node s t mine.1 ready.running logged.0;
        slots = slots_alike m c.args.node w.desk.here c.reserve-in-Record.new.self.here (appended s t) x (rw c.reserve-in-Record.ensures.here c.prepare.ensures.beside)
            (slots_appended m c.args.node (besides_of w.desk.here) s x t h.slots);
        journal = logged.1;
        room = rw c.in_ok-number-in-Record.ensures.group h.room;
        round = c.in_ok-number-in-Record.ensures.round ∙ h.round;
        known = h.known;
      };
      phase = refl;
      places = λ segment differ. refl;
    }

pub returns-in_err-refusal-clause-memory : goal.returns-in_err-refusal-clause-memory
returns-in_err-refusal-clause-memory g c = on_err c.from_residual.result _ (λ m s x sound h sealed.
    let w = c.args.self.now in
    let ends = ends_at g.D.Area m c.args.node s x w c.end.result c.is_sealed.result h c.end.ensures (c.is_sealed.ensures ∙ sealed) in
    subst (GetsPlace m c.args.node c.args.thread s x) c.end.ensures (c.in_err-refusal.ensures.memory m s x sound h.desk (numbers_fit m c.args.node w.desk.here s x h.slots) ends))

pub returns-in_err-number-in-Record-clause-memory : goal.returns-in_err-number-in-Record-clause-memory
returns-in_err-number-in-Record-clause-memory g c = on_err c.from_residual-in_err-number-in-Record.result _ (λ m s x sound h sealed.
    let w = c.args.self.now in
    let log : LogEnd = record { end = c.end.result; room = w.journal.words; sealed = c.is_sealed.result } in
    let ends = ends_at g.D.Area m c.args.node s x w c.end.result c.is_sealed.result h c.end.ensures (c.is_sealed.ensures ∙ sealed) in
    let all = c.in_ok-refusal.ensures.prepares m s x sound h.desk (numbers_fit m c.args.node w.desk.here s x h.slots) ends in
    let ready = (subst (λ (ending : Ending). Ends m c.args.node c.args.thread s x log ending c.prepare.new.self) c.in-Record.is all).0 in
    subst (GetsPlace m c.args.node c.args.thread s x) c.end.ensures (record {
      transaction = ready.transaction;
      running = ready.running;
      set = ready.set;
      words = length c.in-Record.words;
      answer = ready.answer;
    }))
