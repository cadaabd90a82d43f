use Rattle.std.proofs.Common.{◌≡◌, ◌<◌, ◌≤◌, ◌+◌, None, Some, length, sym, ap, subst, ◌∙◌, arith}
use Rattle.std.specs.Prelude.{Ok, vec_capacity}
use Rattle.std.proofs.lemmas.Option.{slice_get_read, same_Some as same_some}
use Rattle.lc_record.specs.Record.{record_len, IsRecord}
use Rattle.lc_record.proofs.ListLemmas.{OnErr_from as on_err}
use Rattle.lc_model.specs.declared.reply.Reply.TheVariants.{Reserved}
use Rattle.lc_model.proofs.Rows.{reserve-no_turn}
use Rattle.lc_tx.specs.Prepared.{final_record}
use Rattle.lc_tx.specs.declared.tx.Tx.{Tx}
use Rattle.lc_desk.specs.Here.{the_images}
use Rattle.lc_settled.specs.Settled.{reserve_open}
use Rattle.lc_desk.specs.Seat.{Open}
use Rattle.lc_desk.proofs.Dropping.{no_turn, runs_same, desk_seen}
use Rattle.lc_desk.proofs.Readied.{seated, ready, laid_so, record_is, set_some, ended_row, answered, sealed_refused, full_refused, needs_fault}
use Rattle.lc_desk.proofs.Seating.{same_open}
use Rattle.lc_desk.proofs.Shortness.{few_slots, in_place_same, short_same}
use Rattle.lc_desk.proofs.Names.{of_needs}
use Rattle.lc_desk.proofs.desk.Desk.prepare.Goals as goal

pub returns-in_default-clause-prepares : goal.returns-in_default-clause-prepares
returns-in_default-clause-prepares c = λ m s x sound h numbers ends.
    let w = c.args.self.now in
    let seat = c.index.result.now in
    let at = slice_get_read w.seats.items w.seats.len c.args.thread seat w.seats.ok.0 c.requires.seat c.index.ensures in
    let none = no_turn w.here c.args.node c.args.thread _ s seat (h.threads c.args.thread seat at) (sym c.in_default.ensures) in
    (reserve-no_turn m s c.args.node c.args.thread none, (λ a is. absurd (let no : None ≡ Some a = sym (ap (reserve_open m s x) none) ∙ is in cc)), h)

pub layout-requires-clause-runs : goal.layout-requires-clause-runs
layout-requires-clause-runs c = (seated c.args.self.now c.args.thread c.index.result.now c.in-Some.tx.now c.requires.seat c.index.ensures c.in-Some.ensures).runs

pub layout-requires-clause-small : goal.layout-requires-clause-small
layout-requires-clause-small c = (seated c.args.self.now c.args.thread c.index.result.now c.in-Some.tx.now c.requires.seat c.index.ensures c.in-Some.ensures).small

pub end_empty-requires-clause-empty : goal.end_empty-requires-clause-empty
end_empty-requires-clause-empty c = λ tx sits.
    let at = seated c.args.self.now c.args.thread c.index.result.now c.in-Some.tx.now c.requires.seat c.index.ensures c.in-Some.ensures in
    let same = same_open tx c.in-Some.tx.now (same_some (Open tx) (Open c.in-Some.tx.now) (sym sits ∙ at.at)) in
    ap (λ (y : Tx). y.set) same ∙ c.layout.ensures.empty.0 (c.in-Ok-None.is ∙ ap (λ o. Ok o) c.in-Ok-None.field-0-is)

pub returns-in-Ok-None-clause-prepares : goal.returns-in-Ok-None-clause-prepares
returns-in-Ok-None-clause-prepares c = λ m s x sound h numbers ends.
    let at = seated c.args.self.now c.args.thread c.index.result.now c.in-Some.tx.now c.requires.seat c.index.ensures c.in-Some.ensures in
    let its = ready c.args.self.now c.args.thread c.in-Some.tx.now at m c.args.node s x sound h numbers c.layout.ensures.canonical in (
      ended_row its (c.layout.ensures.empty.0 (c.in-Ok-None.is ∙ ap (λ o. Ok o) c.in-Ok-None.field-0-is)),
      c.end_empty.ensures.ends m c.args.node s c.in-Some.tx.now h at.at,
    )

pub returns-in-Err-clause-prepares : goal.returns-in-Err-clause-prepares
returns-in-Err-clause-prepares c = λ m s x sound h numbers ends.
    let at = seated c.args.self.now c.args.thread c.index.result.now c.in-Some.tx.now c.requires.seat c.index.ensures c.in-Some.ensures in
    let its = ready c.args.self.now c.args.thread c.in-Some.tx.now at m c.args.node s x sound h numbers c.layout.ensures.canonical in
    let refused = needs_fault its ends c.layout.result c.in-Err.fault c.refusal_of.result c.layout.ensures.empty.1 (λ n. c.layout.ensures.spent c.args.node n) (λ words. c.layout.ensures.too_long c.args.node words)
    c.in-Err.ensures.faults c.in-Err.is c.refusal_of.ensures in
    (refused.0, refused.1, h)

pub returns-then-log-clause-prepares : goal.returns-then-log-clause-prepares
returns-then-log-clause-prepares c = λ m s x sound h numbers ends.
    let at = seated c.args.self.now c.args.thread c.index.result.now c.in-Some.tx.now c.requires.seat c.index.ensures c.in-Some.ensures in
    let its = ready c.args.self.now c.args.thread c.in-Some.tx.now at m c.args.node s x sound h numbers c.layout.ensures.canonical in
    let told = (c.layout.ensures.laid c.args.node c.in-Ok-Some.layout).0 (c.in-Ok-Some.is ∙ ap (λ o. Ok o) c.in-Ok-Some.field-0-is) in
    let refused = sealed_refused its ends told.0 c.if-log.true in
    (refused.0, refused.1, h)

pub overflow_cast-need : goal.overflow_cast-need
overflow_cast-need c =
    let laid = laid_so c.args.self.now.here c.in-Some.tx.now c.args.node c.layout.result _ c.in-Ok-Some.layout c.words-need.result c.layout.ensures.laid c.in-Ok-Some.is c.in-Ok-Some.field-0-is c.words-need.ensures in
    let short : record_len (final_record the_images c.args.self.now.here c.in-Some.tx.now c.args.node) ≤ 4096 = laid.loggable.short in
    omega (arith, laid.count, short)

pub returns-then-need-log-clause-prepares : goal.returns-then-need-log-clause-prepares
returns-then-need-log-clause-prepares c = λ m s x sound h numbers ends.
    let laid = laid_so c.args.self.now.here c.in-Some.tx.now c.args.node c.layout.result _ c.in-Ok-Some.layout c.words-need.result c.layout.ensures.laid c.in-Ok-Some.is c.in-Ok-Some.field-0-is c.words-need.ensures in
    let at = seated c.args.self.now c.args.thread c.index.result.now c.in-Some.tx.now c.requires.seat c.index.ensures c.in-Some.ensures in
    let its = ready c.args.self.now c.args.thread c.in-Some.tx.now at m c.args.node s x sound h numbers c.layout.ensures.canonical in
    let refused = full_refused its ends c.words-need.result laid.loggable laid.count c.if-log.false
    (omega (arith, c.if-need-log.true, c.requires.end)) in
    (refused.0, refused.1, h)

pub spell_end-requires-clause-runs : goal.spell_end-requires-clause-runs
spell_end-requires-clause-runs c = (seated c.args.self.now c.args.thread c.index.result.now c.in-Some.tx.now c.requires.seat c.index.ensures c.in-Some.ensures).runs

pub spell_end-requires-clause-small : goal.spell_end-requires-clause-small
spell_end-requires-clause-small c = (seated c.args.self.now c.args.thread c.index.result.now c.in-Some.tx.now c.requires.seat c.index.ensures c.in-Some.ensures).small

pub spell_end-requires-clause-loggable : goal.spell_end-requires-clause-loggable
spell_end-requires-clause-loggable c =
    let laid = laid_so c.args.self.now.here c.in-Some.tx.now c.args.node c.layout.result _ c.in-Ok-Some.layout c.words-need.result c.layout.ensures.laid c.in-Ok-Some.is c.in-Ok-Some.field-0-is c.words-need.ensures in
    laid.loggable

pub spell_end-requires-clause-laid : goal.spell_end-requires-clause-laid
spell_end-requires-clause-laid c =
    let laid = laid_so c.args.self.now.here c.in-Some.tx.now c.args.node c.layout.result _ c.in-Ok-Some.layout c.words-need.result c.layout.ensures.laid c.in-Ok-Some.is c.in-Ok-Some.field-0-is c.words-need.ensures in
    laid.laid

pub invariant_of-self-2 : goal.invariant_of-self-2
invariant_of-self-2 c =
    let w = c.args.self.now in
    let new = c.spell_end.new.images in
    let same = c.spell_end.ensures.images in
    record { runs = runs_same w.here new w.seats.items w.runs same; few = w.few; few_slots = few_slots w.here new same.beside w.few_slots; short = short_same w.here new same w.short; in_place = in_place_same w.here new same.beside w.in_place }

pub returns-clause-prepares : goal.returns-clause-prepares
returns-clause-prepares c = λ m s x sound h numbers ends.
    let laid = laid_so c.args.self.now.here c.in-Some.tx.now c.args.node c.layout.result _ c.in-Ok-Some.layout c.words-need.result c.layout.ensures.laid c.in-Ok-Some.is c.in-Ok-Some.field-0-is c.words-need.ensures in
    let at = seated c.args.self.now c.args.thread c.index.result.now c.in-Some.tx.now c.requires.seat c.index.ensures c.in-Some.ensures in
    let its = ready c.args.self.now c.args.thread c.in-Some.tx.now at m c.args.node s x sound h numbers c.layout.ensures.canonical in
    let w = c.args.self.now in
    let words = c.in_ok-words.words in
    let fits : c.args.log.end + c.words-need.result ≤ c.args.log.room = omega (arith, c.if-need-log.false, c.requires.end) in (
      record {
        transaction = its.one.transaction;
        running = its.one.running;
        set = set_some its laid.loggable.some;
        record_is = subst (λ r. IsRecord r words) (record_is its) c.in_ok-words.ensures.record;
        answer = answered its ends c.words-need.result laid.loggable laid.count c.if-log.false fits
            ∙ ap (Reserved c.args.log.end) (laid.count ∙ sym c.in_ok-words.ensures.len);
      },
      desk_seen m c.args.node w.here c.spell_end.new.images w.seats.items s w.runs c.spell_end.ensures.images h,
    )

pub returns-clause-still : goal.returns-clause-still
returns-clause-still c = λ m node s h.
    let w = c.args.self.now in
    desk_seen m node w.here c.spell_end.new.images w.seats.items s w.runs c.spell_end.ensures.images h

pub returns-clause-room : goal.returns-clause-room
returns-clause-room c =
    let laid = laid_so c.args.self.now.here c.in-Some.tx.now c.args.node c.layout.result _ c.in-Ok-Some.layout c.words-need.result c.layout.ensures.laid c.in-Ok-Some.is c.in-Ok-Some.field-0-is c.words-need.ensures in
    let same : length c.in_ok-words.words ≡ c.words-need.result = c.in_ok-words.ensures.len ∙ sym laid.count in
    omega (arith, c.if-need-log.false, c.requires.end, same)

-- there is no memory for the words

pub returns-in_err-words-clause-err : goal.returns-in_err-words-clause-err
returns-in_err-words-clause-err c = on_err c.from_residual.result _ (λ m node s h.
    let w = c.args.self.now in
    desk_seen m node w.here c.spell_end.new.images w.seats.items s w.runs c.spell_end.ensures.images h)

pub returns-in_err-words-clause-memory : goal.returns-in_err-words-clause-memory
returns-in_err-words-clause-memory c = on_err c.from_residual.result _ (λ m s x sound h numbers ends.
    let laid = laid_so c.args.self.now.here c.in-Some.tx.now c.args.node c.layout.result _ c.in-Ok-Some.layout c.words-need.result c.layout.ensures.laid c.in-Ok-Some.is c.in-Ok-Some.field-0-is c.words-need.ensures in
    let at = seated c.args.self.now c.args.thread c.index.result.now c.in-Some.tx.now c.requires.seat c.index.ensures c.in-Some.ensures in
    let its = ready c.args.self.now c.args.thread c.in-Some.tx.now at m c.args.node s x sound h numbers c.layout.ensures.canonical in
    record {
      transaction = its.one.transaction;
      running = its.one.running;
      set = set_some its laid.loggable.some;
      words = c.words-need.result;
      answer = answered its ends c.words-need.result laid.loggable laid.count c.if-log.false
          (omega (arith, c.if-need-log.false, c.requires.end));
    })

pub returns-in_err-words-clause-kept : goal.returns-in_err-words-clause-kept
returns-in_err-words-clause-kept c = on_err c.from_residual.result _ (λ tx sits.
    let w = c.args.self.now in
    let mine = c.in-Some.tx.now in
    let at = seated c.args.self.now c.args.thread c.index.result.now c.in-Some.tx.now c.requires.seat c.index.ensures c.in-Some.ensures in
    let same = same_open tx c.in-Some.tx.now (same_some (Open tx) (Open c.in-Some.tx.now) (sym sits ∙ at.at)) in
    let short : vec_capacity w.memory < record_len (final_record the_images w.here mine c.args.node) =
    subst (λ l. vec_capacity l < record_len (final_record the_images w.here mine c.args.node)) c.replace-memory.ensures.value c.in_err-words.ensures.memory in
    subst (λ (y : Tx). vec_capacity w.memory < record_len (final_record the_images w.here y c.args.node)) (sym same) short)

pub returns-in-Err-clause-names : goal.returns-in-Err-clause-names
returns-in-Err-clause-names c = of_needs c.in-Err.fault c.in-Err.ensures.faults c.refusal_of.result c.refusal_of.ensures
