use Rattle.std.proofs.Common.{List, Some, refl, sym, ap, subst, ◌∙◌}
use Rattle.std.specs.Prelude.{Err, slice_set}
use Rattle.std.proofs.lemmas.Option.{slice_get_read}
use Rattle.lc_record.specs.Marks.{marked}
use Rattle.lc_record.proofs.ListLemmas.{OnErr_from as on_err}
use Rattle.lc_model.specs.Machine.{changed}
use Rattle.lc_model.specs.History.{value}
use Rattle.lc_model.proofs.Rows.{set_range-no_turn}
use Rattle.lc_tx.specs.declared.tx.Tx.{Tx}
use Rattle.lc_tx.proofs.StandsLemmas.{range_stands}
use Rattle.lc_desk.specs.Here.{the_images}
use Rattle.lc_desk.specs.Seat.{Seat, Open, open_of}
use Rattle.lc_desk.specs.Seats.{AllRun}
use Rattle.lc_desk.specs.Desk.{FitsDesk}
use Rattle.lc_desk.proofs.Seating.{not_open, open_on, set_same}
use Rattle.lc_desk.proofs.Dropping.{own_open_runs, open_fits, no_turn, still, desk_seen}
use Rattle.lc_desk.proofs.Changing.{seen_held, seen_keeps, changed_own, changed_but, runs_next, desk_next}
use Rattle.lc_desk.proofs.RangeRows.{same_thread, range_fault, range_lock, range_done}
use Rattle.lc_desk.proofs.Refusing.{by_refusal, memory_wanted}
use Rattle.lc_desk.proofs.Shortness.{few_slots, in_place_same, short_same}
use Rattle.lc_desk.proofs.Names.{of_set_range}
use Rattle.lc_desk.proofs.desk.Desk.set_range.Goals as goal

pub invariant_of-self-clause-runs : goal.invariant_of-self-clause-runs
invariant_of-self-clause-runs c =
    let w = c.args.self.now in
    let seat = c.index_mut-seat.result.now in
    let at = slice_get_read w.seats.items w.seats.len c.args.thread seat w.seats.ok.0 c.requires.seat c.index_mut-seat.ensures.value in
    subst (λ (l : List Seat). AllRun w.here l) (sym (set_same w.seats.items c.args.thread seat at)) w.runs

pub returns-then-not-is_open-clause-follows : goal.returns-then-not-is_open-clause-follows
returns-then-not-is_open-clause-follows c = λ node m s known sound h.
    let w = c.args.self.now in
    let seat = c.index_mut-seat.result.now in
    let at = slice_get_read w.seats.items w.seats.len c.args.thread seat w.seats.ok.0 c.requires.seat c.index_mut-seat.ensures.value in (
      s,
      set_range-no_turn m s node c.args.thread c.args.segment c.args.offset c.args.len (no_turn w.here node c.args.thread _ s seat (h.threads c.args.thread seat at) (not_open seat (sym c.if-not-is_open.ensures))),
      still node s,
      subst (λ (l : List Seat). FitsDesk m node w.here l s) (sym (set_same w.seats.items c.args.thread seat at)) h,
    )

pub set_range-requires : goal.set_range-requires
set_range-requires c =
    let w = c.args.self.now in
    let seat = c.index_mut-seat.result.now in
    let at = slice_get_read w.seats.items w.seats.len c.args.thread seat w.seats.ok.0 c.requires.seat c.index_mut-seat.ensures.value in
    open_on w.here w.seats.items c.args.thread seat at (sym c.if-not-is_open.ensures) w.runs

pub invariant_of-self-2-clause-runs : goal.invariant_of-self-2-clause-runs
invariant_of-self-2-clause-runs c =
    let w = c.args.self.now in
    let seat = c.index_mut-seat.result.now in
    let new = c.set_range.new.here in
    let at = slice_get_read w.seats.items w.seats.len c.args.thread seat w.seats.ok.0 c.requires.seat c.index_mut-seat.ensures.value in
    let did = c.set_range.ensures in
    let is = ap open_of did.was in
    let own = own_open_runs w.here w.here w.seats.items c.args.thread seat did.tx at is w.runs in
    rw did.is (runs_next w.here new w.seats.items c.args.thread seat did.tx did.after at is w.runs (seen_keeps w.here new c.args.thread did.images)
    (same_thread w.here did.tx did.after c.args.segment c.args.offset c.args.len c.set_range.result did.sets did.err ∙ own.own) did.runs)

pub returns-in-Ok-clause-follows : goal.returns-in-Ok-clause-follows
returns-in-Ok-clause-follows c = λ node m s known sound h.
    let w = c.args.self.now in
    let seat = c.index_mut-seat.result.now in
    let new = c.set_range.new.here in
    let at = slice_get_read w.seats.items w.seats.len c.args.thread seat w.seats.ok.0 c.requires.seat c.index_mut-seat.ensures.value in
    let did = c.set_range.ensures in
    let tx : Tx = did.tx in
    let next : Tx = did.after in
    let is = ap open_of did.was in
    let one = open_fits w.here node c.args.thread w.seats.items seat tx m s h at is in
    let own = own_open_runs w.here w.here w.seats.items c.args.thread seat tx at is w.runs in
    let t = one.transaction in
    let u = marked t c.args.segment c.args.offset c.args.len in
    let lock = range_lock m node c.args.thread w.here w.seats.items s h tx one own.runs c.args.segment c.args.offset c.args.len c.set_range.result did.answers c.in-Ok.is in
    let sets = rw c.in-Ok.is at did.sets in
    let keeps = seen_keeps w.here new c.args.thread did.images in
    rw did.is (
      changed s u,
      range_done m node c.args.thread w.here w.seats.items s h tx one own.runs c.args.segment c.args.offset c.args.len c.set_range.result did.answers c.in-Ok.is,
      changed_but s node c.args.thread t u one.running refl refl,
      desk_next w.here new w.seats.items c.args.thread seat tx next at is w.runs keeps m node s h (seen_held w.here new did.images)
          (ap (λ l. l.items) sets.same_locks) (ap (λ l. l.items) sets.same_reading) t u one.running refl refl
          (record {
            transaction = u;
            running = changed_own s node c.args.thread t u one.running refl refl;
            unclosed = one.unclosed;
            stands = range_stands the_images w.here new tx next c.args.segment c.args.offset c.args.len (value m.start s.earlier s.history) t one.stands lock sets did.images own.runs did.runs;
          }),
    )

pub returns-in-Ok-clause-beside : goal.returns-in-Ok-clause-beside
returns-in-Ok-clause-beside c = c.set_range.ensures.images.beside

pub returns-in-Err-clause-beside : goal.returns-in-Err-clause-beside
returns-in-Err-clause-beside c = c.set_range.ensures.images.beside

pub returns-in-Err-clause-follows : goal.returns-in-Err-clause-follows
returns-in-Err-clause-follows c = by_refusal _ c.refused.result _ c.refused.ensures (λ refusal named node m s known sound h.
    let w = c.args.self.now in
    let seat = c.index_mut-seat.result.now in
    let new = c.set_range.new.here in
    let at = slice_get_read w.seats.items w.seats.len c.args.thread seat w.seats.ok.0 c.requires.seat c.index_mut-seat.ensures.value in
    let did = c.set_range.ensures in
    let is = ap open_of did.was in
    let one = open_fits w.here node c.args.thread w.seats.items seat did.tx m s h at is in
    let own = own_open_runs w.here w.here w.seats.items c.args.thread seat did.tx at is w.runs in
    let same = did.is ∙ ap (λ x. Open x) (rw c.in-Err.is at did.err) ∙ sym did.was in
    let back = ap (slice_set w.seats.items c.args.thread) same ∙ set_same w.seats.items c.args.thread seat at in (
      s,
      range_fault m node c.args.thread w.here w.seats.items s h did.tx one own.runs c.args.segment c.args.offset c.args.len c.set_range.result c.in-Err.fault refusal did.answers
          (rw c.in-Err.is at did.faults) c.in-Err.is named,
      still node s,
      subst (λ (l : List Seat). FitsDesk m node new l s) (sym back) (desk_seen m node w.here new w.seats.items s w.runs did.images h),
    ))

pub returns-in-Err-clause-err : goal.returns-in-Err-clause-err
returns-in-Err-clause-err c =
    let w = c.args.self.now in
    let seat = c.index_mut-seat.result.now in
    let new = c.set_range.new.here in
    let at = slice_get_read w.seats.items w.seats.len c.args.thread seat w.seats.ok.0 c.requires.seat c.index_mut-seat.ensures.value in
    let did = c.set_range.ensures in
    let same = did.is ∙ ap (λ x. Open x) (rw c.in-Err.is at did.err) ∙ sym did.was in
    let back = ap (slice_set w.seats.items c.args.thread) same ∙ set_same w.seats.items c.args.thread seat at in
    on_err c.refused.result _ (λ m node s h.
    subst (λ (l : List Seat). FitsDesk m node new l s) (sym back) (desk_seen m node w.here new w.seats.items s w.runs did.images h))

pub returns-in-Err-clause-memory : goal.returns-in-Err-clause-memory
returns-in-Err-clause-memory c = memory_wanted c.in-Err.fault c.refused.result _ c.refused.ensures (λ none.
    let w = c.args.self.now in
    let seat = c.index_mut-seat.result.now in
    let at = slice_get_read w.seats.items w.seats.len c.args.thread seat w.seats.ok.0 c.requires.seat c.index_mut-seat.ensures.value in
    let did = c.set_range.ensures in
    let wanted = did.no_memory (c.in-Err.is ∙ ap (λ f. Err f) none) in
    record {
      tx = did.tx;
      sits = at ∙ ap (λ x. Some x) did.was;
      locked = wanted.0;
      some = wanted.1;
      inside = wanted.2;
      few = wanted.3;
      more = wanted.4;
    })

pub invariant_of-self-2-clause-few_slots : goal.invariant_of-self-2-clause-few_slots
invariant_of-self-2-clause-few_slots c = few_slots c.args.self.now.here c.set_range.new.here c.set_range.ensures.images.beside c.args.self.now.few_slots

pub invariant_of-self-2-clause-in_place : goal.invariant_of-self-2-clause-in_place
invariant_of-self-2-clause-in_place c = in_place_same c.args.self.now.here c.set_range.new.here c.set_range.ensures.images.beside c.args.self.now.in_place

pub invariant_of-self-2-clause-short : goal.invariant_of-self-2-clause-short
invariant_of-self-2-clause-short c = short_same c.args.self.now.here c.set_range.new.here c.set_range.ensures.images c.args.self.now.short

pub returns-in-Err-clause-names : goal.returns-in-Err-clause-names
returns-in-Err-clause-names c = by_refusal _ c.refused.result _ c.refused.ensures (of_set_range c.in-Err.fault (rw c.in-Err.is at c.set_range.ensures.faults))
