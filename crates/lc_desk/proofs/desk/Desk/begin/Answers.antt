use Rattle.std.proofs.Common.{◌≡◌, ℕ, List, Some, sym, ap, subst, ◌∙◌}
use Rattle.std.specs.Prelude.{Result, Ok, Err, OnOk, OnErr, slice_get, slice_set}
use Rattle.std.proofs.lemmas.Option.{slice_get_read}
use Rattle.lc_model.specs.Machine.{begun}
use Rattle.lc_tx.specs.Images.{IsLockable, IsSame}
use Rattle.lc_tx.specs.declared.tx_fault.TxFault.{TxFault}
use Rattle.lc_record.proofs.ListLemmas.{OnErr_from as on_err}
use Rattle.lc_desk.specs.Here.{the_images}
use Rattle.lc_desk.specs.Seat.{Seat, Free}
use Rattle.lc_desk.specs.SeatCalls.{BeginsIn}
use Rattle.lc_desk.specs.Seats.{AllRun, AreShort}
use Rattle.lc_desk.specs.Desk.{FitsDesk}
use Rattle.lc_desk.specs.declared.here.Here.{Here}
use Rattle.lc_desk.proofs.Dropping.{still, runs_same, desk_seen}
use Rattle.lc_desk.proofs.Refusing.{by_refusal, memory_wanted}
use Rattle.lc_desk.proofs.Begun.{free_seat, not_free, begin_fault, begin_row, begun_but, desk_begun, runs_begun}
use Rattle.lc_desk.proofs.Seating.{set_same}
use Rattle.lc_desk.proofs.Shortness.{few_slots, in_place_same, short_same, short_locked}
use Rattle.lc_desk.proofs.FewLocked.{never_many}
use Rattle.lc_desk.proofs.Names.{of_begin}
use Rattle.lc_desk.proofs.desk.Desk.begin.Goals as goal

pub invariant_of-self-clause-runs : goal.invariant_of-self-clause-runs
invariant_of-self-clause-runs c =
    let w = c.args.self.now in
    let seat = c.index_mut-seat.result.now in
    let at = slice_get_read w.seats.items w.seats.len c.args.thread seat w.seats.ok.0 c.requires.seat c.index_mut-seat.ensures.value in
    subst (λ (l : List Seat). AllRun w.here l) (sym (set_same w.seats.items c.args.thread seat at)) w.runs

pub returns-then-not-is_free-clause-follows : goal.returns-then-not-is_free-clause-follows
returns-then-not-is_free-clause-follows c = λ node m s known sound h.
    let w = c.args.self.now in
    let seat = c.index_mut-seat.result.now in
    let at = slice_get_read w.seats.items w.seats.len c.args.thread seat w.seats.ok.0 c.requires.seat c.index_mut-seat.ensures.value in (
      s,
      not_free m node c.args.thread w.here w.seats.items s c.args.segments.now c.args.reading.now h seat (h.threads c.args.thread seat at) (sym c.if-not-is_free.ensures),
      still node s,
      subst (λ (l : List Seat). FitsDesk m node w.here l s) (sym (set_same w.seats.items c.args.thread seat at)) h,
    )

pub begin-requires-clause-free : goal.begin-requires-clause-free
begin-requires-clause-free c = free_seat c.index_mut-seat.result.now (sym c.if-not-is_free.ensures)

-- whether it begins or not

runs_either : (i : ℕ) (old new : Here) (segments reading : List ℕ) (seats : List Seat) (next : Seat) (r : Result (Unit {0}) TxFault) → slice_get seats i ≡ Some Free → AllRun old seats
    → OnOk r (BeginsIn i segments reading old new next) → OnOk r ((n : ℕ) → IsLockable the_images old segments reading n) → OnErr r (IsSame the_images old new) → OnErr r (next ≡ Free)
    → AllRun new (slice_set seats i next)
runs_either i old new segments reading seats next (Ok v) at runs begins lockable same still = rw begins.is (runs_begun i old new segments reading begins.tx begins.begins lockable seats at begins.runs runs)
runs_either i old new segments reading seats next (Err fault) at runs begins lockable same still =
    subst (λ (l : List Seat). AllRun new l) (sym (ap (slice_set seats i) still ∙ set_same seats i Free at)) (runs_same old new seats runs same)

beside_either : (i : ℕ) (old new : Here) (segments reading : List ℕ) (next : Seat) (r : Result (Unit {0}) TxFault) → OnOk r (BeginsIn i segments reading old new next) → OnErr r (IsSame the_images old new)
    → the_images.IsSameBeside old new
beside_either i old new segments reading next (Ok v) begins same = begins.begins.held.same.beside
beside_either i old new segments reading next (Err fault) begins same = same.beside

short_either : (i : ℕ) (old new : Here) (segments reading : List ℕ) (next : Seat) (r : Result (Unit {0}) TxFault) → OnOk r (BeginsIn i segments reading old new next) → OnErr r (IsSame the_images old new)
    → AreShort old → AreShort new
short_either i old new segments reading next (Ok v) begins same short = short_locked i begins.tx.locked.items begins.tx.reading.items old new begins.begins.held short
short_either i old new segments reading next (Err fault) begins same short = short_same old new same short

pub invariant_of-self-2-clause-runs : goal.invariant_of-self-2-clause-runs
invariant_of-self-2-clause-runs c =
    let w = c.args.self.now in
    let seat = c.index_mut-seat.result.now in
    let at = slice_get_read w.seats.items w.seats.len c.args.thread seat w.seats.ok.0 c.requires.seat c.index_mut-seat.ensures.value ∙ ap (λ x. Some x) (free_seat seat (sym c.if-not-is_free.ensures)) in
    runs_either c.args.thread w.here c.begin.new.here c.args.segments.now c.args.reading.now w.seats.items c.begin.new.self c.begin.result at w.runs c.begin.ensures.begins c.begin.ensures.lockable c.begin.ensures.err c.begin.ensures.still

pub returns-in-Ok-clause-follows : goal.returns-in-Ok-clause-follows
returns-in-Ok-clause-follows c = λ node m s known sound h.
    let w = c.args.self.now in
    let seat = c.index_mut-seat.result.now in
    let at = slice_get_read w.seats.items w.seats.len c.args.thread seat w.seats.ok.0 c.requires.seat c.index_mut-seat.ensures.value ∙ ap (λ x. Some x) (free_seat seat (sym c.if-not-is_free.ensures)) in
    let begins = c.in-Ok.ensures.begins in
    rw begins.is (
      begun m.geometry s node c.args.thread c.args.segments.now c.args.reading.now,
      begin_row m node c.args.thread w.here w.seats.items s c.args.segments.now c.args.reading.now h at known sound w.runs c.begin.new.here begins.tx begins.begins c.in-Ok.ensures.lockable,
      begun_but m node c.args.thread w.here w.seats.items s c.args.segments.now c.args.reading.now h at known sound w.runs c.begin.new.here begins.tx begins.begins c.in-Ok.ensures.lockable,
      desk_begun m node c.args.thread w.here w.seats.items s c.args.segments.now c.args.reading.now h at known sound w.runs c.begin.new.here begins.tx begins.begins c.in-Ok.ensures.lockable,
    )

pub returns-in-Ok-clause-beside : goal.returns-in-Ok-clause-beside
returns-in-Ok-clause-beside c = c.in-Ok.ensures.begins.begins.held.same.beside

pub returns-in-Err-clause-follows : goal.returns-in-Err-clause-follows
returns-in-Err-clause-follows c = by_refusal _ c.refused.result _ c.refused.ensures (λ refusal named node m s known sound h.
    let w = c.args.self.now in
    let seat = c.index_mut-seat.result.now in
    let free = free_seat seat (sym c.if-not-is_free.ensures) in
    let at = slice_get_read w.seats.items w.seats.len c.args.thread seat w.seats.ok.0 c.requires.seat c.index_mut-seat.ensures.value ∙ ap (λ x. Some x) free in
    let back = ap (slice_set w.seats.items c.args.thread) c.in-Err.ensures.still ∙ set_same w.seats.items c.args.thread Free at in (
      s,
      begin_fault m node c.args.thread w.here w.seats.items s c.args.segments.now c.args.reading.now h at known sound w.runs c.begin.result c.in-Err.fault refusal c.begin.ensures.not_here c.begin.ensures.busy c.in-Err.ensures.faults c.in-Err.is named,
      still node s,
      subst (λ (l : List Seat). FitsDesk m node c.begin.new.here l s) (sym back) (desk_seen m node w.here c.begin.new.here w.seats.items s w.runs c.in-Err.ensures.err h),
    ))

pub returns-in-Err-clause-err : goal.returns-in-Err-clause-err
returns-in-Err-clause-err c =
    let w = c.args.self.now in
    let seat = c.index_mut-seat.result.now in
    let free = free_seat seat (sym c.if-not-is_free.ensures) in
    let at = slice_get_read w.seats.items w.seats.len c.args.thread seat w.seats.ok.0 c.requires.seat c.index_mut-seat.ensures.value ∙ ap (λ x. Some x) free in
    let back = ap (slice_set w.seats.items c.args.thread) c.in-Err.ensures.still ∙ set_same w.seats.items c.args.thread Free at in
    on_err c.refused.result _ (λ m node s h.
    subst (λ (l : List Seat). FitsDesk m node c.begin.new.here l s) (sym back) (desk_seen m node w.here c.begin.new.here w.seats.items s w.runs c.in-Err.ensures.err h))

pub returns-in-Err-clause-memory : goal.returns-in-Err-clause-memory
returns-in-Err-clause-memory c =
    let w = c.args.self.now in
    memory_wanted c.in-Err.fault c.refused.result _ c.refused.ensures (λ none.
    let wanted = c.begin.ensures.no_memory (c.in-Err.is ∙ ap (λ f. Err f) none) in
    never_many w.here c.args.segments.now c.args.reading.now w.few_slots wanted.0 wanted.1)

pub invariant_of-self-2-clause-few_slots : goal.invariant_of-self-2-clause-few_slots
invariant_of-self-2-clause-few_slots c =
    let w = c.args.self.now in
    few_slots w.here c.begin.new.here (beside_either c.args.thread w.here c.begin.new.here c.args.segments.now c.args.reading.now c.begin.new.self c.begin.result c.begin.ensures.begins c.begin.ensures.err) w.few_slots

pub invariant_of-self-2-clause-in_place : goal.invariant_of-self-2-clause-in_place
invariant_of-self-2-clause-in_place c =
    let w = c.args.self.now in
    in_place_same w.here c.begin.new.here (beside_either c.args.thread w.here c.begin.new.here c.args.segments.now c.args.reading.now c.begin.new.self c.begin.result c.begin.ensures.begins c.begin.ensures.err) w.in_place

pub invariant_of-self-2-clause-short : goal.invariant_of-self-2-clause-short
invariant_of-self-2-clause-short c =
    let w = c.args.self.now in
    short_either c.args.thread w.here c.begin.new.here c.args.segments.now c.args.reading.now c.begin.new.self c.begin.result c.begin.ensures.begins c.begin.ensures.err w.short

pub returns-in-Err-clause-names : goal.returns-in-Err-clause-names
returns-in-Err-clause-names c = by_refusal _ c.refused.result _ c.refused.ensures (of_begin c.in-Err.fault c.in-Err.ensures.faults)
