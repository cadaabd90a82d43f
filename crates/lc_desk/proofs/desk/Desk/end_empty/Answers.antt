use Rattle.std.proofs.Common.{◌≡◌, List, None, Some, length, sym, ap, subst, ◌∙◌}
use Rattle.std.proofs.lemmas.Option.{slice_get_read, same_Some as same_some}
use Rattle.lc_record.specs.Content.{segment_of}
use Rattle.lc_model.specs.History.{value}
use Rattle.lc_tx.proofs.HoldsLemmas.{locked_holds}
use Rattle.lc_desk.specs.Seat.{Seat, Open, open_of}
use Rattle.lc_desk.specs.Seats.{AllRun}
use Rattle.lc_desk.proofs.Seating.{not_open, open_seat, open_holder, open_holds, set_same}
use Rattle.lc_desk.proofs.Dropping.{runs_after, the_open, desk_dropped}
use Rattle.lc_desk.proofs.Closes.{nothing_written}
use Rattle.lc_desk.proofs.Shortness.{few_slots, in_place_same, short_freed}
use Rattle.lc_desk.proofs.desk.Desk.end_empty.Goals as goal

pub release-requires : goal.release-requires
release-requires c =
    let w = c.args.self.now in
    let seat = c.index_mut-seat.result.now in
    let at = slice_get_read w.seats.items w.seats.len c.args.thread seat w.seats.ok.0 c.requires.seat c.index_mut-seat.ensures.value in
    open_holds w.here w.seats.items c.args.thread seat at (sym c.if-is_open.ensures) w.runs

pub invariant_of-self-clause-runs : goal.invariant_of-self-clause-runs
invariant_of-self-clause-runs c =
    let w = c.args.self.now in
    let seat = c.index_mut-seat.result.now in
    let at = slice_get_read w.seats.items w.seats.len c.args.thread seat w.seats.ok.0 c.requires.seat c.index_mut-seat.ensures.value in
    let done = c.release.ensures.releases in
    let is = open_holder seat done.tx (sym c.if-is_open.ensures) done.its in
    rw c.release.ensures.free (runs_after w.here c.release.new.here w.seats.items c.args.thread seat done.tx at is w.runs done.released.freed)

pub invariant_of-self-else-is_open-clause-runs : goal.invariant_of-self-else-is_open-clause-runs
invariant_of-self-else-is_open-clause-runs c =
    let w = c.args.self.now in
    let seat = c.index_mut-seat.result.now in
    let at = slice_get_read w.seats.items w.seats.len c.args.thread seat w.seats.ok.0 c.requires.seat c.index_mut-seat.ensures.value in
    subst (λ (l : List Seat). AllRun w.here l) (sym (set_same w.seats.items c.args.thread seat at)) w.runs

pub returns-then-is_open-clause-ends : goal.returns-then-is_open-clause-ends
returns-then-is_open-clause-ends c = λ m node s tx h sits.
    let w = c.args.self.now in
    let seat = c.index_mut-seat.result.now in
    let new = c.release.new.here in
    let at = slice_get_read w.seats.items w.seats.len c.args.thread seat w.seats.ok.0 c.requires.seat c.index_mut-seat.ensures.value in
    let done = c.release.ensures.releases in
    let is = open_holder seat done.tx (sym c.if-is_open.ensures) done.its in
    let one = the_open w.here new w.seats.items c.args.thread seat done.tx at is w.runs done.released.freed m node s h in
    rw c.release.ensures.free (
    desk_dropped w.here new w.seats.items c.args.thread seat done.tx at is w.runs done.released.freed m node s h
    (λ segment lock. done.released.same_bytes segment lock ∙ one.stands.shown segment (locked_holds done.tx segment lock)
    ∙ ap (segment_of segment) (nothing_written one.transaction (value m.start s.earlier s.history) w.here done.tx one.stands (c.requires.empty done.tx (at ∙ ap (λ x. Some x) (open_seat seat done.tx is)))))
    (λ segment lock. ap length (done.released.same_bytes segment lock)))

pub returns-else-is_open-clause-ends : goal.returns-else-is_open-clause-ends
returns-else-is_open-clause-ends c = λ m node s tx h sits.
    let w = c.args.self.now in
    let seat = c.index_mut-seat.result.now in
    let at = slice_get_read w.seats.items w.seats.len c.args.thread seat w.seats.ok.0 c.requires.seat c.index_mut-seat.ensures.value in
    absurd (let no : None ≡ Some tx = sym (not_open seat (sym c.if-is_open.ensures)) ∙ ap open_of (same_some seat (Open tx) (sym at ∙ sits)) in cc)

pub invariant_of-self-clause-few_slots : goal.invariant_of-self-clause-few_slots
invariant_of-self-clause-few_slots c = few_slots c.args.self.now.here c.release.new.here c.release.ensures.releases.released.freed.same.beside c.args.self.now.few_slots

pub invariant_of-self-clause-in_place : goal.invariant_of-self-clause-in_place
invariant_of-self-clause-in_place c = in_place_same c.args.self.now.here c.release.new.here c.release.ensures.releases.released.freed.same.beside c.args.self.now.in_place

pub invariant_of-self-clause-short : goal.invariant_of-self-clause-short
invariant_of-self-clause-short c =
    let done = c.release.ensures.releases in
    short_freed done.tx.thread done.tx.locked.items done.tx.reading.items c.args.self.now.here c.release.new.here done.released.freed (λ segment lock. ap length (done.released.same_bytes segment lock)) c.args.self.now.short
