use Rattle.std.proofs.Common.{List, sym, ap, subst}
use Rattle.std.proofs.lemmas.Option.{slice_get_read}
use Rattle.lc_model.proofs.Rows.{abort-done, abort-no_turn}
use Rattle.lc_model.specs.History.{value}
use Rattle.lc_model.specs.Machine.{dropped}
use Rattle.lc_tx.proofs.StandsLemmas.{content_back}
use Rattle.lc_desk.specs.Here.{the_images}
use Rattle.lc_desk.specs.Seat.{Seat, open_of}
use Rattle.lc_desk.specs.Seats.{AllRun}
use Rattle.lc_desk.specs.Desk.{FitsDesk}
use Rattle.lc_desk.proofs.Seating.{not_open, open_on, set_same}
use Rattle.lc_desk.proofs.Dropping.{runs_after, the_open, dropped_but, desk_dropped, still, no_turn}
use Rattle.lc_desk.proofs.Shortness.{few_slots, in_place_same, short_freed}
use Rattle.lc_desk.proofs.desk.Desk.abort.Goals as goal

pub invariant_of-self-clause-runs : goal.invariant_of-self-clause-runs
invariant_of-self-clause-runs c =
    let w = c.args.self.now in
    let seat = c.index_mut-seat.result.now in
    let at = slice_get_read w.seats.items w.seats.len c.args.thread seat w.seats.ok.0 c.requires.seat c.index_mut-seat.ensures.value in
    subst (λ (l : List Seat). AllRun w.here l) (sym (set_same w.seats.items c.args.thread seat at)) w.runs

pub returns-then-not-is_open-clause-follows : goal.returns-then-not-is_open-clause-follows
returns-then-not-is_open-clause-follows c = λ node m s known sound h.
    let w = c.args.self.now in
    let seat = c.index_mut-seat.result.now in
    let at = slice_get_read w.seats.items w.seats.len c.args.thread seat w.seats.ok.0 c.requires.seat c.index_mut-seat.ensures.value in (
      s,
      abort-no_turn m s node c.args.thread (no_turn w.here node c.args.thread _ s seat (h.threads c.args.thread seat at) (not_open seat (sym c.if-not-is_open.ensures))),
      still node s,
      subst (λ (l : List Seat). FitsDesk m node w.here l s) (sym (set_same w.seats.items c.args.thread seat at)) h,
    )

pub abort-requires : goal.abort-requires
abort-requires c =
    let w = c.args.self.now in
    let seat = c.index_mut-seat.result.now in
    let at = slice_get_read w.seats.items w.seats.len c.args.thread seat w.seats.ok.0 c.requires.seat c.index_mut-seat.ensures.value in
    open_on w.here w.seats.items c.args.thread seat at (sym c.if-not-is_open.ensures) w.runs

pub invariant_of-self-2-clause-runs : goal.invariant_of-self-2-clause-runs
invariant_of-self-2-clause-runs c =
    let w = c.args.self.now in
    let seat = c.index_mut-seat.result.now in
    let at = slice_get_read w.seats.items w.seats.len c.args.thread seat w.seats.ok.0 c.requires.seat c.index_mut-seat.ensures.value in
    let done = c.abort.ensures.aborts in
    rw c.abort.ensures.free (runs_after w.here c.abort.new.here w.seats.items c.args.thread seat done.tx at (ap open_of done.was) w.runs done.restored.freed)

pub returns-clause-follows : goal.returns-clause-follows
returns-clause-follows c = λ node m s known sound h.
    let w = c.args.self.now in
    let seat = c.index_mut-seat.result.now in
    let new = c.abort.new.here in
    let at = slice_get_read w.seats.items w.seats.len c.args.thread seat w.seats.ok.0 c.requires.seat c.index_mut-seat.ensures.value in
    let done = c.abort.ensures.aborts in
    let is = ap open_of done.was in
    let one = the_open w.here new w.seats.items c.args.thread seat done.tx at is w.runs done.restored.freed m node s h in
    rw c.abort.ensures.free (
      dropped s node c.args.thread,
      abort-done m s node c.args.thread one.transaction one.running,
      dropped_but w.here new w.seats.items c.args.thread seat done.tx at is w.runs done.restored.freed m node s h,
      desk_dropped w.here new w.seats.items c.args.thread seat done.tx at is w.runs done.restored.freed m node s h
          (λ segment lock. content_back the_images w.here new done.tx (value m.start s.earlier s.history) one.transaction segment one.stands done.restored lock)
          done.restored.same_length,
    )

pub invariant_of-self-2-clause-few_slots : goal.invariant_of-self-2-clause-few_slots
invariant_of-self-2-clause-few_slots c = few_slots c.args.self.now.here c.abort.new.here c.abort.ensures.aborts.restored.freed.same.beside c.args.self.now.few_slots

pub invariant_of-self-2-clause-in_place : goal.invariant_of-self-2-clause-in_place
invariant_of-self-2-clause-in_place c = in_place_same c.args.self.now.here c.abort.new.here c.abort.ensures.aborts.restored.freed.same.beside c.args.self.now.in_place

pub invariant_of-self-2-clause-short : goal.invariant_of-self-2-clause-short
invariant_of-self-2-clause-short c =
    let done = c.abort.ensures.aborts in
    short_freed done.tx.thread done.tx.locked.items done.tx.reading.items c.args.self.now.here c.abort.new.here done.restored.freed done.restored.same_length c.args.self.now.short

pub returns-clause-beside : goal.returns-clause-beside
returns-clause-beside c = c.abort.ensures.aborts.restored.freed.same.beside
