use Rattle.std.proofs.Common.{◌≡◌, List, None, refl, sym, ap, subst, ◌∙◌}
use Rattle.std.proofs.lemmas.Option.{slice_get_read, same_Some as same_some}
use Rattle.std.specs.Prelude.{slice_set}
use Rattle.lc_desk.specs.Seat.{Seat, reserved_of}
use Rattle.lc_desk.specs.Seats.{AllRun}
use Rattle.lc_desk.proofs.Closes.{few_closed, holds_on, in_place_closed, record_closed, runs_closed, short_closed}
use Rattle.lc_desk.proofs.Seating.{none_reserved, set_same}
use Rattle.lc_desk.proofs.desk.Desk.close.Goals as goal

pub invariant_of-self : goal.invariant_of-self
invariant_of-self c =
    let w = c.args.self.now in
    let seat = c.index_mut-seat.result.now in
    let at = slice_get_read w.seats.items w.seats.len c.args.thread seat w.seats.ok.0 c.requires.seat c.index_mut-seat.ensures.value in
    record {
      runs = subst (λ (l : List Seat). AllRun w.here l) (sym (set_same w.seats.items c.args.thread seat at)) w.runs;
      few = w.few;
      few_slots = w.few_slots;
      short = w.short;
      in_place = w.in_place;
    }

pub returns-in_err-number-clause-closes : goal.returns-in_err-number-clause-closes
returns-in_err-number-clause-closes c =
    let w = c.args.self.now in
    let seat = c.index_mut-seat.result.now in
    let at = slice_get_read w.seats.items w.seats.len c.args.thread seat w.seats.ok.0 c.requires.seat c.index_mut-seat.ensures.value in
    rw c.from_residual.ensures (record {
      none = λ other got. subst (λ (s : Seat). reserved_of s ≡ None) (same_some seat other (sym at ∙ got)) (none_reserved seat (sym c.number.ensures ∙ c.in_err-number.was));
      here = refl;
      seats = set_same w.seats.items c.args.thread seat at;
    })

pub release-requires : goal.release-requires
release-requires c =
    let w = c.args.self.now in
    let seat = c.index_mut-seat.result.now in
    let at = slice_get_read w.seats.items w.seats.len c.args.thread seat w.seats.ok.0 c.requires.seat c.index_mut-seat.ensures.value in
    holds_on w c.count.new.self c.args.thread c.in_ok-number.number seat at (sym c.number.ensures ∙ c.in_ok-number.was) c.ranges-2.result.now c.ranges-2.ensures.ranges c.count.ensures.counts c.count.ensures.spare

pub invariant_of-self-2 : goal.invariant_of-self-2
invariant_of-self-2 c =
    let w = c.args.self.now in
    let new = c.release.new.here in
    let seat = c.index_mut-seat.result.now in
    let at = slice_get_read w.seats.items w.seats.len c.args.thread seat w.seats.ok.0 c.requires.seat c.index_mut-seat.ensures.value in
    let numbered = sym c.number.ensures ∙ c.in_ok-number.was in
    let set = c.ranges-2.result.now in
    let are = c.ranges-2.ensures.ranges in
    let counted = c.count.new.self in
    let counts = c.count.ensures.counts in
    let done = c.release.ensures.releases in
    record {
      runs = rw c.release.ensures.free (runs_closed w counted c.args.thread c.in_ok-number.number seat at numbered set are counts c.count.ensures.spare new done);
      few = w.few;
      few_slots = few_closed w counted c.args.thread c.in_ok-number.number seat at numbered set are counts c.count.ensures.spare new done;
      short = short_closed w counted c.args.thread c.in_ok-number.number seat at numbered set are counts c.count.ensures.spare new done;
      in_place = in_place_closed w counted c.args.thread c.in_ok-number.number seat at numbered set are counts c.count.ensures.spare new done;
    }

pub returns-clause-closes : goal.returns-clause-closes
returns-clause-closes c =
    let w = c.args.self.now in
    let seat = c.index_mut-seat.result.now in
    let at = slice_get_read w.seats.items w.seats.len c.args.thread seat w.seats.ok.0 c.requires.seat c.index_mut-seat.ensures.value in
    record_closed w c.count.new.self c.args.thread c.in_ok-number.number seat at (sym c.number.ensures ∙ c.in_ok-number.was) c.ranges-2.result.now c.ranges-2.ensures.ranges c.count.ensures.counts c.count.ensures.spare
    c.release.new.here c.release.ensures.releases c.ranges-2.ensures.canonical _ refl (ap (slice_set w.seats.items c.args.thread) c.release.ensures.free)
