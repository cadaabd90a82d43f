use Rattle.std.proofs.Common.{◌≡◌, None, sym, ap, subst, ◌∙◌}
use Rattle.std.specs.Prelude.{slice_set}
use Rattle.std.proofs.lemmas.Option.{slice_get_read, same_Some as same_some}
use Rattle.lc_desk.specs.Seat.{Seat, open_of}
use Rattle.lc_desk.proofs.Appending.{desk_reserved, runs_reserved}
use Rattle.lc_desk.proofs.Seating.{not_placed, set_same}
use Rattle.lc_desk.proofs.desk.Desk.reserve.Goals as goal

pub invariant_of-self-clause-runs : goal.invariant_of-self-clause-runs
invariant_of-self-clause-runs c =
    let w = c.args.self.now in
    let seat = c.index_mut.result.now in
    let at = slice_get_read w.seats.items w.seats.len c.args.thread seat w.seats.ok.0 c.requires.seat c.index_mut.ensures.value in
    rw c.reserve.ensures (runs_reserved c.args.thread w.here w.seats.items seat at c.args.number w.runs)

pub returns-clause-reserves : goal.returns-clause-reserves
returns-clause-reserves c = λ m node s t h running counts.
    let w = c.args.self.now in
    let seat = c.index_mut.result.now in
    let at = slice_get_read w.seats.items w.seats.len c.args.thread seat w.seats.ok.0 c.requires.seat c.index_mut.ensures.value in
    rw c.reserve.ensures (desk_reserved c.args.thread w.here w.seats.items seat at c.args.number w.runs m node s h t running counts)

pub returns-clause-none : goal.returns-clause-none
returns-clause-none c = λ other got none.
    let w = c.args.self.now in
    let seat = c.index_mut.result.now in
    let at = slice_get_read w.seats.items w.seats.len c.args.thread seat w.seats.ok.0 c.requires.seat c.index_mut.ensures.value in
    let closed : open_of seat ≡ None = subst (λ (s : Seat). open_of s ≡ None) (same_some other seat (sym got ∙ at)) none in
    rw c.reserve.ensures (ap (slice_set w.seats.items c.args.thread) (not_placed c.args.number seat closed) ∙ set_same w.seats.items c.args.thread seat at)
