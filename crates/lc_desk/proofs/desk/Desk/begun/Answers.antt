use Rattle.std.proofs.Common.{◌≡◌, ◌+◌, ℕ, Bool, true, false, not, sym, ap, ◌∙◌, arith}
use Rattle.std.proofs.lemmas.List.{take_all}
use Rattle.std.proofs.lemmas.List.Sums.{count_by-le-length, count_by_more_no, count_by_more_yes}
use Rattle.lc_desk.specs.Seat.{Seat, is_free}
use Rattle.lc_desk.specs.Unfinished.{begun_in}
use Rattle.lc_desk.proofs.desk.Desk.begun.Goals.{then-not-is_free, else-not-is_free}
use Rattle.lc_desk.proofs.desk.Desk.begun.Goals as goal

abbrev begun : Seat → Bool
begun seat = not (is_free seat)

pub loop-seat-preserved : goal.loop-seat-preserved
loop-seat-preserved c =
    let seats = c.deref-seat-items.result.now in
    let at = c.loop-seat.seat-index in
    let seat = c.seat-item.result in
    let its = ap begun (sym c.seat-item.is) in
    elim c.if-not-is_free.branch [
      | then-not-is_free w ↦
          let yes : not (is_free seat) ≡ true = ap not (sym c.is_free.ensures ∙ w.if-not-is_free.true) in
          record {
            count = w.begun-is ∙ ap (λ (n : ℕ). n + 1) c.loop-seat.invariant.count ∙ sym (count_by_more_yes begun seats at seat c.loop-seat-test.true (its ∙ yes));
            few = omega (arith, w.begun-is, c.loop-seat.invariant.few);
          }
      | else-not-is_free w ↦
          let no : not (is_free seat) ≡ false = ap not (sym c.is_free.ensures ∙ w.if-not-is_free.false) in
          record {
            count = w.begun-is ∙ c.loop-seat.invariant.count ∙ sym (count_by_more_no begun seats at seat c.loop-seat-test.true (its ∙ no));
            few = omega (arith, w.begun-is, c.loop-seat.invariant.few);
          }
    ]

pub returns-clause-count : goal.returns-clause-count
returns-clause-count c =
    let seats = c.deref-seat-items.result.now in
    c.loop-seat.invariant.count ∙ ap begun_in (take_all c.loop-seat.seat-index seats c.loop-seat-test.false ∙ c.deref-seat-items.ensures.value)

pub returns-clause-few : goal.returns-clause-few
returns-clause-few c =
    let w = c.args.self.now in
    let seats = c.deref-seat-items.result.now in
    let all = ap begun_in (take_all c.loop-seat.seat-index seats c.loop-seat-test.false ∙ c.deref-seat-items.ensures.value) in
    omega (arith, c.loop-seat.invariant.count, all, count_by-le-length begun w.seats.items, w.seats.ok.0, w.few)
