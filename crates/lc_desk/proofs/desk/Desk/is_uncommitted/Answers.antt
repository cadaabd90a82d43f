use Rattle.std.proofs.Common.{◌≡◌, Some, inl, inr, refl, sym, ap, subst, ◌∙◌, arith, true≢false}
use Rattle.std.specs.Prelude.{slice_get}
use Rattle.std.proofs.lemmas.Bool.{cases_lt}
use Rattle.std.proofs.lemmas.Option.{slice_get-get_or, slice_get_within, same_Some as same_some}
use Rattle.lc_desk.specs.Uncommitted.{SetsPage}
use Rattle.lc_desk.specs.Seat.{Seat}
use Rattle.lc_desk.proofs.desk.Desk.is_uncommitted.Goals as goal

pub loop-seat-init : goal.loop-seat-init
loop-seat-init c = record { none = λ thread seat before. absurd (omega (arith, before)) }

pub returns-then-sets_page : goal.returns-then-sets_page
returns-then-sets_page c =
    let seats = c.deref-seat-items.result.now in
    let there : slice_get seats c.loop-seat.seat-index ≡ Some c.seat-item.result =
    slice_get-get_or seats c.loop-seat.seat-index c.seat-item.result c.loop-seat-test.true ∙ ap (λ (s : Seat). Some s) (sym c.seat-item.is) in (
      λ _. (c.loop-seat.seat-index, c.seat-item.result, ap (λ l. slice_get l c.loop-seat.seat-index) (sym c.deref-seat-items.ensures.value) ∙ there, c.sets_page.ensures.0 c.if-sets_page.true),
      λ _. refl,
    )

pub loop-seat-preserved : goal.loop-seat-preserved
loop-seat-preserved c = record {
  none = λ thread seat before got sets.
      let seats = c.deref-seat-items.result.now in
      elim (cases_lt thread c.loop-seat.seat-index) [
        | inl below ↦ c.loop-seat.invariant.none thread seat below got sets
        | inr above ↦
            let is : thread ≡ c.loop-seat.seat-index = omega (arith, before, above) in
            let there : slice_get seats c.loop-seat.seat-index ≡ Some c.seat-item.result =
            slice_get-get_or seats c.loop-seat.seat-index c.seat-item.result c.loop-seat-test.true ∙ ap (λ (s : Seat). Some s) (sym c.seat-item.is) in
            let same : seat ≡ c.seat-item.result = same_some seat c.seat-item.result (sym got ∙ ap (slice_get seats) is ∙ there) in
            true≢false (sym (c.sets_page.ensures.1 (subst (SetsPage c.args.segment c.args.page) same sets)) ∙ c.if-sets_page.false)
      ];
}

pub returns : goal.returns
returns c = (
  λ is. absurd (true≢false (sym is)),
  λ some.
      let got = ap (λ l. slice_get l some.0) c.deref-seat-items.ensures.value ∙ some.2 in
      let within = slice_get_within c.deref-seat-items.result.now some.0 some.1 got in
      absurd (c.loop-seat.invariant.none some.0 some.1 (omega (arith, within, c.loop-seat-test.false)) got some.3),
)
