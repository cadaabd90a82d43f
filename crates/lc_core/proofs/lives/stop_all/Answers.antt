use Rattle.std.proofs.Common.{◌≡◌, ℕ, ◌<◌, true, [], length, Some, refl, sym, ap, subst, ◌∙◌, inl, inr, arith}
use Rattle.std.specs.Prelude.{slice_get, slice_index_or}
use Rattle.std.proofs.lemmas.Bool.{cases_eq}
use Rattle.std.proofs.lemmas.Option.{slice_get-get_or, slice_get_within, same_Some as same_some}
use Rattle.lc_core.specs.Areas.{IsStopped}
use Rattle.lc_desk.specs.Places.{get_set_other, get_set_same}
use Rattle.lc_core.proofs.lives.stop_all.Goals as goal

pub loop-place-init : goal.loop-place-init
loop-place-init g c = record {
  stopped = λ k old new less was is. absurd (omega (arith, less));
  chosen = λ k old new less was is honest at. absurd (omega (arith, less));
  rest = λ k least. refl;
}

pub loop-place-preserved : goal.loop-place-preserved
loop-place-preserved g c =
    let h = c.loop-place.invariant in
    let place = c.loop-place.place in
    let olds = c.loop-place.areas in
    let area = slice_index_or olds place c.index-areas-place.result in
    let within : place < length olds = omega (arith, c.loop-place-test.true, c.loop-place.auto.areas) in
    let there : slice_get olds place ≡ Some area = slice_get-get_or olds place c.index-areas-place.result within in
    let was = sym (h.rest place (omega arith)) ∙ there in
    let next : slice_get _ place ≡ Some c.stop.new.self = get_set_same olds place area c.stop.new.self there in
    record {
      stopped = λ k old new less got is. elim (cases_eq k place) [
        | inl same ↦
            let from : old ≡ area = same_some old area (sym got ∙ ap (slice_get c.args.areas.now) same ∙ was) in
            let to : new ≡ c.stop.new.self = same_some new c.stop.new.self (sym is ∙ ap (slice_get _) same ∙ next) in
            subst (λ d. IsStopped g.D.Area d new) (sym from)
            (subst (λ d. IsStopped g.D.Area area d) (sym to) (record {
              honest = c.stop.ensures.honest;
              same_length = c.stop.ensures.len;
              calls = c.stop.ensures.called;
              failures = c.stop.ensures.counted;
              image = c.stop.ensures.image;
              clean = c.stop.ensures.clean;
            }))
        | inr differ ↦ h.stopped k old new (omega (arith, less, differ)) got (sym (get_set_other olds place k c.stop.new.self differ) ∙ is)
      ];
      chosen = λ k old new less got is. elim (cases_eq k place) [
        | inl same ↦
            let from : old ≡ area = same_some old area (sym got ∙ ap (slice_get c.args.areas.now) same ∙ was) in
            let to : new ≡ c.stop.new.self = same_some new c.stop.new.self (sym is ∙ ap (slice_get _) same ∙ next) in
            subst (λ d. g.D.Area.honest d ≡ true → (at : ℕ) → slice_index_or (g.D.Area.now new) at 0 ≡ g.D.Stoppable.left d (slice_index_or c.args.choices.now k []) at) (sym from)
            (λ honest at. ap (λ d. slice_index_or (g.D.Area.now d) at 0) to ∙ c.stop.ensures.chosen honest at
            ∙ ap (λ list. g.D.Stoppable.left area list at) (c.choices_at.ensures ∙ ap (λ n. slice_index_or c.args.choices.now n []) (sym same)))
        | inr differ ↦ h.chosen k old new (omega (arith, less, differ)) got (sym (get_set_other olds place k c.stop.new.self differ) ∙ is)
      ];
      rest = λ k least. get_set_other olds place k c.stop.new.self (λ same. absurd (omega (arith, least, same))) ∙ h.rest k (omega (arith, least));
    }

pub returns-clause-chosen : goal.returns-clause-chosen
returns-clause-chosen g c = λ k old new got is.
    let within = slice_get_within c.args.areas.now k old got in
    c.loop-place.invariant.chosen k old new (omega (arith, within, c.loop-place-test.false)) got is

pub returns-clause-stopped : goal.returns-clause-stopped
returns-clause-stopped g c = record {
  count = c.loop-place.auto.areas;
  each = λ k old new got is.
      let within = slice_get_within c.args.areas.now k old got in
      c.loop-place.invariant.stopped k old new (omega (arith, within, c.loop-place-test.false)) got is;
}
