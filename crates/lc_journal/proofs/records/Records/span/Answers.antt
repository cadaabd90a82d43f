use Rattle.std.proofs.Common.{◌≡◌, ◌-◌, ◌+◌, ℕ, List, arith, take, drop, ap, ◌∙◌}
use Rattle.lc_journal.specs.Records.{Spelled, all_words}
use Rattle.lc_journal.proofs.Spans.{held, count_so, behind_so}
use Rattle.lc_journal.proofs.records.Records.span.Goals as goal

pub between-requires-clause-lie : goal.between-requires-clause-lie
between-requires-clause-lie c =
    let h = held _ _ _ _ _ _ c.self.invariant c.self.view_is in
    (h.whole, c.as_slice-2.ensures.value ∙ h.places_are, c.as_slice.ensures.value ∙ h.words_are)

pub between-requires-clause-within : goal.between-requires-clause-within
between-requires-clause-within c =
    let h = held _ _ _ _ _ _ c.self.invariant c.self.view_is in
    omega (arith, count_so _ _ _ _ _ _ h, h.before_is, c.requires.kept, c.requires.order, c.requires.reserved)

pub returns : goal.returns
returns c =
    let h = held _ _ _ _ _ _ c.self.invariant c.self.view_is in
    let kept : ℕ = c.args.from - c.args.self.now.before in
    let place : ℕ = c.args.from - c.self.inside.first in
    let there : place ≡ c.self.inside.gone + kept = omega (arith, h.before_is, c.requires.kept) in
    let count : (c.args.to - c.self.inside.first) - place ≡ c.args.to - c.args.from = omega (arith, h.before_is, c.requires.kept, c.requires.order) in
    c.between.ensures h.whole (c.as_slice-2.ensures.value ∙ h.places_are) (c.as_slice.ensures.value ∙ h.words_are) ∙ ap (λ (n : ℕ). all_words (take n (drop place h.whole))) count
    ∙ ap (λ (rs : List Spelled). all_words (take (c.args.to - c.args.from) rs)) (behind_so _ _ _ _ _ _ h place kept there)
