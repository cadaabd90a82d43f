use Rattle.std.proofs.Common.{◌≡◌, ◌-◌, ◌+◌, ℕ, List, arith, take, drop, ap, ◌∙◌}
use Rattle.lc_journal.specs.Records.{Spelled, all_words}
use Rattle.lc_journal.proofs.Spans.{held, few_so, count_so, behind_so, one_word}
use Rattle.lc_journal.proofs.records.Records.words.Goals as goal

pub overflow_sub-place : goal.overflow_sub-place
overflow_sub-place c =
    let h = held _ _ _ _ _ _ c.self.invariant c.self.view_is in
    omega (arith, h.before_is, c.requires.kept)

pub overflow_add-place : goal.overflow_add-place
overflow_add-place c =
    let h = held _ _ _ _ _ _ c.self.invariant c.self.view_is in
    omega (arith, few_so _ _ _ _ _ _ h, count_so _ _ _ _ _ _ h, h.before_is, c.requires.kept, c.requires.reserved)

pub between-requires-clause-within : goal.between-requires-clause-within
between-requires-clause-within c =
    let h = held _ _ _ _ _ _ c.self.invariant c.self.view_is in
    omega (arith, count_so _ _ _ _ _ _ h, h.before_is, c.requires.kept, c.requires.reserved)

pub between-requires-clause-lie : goal.between-requires-clause-lie
between-requires-clause-lie c =
    let h = held _ _ _ _ _ _ c.self.invariant c.self.view_is in
    (h.whole, c.as_slice-2.ensures.value ∙ h.places_are, c.as_slice.ensures.value ∙ h.words_are)

pub returns : goal.returns
returns c r is =
    let h = held _ _ _ _ _ _ c.self.invariant c.self.view_is in
    let kept : ℕ = c.args.number - c.args.self.now.before in
    let place : ℕ = c.args.number - c.self.inside.first in
    let one : (place + 1) - place ≡ 1 = omega arith in
    let there : place ≡ c.self.inside.gone + kept = omega (arith, h.before_is, c.requires.kept) in
    c.between.ensures h.whole (c.as_slice-2.ensures.value ∙ h.places_are) (c.as_slice.ensures.value ∙ h.words_are) ∙ ap (λ (n : ℕ). all_words (take n (drop place h.whole))) one
    ∙ ap (λ (rs : List Spelled). all_words (take 1 rs)) (behind_so _ _ _ _ _ _ h place kept there)
    ∙ one_word c.args.self.now.records kept r is
