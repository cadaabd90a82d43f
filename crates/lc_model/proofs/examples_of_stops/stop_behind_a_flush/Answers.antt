use Rattle.std.proofs.Common.{◌≡◌, ◌≤◌, ◌<◌, ◌∷◌, [], refl, inl, inr, arith, lit<, lit≤}
use Rattle.lc_model.specs.declared.reply.Reply.TheVariants.{Refused}
use Rattle.std.proofs.Common.{ℕ, zero, suc, slice_index, ◌<◌, ◌≤◌}
use Rattle.lc_model.specs.History.{Numbered, Cut, IsClosed}
use Rattle.lc_model.specs.Stops.{MayCutAt}
use Rattle.lc_model.specs.Examples.{first, second, third}
use Rattle.lc_model.specs.ExamplesOfStops.{fourth, closed_since}
use Rattle.lc_model.specs.declared.reply.Reply.TheVariants.{Down as WentDown}
use Rattle.lc_model.proofs.SmallCuts.{lost, here, closed_four, may_cut}
use Rattle.lc_model.proofs.examples_of_stops.stop_behind_a_flush.Goals as goal

abbrev one : Numbered
one = record { transaction = first; number = 0 }

abbrev two : Numbered
two = record { transaction = second; number = 0 }

abbrev three : Numbered
three = record { transaction = third; number = 1 }

abbrev four : Numbered
four = record { transaction = fourth; number = 2 }

closed_taken : IsClosed (closed_since 3).history (2 ∷ 1 ∷ [])
closed_taken =
    let cut : Cut = 2 ∷ 1 ∷ [] in
    closed_four cut one two three four (here cut one two refl) (here cut one three refl) (here cut one four refl) (here cut two three refl) (here cut two four refl) (here cut three four refl)

closed_acked : IsClosed (closed_since 3).history (1 ∷ 1 ∷ [])
closed_acked =
    let cut : Cut = 1 ∷ 1 ∷ [] in
    closed_four cut one two three four (here cut one two refl) (here cut one three refl) (here cut one four refl) (here cut two three refl) (here cut two four refl) (lost cut three four refl)

at_taken : (node : ℕ) → node < 2 → MayCutAt (closed_since 3) node (slice_index (2 ∷ 1 ∷ []) node)
at_taken zero lt = inr (lit≤ tt, refl)
at_taken (suc zero) lt = inl refl
at_taken (suc (suc node)) lt = absurd (omega (arith, lt))

at_acked : (steps node : ℕ) → node < 2 → MayCutAt (closed_since steps) node (slice_index (1 ∷ 1 ∷ []) node)
at_acked steps zero lt = inl refl
at_acked steps (suc zero) lt = inl refl
at_acked steps (suc (suc node)) lt = absurd (omega (arith, lt))

pub returns-clause-at_taken : goal.returns-clause-at_taken
returns-clause-at_taken c = λ choices. (2 ∷ 1 ∷ [], (refl, closed_taken, at_taken), refl, refl)

pub returns-clause-at_acked : goal.returns-clause-at_acked
returns-clause-at_acked c = λ choices. (1 ∷ 1 ∷ [], (refl, closed_acked, at_acked 3), refl, refl)

pub returns-clause-not_at_closed : goal.returns-clause-not_at_closed
returns-clause-not_at_closed c = λ choices step. elim ((may_cut (closed_since 3) (3 ∷ 1 ∷ []) step).2 0 (lit< tt)) [ inl e ↦ (let is : 3 ≡ 1 = e in absurd (omega (arith, is))) | inr e ↦ (let is : 3 ≡ 2 = e.1 in absurd (omega (arith, is))) ]

pub returns-clause-not_at_none : goal.returns-clause-not_at_none
returns-clause-not_at_none c = λ choices step. elim ((may_cut (closed_since 3) (0 ∷ 1 ∷ []) step).2 0 (lit< tt)) [ inl e ↦ (let is : 0 ≡ 1 = e in absurd (omega (arith, is))) | inr e ↦ (let is : 0 ≡ 2 = e.1 in absurd (omega (arith, is))) ]

pub returns-clause-of_each_node : goal.returns-clause-of_each_node
returns-clause-of_each_node c = λ choices step. elim ((may_cut (closed_since 3) (2 ∷ 0 ∷ []) step).2 1 (lit< tt)) [ inl e ↦ (let is : 0 ≡ 1 = e in absurd (omega (arith, is))) | inr e ↦ (let is : 3 ≤ 0 = e.0 in absurd (omega (arith, is))) ]

pub returns-clause-no_shorter_cut : goal.returns-clause-no_shorter_cut
returns-clause-no_shorter_cut c = λ choices step. (let is : 1 ≡ 2 = (may_cut (closed_since 3) (2 ∷ []) step).0 in absurd (omega (arith, is)))

pub returns-clause-two_at_acked : goal.returns-clause-two_at_acked
returns-clause-two_at_acked c = λ choices. (1 ∷ 1 ∷ [], (refl, closed_acked, at_acked 2), refl, refl)

pub returns-clause-two_not_at_taken : goal.returns-clause-two_not_at_taken
returns-clause-two_not_at_taken c = λ choices step. elim ((may_cut (closed_since 2) (2 ∷ 1 ∷ []) step).2 0 (lit< tt)) [ inl e ↦ (let is : 2 ≡ 1 = e in absurd (omega (arith, is))) | inr e ↦ (let is : 3 ≤ 2 = e.0 in absurd (omega (arith, is))) ]

pub returns-clause-goes_down : goal.returns-clause-goes_down
returns-clause-goes_down c = λ choices new step. (step.0, step.3)

pub returns-clause-no_refusal : goal.returns-clause-no_refusal
returns-clause-no_refusal c = λ choices refusal new step. absurd (let e : Refused refusal ≡ WentDown = step.2 in cc)
