use Rattle.std.proofs.Common.{◌<◌, ◌∷◌, [], refl, inl, inr, sym, true≢false, arith, lit<, lit≤}
use Rattle.std.proofs.Common.{ℕ, zero, suc, slice_index, ◌<◌}
use Rattle.lc_model.specs.History.{Numbered, Cut, IsClosed}
use Rattle.lc_model.specs.Stops.{MayCutAt}
use Rattle.lc_model.specs.Machine.{halting}
use Rattle.lc_model.specs.Examples.{first, second, third, unflushed, flushing}
use Rattle.lc_model.proofs.SmallCuts.{lost, closed_three, may_cut}
use Rattle.lc_model.proofs.examples_of_stops.stop_is_closed.Goals as goal

abbrev one : Numbered
one = record { transaction = first; number = 0 }

abbrev two : Numbered
two = record { transaction = second; number = 0 }

abbrev three : Numbered
three = record { transaction = third; number = 1 }

abbrev none : Cut
none = 0 ∷ 0 ∷ []

closed_none : IsClosed unflushed.history none
closed_none = closed_three none one two three (lost none one two refl) (lost none one three refl) (lost none two three refl)

at_none : (node : ℕ) → node < 2 → MayCutAt (flushing 3) node (slice_index none node)
at_none zero lt = inl refl
at_none (suc zero) lt = inl refl
at_none (suc (suc node)) lt = absurd (omega (arith, lt))

at_none_halted : (node : ℕ) → node < 2 → MayCutAt (halting (flushing 3) 0) node (slice_index none node)
at_none_halted zero lt = inl refl
at_none_halted (suc zero) lt = inl refl
at_none_halted (suc (suc node)) lt = absurd (omega (arith, lt))

pub returns-clause-not_closed : goal.returns-clause-not_closed
returns-clause-not_closed c = λ choices step. true≢false (sym ((may_cut (flushing 3) (2 ∷ 0 ∷ []) step).1 1 2 one (lit< tt) (lit< tt) (2, refl) refl))

pub returns-clause-taken_may : goal.returns-clause-taken_may
returns-clause-taken_may c = inr (lit≤ tt, refl)

pub returns-clause-none : goal.returns-clause-none
returns-clause-none c = λ choices. (none, (refl, closed_none, at_none), refl, refl)

pub returns-clause-halted : goal.returns-clause-halted
returns-clause-halted c = λ choices. (none, (refl, closed_none, at_none_halted), refl, refl)
