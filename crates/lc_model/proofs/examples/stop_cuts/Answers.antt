use Rattle.std.proofs.Common.{◌≡◌, ◌≤◌, refl, inl, inr, arith}
use Rattle.lc_model.proofs.examples.stop_cuts.Goals as goal
use Rattle.std.proofs.Common.{lit≤}

pub returns-clause-two_acked : goal.returns-clause-two_acked
returns-clause-two_acked c = inl refl

pub returns-clause-two_not_taken : goal.returns-clause-two_not_taken
returns-clause-two_not_taken c = λ may. elim may [ inl e ↦ (let is : 2 ≡ 0 = e in absurd (omega (arith, is))) | inr e ↦ (let is : 3 ≤ 2 = e.0 in absurd (omega (arith, is))) ]

pub returns-clause-three_acked : goal.returns-clause-three_acked
returns-clause-three_acked c = inl refl

pub returns-clause-three_taken : goal.returns-clause-three_taken
returns-clause-three_taken c = inr (lit≤ tt, refl)

pub returns-clause-three_not_between : goal.returns-clause-three_not_between
returns-clause-three_not_between c = λ may. elim may [ inl e ↦ (let is : 1 ≡ 0 = e in absurd (omega (arith, is))) | inr e ↦ (let is : 1 ≡ 2 = e.1 in absurd (omega (arith, is))) ]
