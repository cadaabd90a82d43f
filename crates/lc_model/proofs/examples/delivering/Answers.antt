use Rattle.std.proofs.Common.{◌≡◌, refl, sym, ap, true≢false}
use Rattle.lc_model.proofs.examples.delivering.Goals as goal
use Rattle.lc_model.specs.State.{has_unclosed}
use Rattle.lc_model.specs.Examples.{busy, unflushed}

pub returns-clause-applied : goal.returns-clause-applied
returns-clause-applied c = (refl, refl)

pub returns-clause-held_back : goal.returns-clause-held_back
returns-clause-held_back c = (refl, refl)

pub returns-clause-ignored : goal.returns-clause-ignored
returns-clause-ignored c = (refl, refl)

pub returns-clause-unknown : goal.returns-clause-unknown
returns-clause-unknown c = (refl, refl)

pub returns-clause-not_ok : goal.returns-clause-not_ok
returns-clause-not_ok c = λ new step. true≢false (sym step.0)

pub returns-clause-trimmed : goal.returns-clause-trimmed
returns-clause-trimmed c = (refl, refl)

pub returns-clause-not_nothing : goal.returns-clause-not_nothing
returns-clause-not_nothing c = λ new step. true≢false (sym step.0)

pub returns-clause-same_state : goal.returns-clause-same_state
returns-clause-same_state c = λ step. absurd (let e : has_unclosed 0 0 busy ≡ has_unclosed 0 0 unflushed = ap (has_unclosed 0 0) step.1 in true≢false e)
