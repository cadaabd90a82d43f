use Rattle.std.proofs.Common.{◌≡◌, List, [], length, ℕ, arith, ap}
use Rattle.lc_log.specs.InPlace.{left_of}
use Rattle.lc_log.proofs.InPlaceLemmas.{yields_first, yields_none}
use Rattle.lc_log.proofs.in_place.RecordPlacesIterator.next.Goals as goal

pub returns-in_err-at-clause-steps : goal.returns-in_err-at-clause-steps
returns-in_err-at-clause-steps c =
    let none : left_of c.args.self.now ≡ [] = yields_none c.args.self.now.words c.args.self.now.place c.in_err-at.ensures.none in
    rw c.from_residual.ensures (none, none)

pub returns-clause-steps : goal.returns-clause-steps
returns-clause-steps c = yields_first c.args.self.now.words c.args.self.now.place c.len-len.result c.in_ok-at.field-0 c.in_ok-at.ensures.found c.len-len.ensures

pub returns-clause-goes : goal.returns-clause-goes
returns-clause-goes c =
    let first = yields_first c.args.self.now.words c.args.self.now.place c.len-len.result c.in_ok-at.field-0 c.in_ok-at.ensures.found c.len-len.ensures in
    record { on = λ _. (tt, tt, omega (arith, ap (λ (l : List (ℕ × ℕ)). length l) first)); keeps = tt; rests = λ _. tt }
