use Rattle.std.proofs.Common.{refl}
use Rattle.lc_model.specs.Told.{told_of, committed}
use Rattle.lc_model.proofs.Told.{less-refl, told-run, told-exact}
use Rattle.lc_model.proofs.runs.told.Goals as goal

pub returns-clause-running : goal.returns-clause-running
returns-clause-running c = λ m s new events replies sound run.
    (told-run m s new (told_of s) events replies sound refl (less-refl (committed s)) run).0

pub returns-clause-reserved : goal.returns-clause-reserved
returns-clause-reserved c = λ m s new events replies sound run.
    (told-run m s new (told_of s) events replies sound refl (less-refl (committed s)) run).1

pub returns-clause-without_recovery : goal.returns-clause-without_recovery
returns-clause-without_recovery c = λ m s new events replies sound run none.
    told-exact m s new (told_of s) events replies sound refl refl run none
