-- Of nodes that run: a step of a recovery answers by what it has made, whatever the areas hold.
use Rattle.std.specs.Prelude.{Result, Ok, Err, IfOk}

pub IfOk-any : {A E : Type 0} {P : A → Type 0} (result : Result A E) → ((x : A) → P x) → IfOk result P
IfOk-any (Ok x) all = all x
IfOk-any (Err fault) all = tt
