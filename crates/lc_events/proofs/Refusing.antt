-- Of nodes that run: the reply to what a transaction refused.
use Rattle.std.specs.Prelude.{Result, Ok, Err, IfOk}

pub if_ok_both : {A E : Type 0} (res : Result A E) (P Q : A → Type 0) → IfOk res P → IfOk res Q → IfOk res (λ x. P x × Q x)
if_ok_both (Ok x) P Q p q = (p, q)
if_ok_both (Err e) P Q p q = tt
