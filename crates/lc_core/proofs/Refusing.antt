-- Of the store: the reply to what a transaction refused.
use Rattle.std.specs.Prelude.{Result, Ok, Err, OnErr}

pub on_err_both : {A E : Type 0} (res : Result A E) (P Q : Type 0) → OnErr res P → OnErr res Q → OnErr res (P × Q)
on_err_both (Ok x) P Q p q = tt
on_err_both (Err e) P Q p q = (p, q)
