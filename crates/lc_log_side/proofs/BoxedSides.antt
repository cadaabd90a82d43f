-- A held side, whose segment is read out of its box.
use Rattle.std.proofs.Common.{◌≡◌, ℕ, List, get_or, sym, subst}
use Rattle.lc_segments.specs.declared.held.HeldSide.{HeldSide}

-- it stands where it stood
pub at_place : {D : Type 0} (sides : List (HeldSide D)) (place : ℕ) (held boxed : HeldSide D) → boxed ≡ held → held ≡ get_or sides place held → boxed ≡ get_or sides place boxed
at_place sides place held boxed same at = subst (λ (x : HeldSide _). x ≡ get_or sides place x) (sym same) at
