-- Why a transaction did not begin, from what its beginning answers.
use Rattle.std.proofs.Common.{◌≡◌, ℕ, ◌<◌, false, List, [], ◌∷◌, length, refl, sym, subst, ◌∙◌, inl, inr, arith, eqb, eq-eqb}
use Rattle.std.specs.Prelude.{◌⊎◌, ◌↔◌, IfErr, IsTrue, None, Result, Err}
use Rattle.std.proofs.lemmas.Bool.{or_left, false≢true}
use Rattle.lc_record.specs.Transaction.{is_member}
use Rattle.lc_tx.specs.declared.images.Images.{Ghosts}
use Rattle.lc_tx.specs.declared.tx_fault.TxFault.{TxFault}
use Rattle.lc_tx.specs.declared.tx_fault.TxFault.TheVariants.{Busy, NotHere, NoRange, OutOfSegment, NotLocked, NoMemory, TooLong, SequenceSpent, EmptyRange, TooManyRanges, ReadOnly}
use Rattle.lc_tx.specs.Fault.{is_of_begin}
use Rattle.lc_tx.specs.Images.{IsFirstTaken, IsHere, IsLockable}
use Rattle.lc_tx.specs.Tx.{IsSetOf, none_of}
use Rattle.lc_node.specs.Attempts.{IsUnbegun}

none_many : (set : List ℕ) → IsSetOf [] set → 16 < length set → ⊥
none_many [] is many = absurd (omega arith)
none_many (x ∷ xs) is many = absurd (false≢true (sym (is.same x) ∙ or_left (eqb x x) (is_member x xs) (eq-eqb x x refl)))

not_of_it : {A : Type 0} (r : Result A TxFault) (f : TxFault) → r ≡ Err f → IfErr r (λ fault. IsTrue (is_of_begin fault)) → is_of_begin f ≡ false → ⊥
not_of_it {A} r f is faults not = false≢true (sym not ∙ subst (λ (x : Result A TxFault). IfErr x (λ fault. IsTrue (is_of_begin fault))) is faults)

module _ {A I : Type 0} (m : Ghosts I) (images : I) (segments : List ℕ) (r : Result A TxFault)
    (not_here : (s : ℕ) → (r ≡ Err (NotHere s)) ↔ (IsFirstTaken m images segments [] s × (m.number_of images s ≡ None)))
    (busy : (s : ℕ) → (r ≡ Err (Busy s)) ↔ (IsFirstTaken m images segments [] s × IsHere m images s))
    (no_memory : r ≡ Err NoMemory → ((s : ℕ) → IsLockable m images segments [] s)
    × (((set : List ℕ) × IsSetOf segments set × (16 < length set)) ⊎ ((set : List ℕ) × IsSetOf (none_of segments []) set × (16 < length set))))
    (faults : IfErr r (λ fault. IsTrue (is_of_begin fault))) where
  pub unbegun : (f : TxFault) → r ≡ Err f → IsUnbegun m images segments f
  unbegun (NotHere s) is = let why = (not_here s).0 is in inl (s, refl, why.0, why.1)
  unbegun (Busy s) is = let why = (busy s).0 is in inr (inl (s, refl, why.0, why.1))
  unbegun NoMemory is = inr (inr (
    refl,
    elim (no_memory is).1 [
      | inl many ↦ many
      | inr none ↦ absurd (none_many none.0 none.1 none.2)
    ],
  ))
  unbegun NoRange is = absurd (not_of_it r NoRange is faults refl)
  unbegun OutOfSegment is = absurd (not_of_it r OutOfSegment is faults refl)
  unbegun NotLocked is = absurd (not_of_it r NotLocked is faults refl)
  unbegun (TooLong words) is = absurd (not_of_it r (TooLong words) is faults refl)
  unbegun (SequenceSpent s) is = absurd (not_of_it r (SequenceSpent s) is faults refl)
  unbegun EmptyRange is = absurd (not_of_it r EmptyRange is faults refl)
  unbegun TooManyRanges is = absurd (not_of_it r TooManyRanges is faults refl)
  unbegun (ReadOnly s) is = absurd (not_of_it r (ReadOnly s) is faults refl)
