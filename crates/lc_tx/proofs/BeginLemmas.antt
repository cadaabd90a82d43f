-- What the beginning of a transaction finds and makes.
use Rattle.std.proofs.Common.{◌≡◌, ◌⊎◌, ℕ, true, false, List, [], Option, refl, sym, ap, subst, ◌∙◌, inl, inr}
use Rattle.std.specs.Prelude.{◌↔◌, IsSome, None, Some, Result, Err}
use Rattle.std.proofs.lemmas.Bool.{false≢true, false_from_ne_true}
use Rattle.lc_record.specs.Transaction.{is_member}
use Rattle.lc_tx.specs.declared.image.Image.{Image as Picture}
use Rattle.lc_tx.specs.declared.images.Images.{Ghosts}
use Rattle.lc_tx.specs.declared.lock_mode.LockMode.{LockMode}
use Rattle.lc_tx.specs.declared.lock_mode.LockMode.TheVariants.{Exclusive, Shared}
use Rattle.lc_tx.specs.declared.tx_fault.TxFault.{TxFault}
use Rattle.lc_tx.specs.declared.tx_fault.TxFault.TheVariants.{Busy, NotHere}
use Rattle.lc_tx.specs.Images.{AreLocked, IsFirstTaken, IsHere, IsLockable, IsSame, holders_of}
use Rattle.lc_tx.specs.LockMode.{Takes}
use Rattle.lc_tx.specs.Locking.{AreTaken, IsLeastShut, lesser}
use Rattle.lc_tx.specs.Tx.{IsSetOf, none_of}
use Rattle.lc_tx.proofs.ImagesLemmas.{here_along, lock_along, lock_back}
use Rattle.lc_tx.proofs.LockedLemmas.{locked_from}
use Rattle.lc_tx.proofs.MemberLemmas.{of_others}
use Rattle.lc_tx.proofs.ShutLemmas.{all, taken}

-- what is told of a segment, and so of those that it is
module _ {A : Type 0} (P : ℕ → Type 0) (number : ℕ → Option ℕ) (segment : ℕ) (result : Result A TxFault) (fault : TxFault) (was : result ≡ Err fault)
    (not_here : number segment ≡ None → fault ≡ NotHere segment) (busy : IsSome (number segment) → fault ≡ Busy segment) (is : (s : ℕ) → (segment ≡ s) ↔ P s) where
  some_or_none : (o : Option ℕ) → IsSome o ⊎ (o ≡ None)
  some_or_none None = inr refl
  some_or_none (Some n) = inl refl

  pub told_not_here : (s : ℕ) → (result ≡ Err (NotHere s)) ↔ (P s × (number s ≡ None))
  told_not_here s = (
    (λ e. elim (some_or_none (number segment)) [
      | inl some ↦ (let told : fault ≡ Busy segment = busy some in absurd cc)
      | inr none ↦ (let told : fault ≡ NotHere segment = not_here none in let same : segment ≡ s = cc in ((is s).0 same, ap number (sym same) ∙ none))
    ]),
    (λ h. let same : segment ≡ s = (is s).1 h.0 in was ∙ ap (λ (f : TxFault). Err f) (not_here (ap number same ∙ h.1) ∙ ap (λ (n : ℕ). NotHere n) same)),
  )

  pub told_busy : (s : ℕ) → (result ≡ Err (Busy s)) ↔ (P s × IsSome (number s))
  told_busy s = (
    (λ e. elim (some_or_none (number segment)) [
      | inl some ↦ (let told : fault ≡ Busy segment = busy some in let same : segment ≡ s = cc in ((is s).0 same, subst (λ (n : ℕ). IsSome (number n)) same some))
      | inr none ↦ (let told : fault ≡ NotHere segment = not_here none in absurd cc)
    ]),
    (λ h. let same : segment ≡ s = (is s).1 h.0 in was ∙ ap (λ (f : TxFault). Err f) (busy (subst (λ (n : ℕ). IsSome (number n)) (sym same) h.1) ∙ ap (λ (n : ℕ). Busy n) same)),
  )

module _ {I : Type 0} (m : Ghosts I) where
  shut_back : (mode : LockMode) (old new : I) (xs : List ℕ) (first : Option ℕ) → IsSame m old new → IsLeastShut m mode new xs first → IsLeastShut m mode old xs first
  shut_back mode old new xs None same all = λ s e. lock_back m mode old new s same (all s e)
  shut_back mode old new xs (Some first) same is = (is.0, (λ can. is.1 (lock_along m mode old new first same can)), λ s e less. lock_back m mode old new s same (is.2 s e less))

  module _ (old mid : I) (segments reading : List ℕ) (one two found : Option ℕ) (same : IsSame m old mid)
      (written : IsLeastShut m Exclusive old segments one) (read : IsLeastShut m Shared mid reading two) (is : found ≡ lesser one two) where
    pub first_is : (segment : ℕ) → found ≡ Some segment → (s : ℕ) → (segment ≡ s) ↔ IsFirstTaken m old segments reading s
    first_is segment some s =
        let both = taken m old segments reading one two written (shut_back Shared old mid reading two same read) s in (
          (λ e. both.0 (sym is ∙ some ∙ ap (λ (n : ℕ). Some n) e)),
          (λ first. let other : Some segment ≡ Some s = sym some ∙ is ∙ both.1 first in cc),
        )

    pub free_all : found ≡ None → (s : ℕ) → IsLockable m old segments reading s
    free_all none = all m old segments reading one two written (shut_back Shared old mid reading two same read) (sym is ∙ none)

  pub beside_here : (old : I) (segments reading beside : List ℕ) → IsSetOf (none_of segments reading) beside → ((s : ℕ) → IsLockable m old segments reading s) → (s : ℕ) → is_member s beside ≡ true → IsHere m old s
  beside_here old segments reading beside others free s e = ((free s).for_reading (of_others s segments reading (sym (others.same s) ∙ e)).0).0

  -- the segments are locked, those for writing first
  module _ (chain : (s t u : I) → m.IsSameBeside s t → m.IsSameBeside t u → m.IsSameBeside s u) (thread : ℕ) (segments reading locked beside : List ℕ) (old same mid new : I)
      (are : IsSetOf segments locked) (others : IsSetOf (none_of segments reading) beside) (free : (s : ℕ) → IsLockable m old segments reading s) (before : IsSame m old same)
      (one : AreTaken m Exclusive thread locked same mid) where
    asked : (s : ℕ) → is_member s locked ≡ true → is_member s segments ≡ true
    asked s e = sym (are.same s) ∙ e

    other : (s : ℕ) → is_member s beside ≡ true → (is_member s reading ≡ true) × (is_member s segments ≡ false)
    other s e = of_others s segments reading (sym (others.same s) ∙ e)

    here : (s : ℕ) → is_member s locked ≡ true → IsHere m old s
    here s e = ((free s).for_writing (asked s e)).0

    pub begins_from : AreTaken m Shared thread beside mid new → AreLocked m thread locked beside old new
    begins_from two = locked_from m chain thread locked beside old mid new here (beside_here old segments reading beside others free)
        (λ s e. are.same s ∙ (other s e).1)
        (λ s e. false_from_ne_true (is_member s beside) (λ also. false≢true (sym (other s also).1 ∙ asked s e)))
        first two
      where
        kept : (s : ℕ) → IsHere m old s → m.image_of same s ≡ m.image_of old s
        kept s at = before.others s at refl

        first : AreTaken m Exclusive thread locked old mid
        first = record {
          same = record {
            numbers = λ s. one.same.numbers s ∙ before.numbers s;
            others = λ s at not. one.same.others s (here_along m [] old same s before at) not ∙ kept s at;
            beside = chain old same mid before.beside one.same.beside;
          };
          takes = λ s e. subst (λ (p : Picture). Takes Exclusive thread p.holders (holders_of m mid s)) (kept s (here s e)) (one.takes s e);
          same_bytes = λ s e. one.same_bytes s e ∙ ap (λ (p : Picture). p.bytes.items) (kept s (here s e));
        }
