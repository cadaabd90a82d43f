-- The locks of a node's segments, and those that a caller holds.
use Rattle.std.proofs.Common.{◌≡◌, ℕ, ◌+◌, ◌-◌, ◌<◌, List, [], ◌∷◌, ◌++◌, All, Some, length, get_or, refl, sym, ap, subst, ◌∙◌, arith, length-append}
use lib.ListN.{get_or-append}
use lib.Seq.{get_or-append-add}
use Rattle.std.specs.List.{slice_get}
use Rattle.std.specs.Prelude.{IsSome}
use Rattle.std.proofs.lemmas.Option.{slice_get_within, get_or_from_slice_get, slice_get_read}
use Rattle.lc_lock.specs.declared.ticket_lock.TicketLock.{TicketLock}
use Rattle.lc_lock.specs.Loans.{key_of, IsLoanOf}
use Rattle.lc_segments.specs.SegView.{SegView}
use Rattle.lc_node.specs.Held.{IsHeldOf}
use Rattle.lc_node.specs.declared.node.Node.{Node}
use Rattle.lc_segments.specs.declared.held.HeldSide.{HeldSide}

module _ {A : Type 0} (P : A → Type 0) where
  pub all_front : (xs ys : List A) → All P (xs ++ ys) → All P xs
  all_front xs ys h = λ k d l. subst P (get_or-append xs ys d k l) (h k d (let n = length-append xs ys in omega arith))

  pub all_last : (xs : List A) (x : A) → All P (xs ++ x ∷ []) → P x
  all_last xs x h = subst P (get_or-append-add xs (x ∷ []) 0 x) (h (length xs + 0) x (let n = length-append xs (x ∷ []) in omega arith))

module _ {D : Type 0} where
  -- a segment that was just locked is held
  pub held_now : (node : Node D) (h : HeldSide D) (lock : TicketLock (SegView D) ℕ) (place : ℕ) → place < length node.segments.items → lock ≡ get_or node.segments.items place lock → h.side.segment ≡ key_of lock → IsLoanOf lock h.loan → IsSome h.side.image
      → IsHeldOf node h × (h.side.segment ≡ place + 1)
  held_now node h lock place within is fits loan here = let got : slice_get node.segments.items place ≡ Some lock = slice_get_read node.segments.items (length node.segments.items) place lock refl within is in
      let at = node.in_order place lock got in
      ((place, lock, got, fits ∙ at, loan, here), fits ∙ at)

  -- the lock of a held segment is that which lent it
  pub held_lock : (node : Node D) (h : HeldSide D) (segment : ℕ) → IsHeldOf node h → segment ≡ h.side.segment
      → (segment - 1 < length node.segments.items) × ((lock : TicketLock (SegView D) ℕ) → lock ≡ get_or node.segments.items (segment - 1) lock → (h.side.segment ≡ key_of lock) × IsLoanOf lock h.loan × IsSome h.side.image)
  held_lock node h segment t is = let place : t.0 ≡ segment - 1 = (let e = t.3 in omega arith) in let got : slice_get node.segments.items (segment - 1) ≡ Some t.1 = ap (λ (n : ℕ). slice_get node.segments.items n) (sym place) ∙ t.2 in (
    slice_get_within node.segments.items (segment - 1) t.1 got,
    λ lock at. let same : t.1 ≡ lock = sym (at ∙ get_or_from_slice_get node.segments.items (segment - 1) t.1 lock got) in
        (subst (λ (l : TicketLock (SegView D) ℕ). h.side.segment ≡ key_of l) same (t.3 ∙ sym (node.in_order t.0 t.1 t.2)), subst (λ (l : TicketLock (SegView D) ℕ). IsLoanOf l h.loan) same t.4, t.5),
  )
