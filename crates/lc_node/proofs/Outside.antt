-- The first segment that a node does not have.
use Rattle.std.proofs.Common.{◌≡◌, ℕ, zero, suc, ◌+◌, ◌<◌, ◌≤◌, List, [], ◌∷◌, All, length, take, drop, get_or, refl, sym, subst, inl, inr, arith}
use Rattle.std.specs.Prelude.{◌↔◌}
use Rattle.std.proofs.lemmas.List.{drop_more, take_more, take_all}
use Rattle.std.proofs.lemmas.List.Elements.{All-append}
use Rattle.lc_record.specs.Marks.{counting}
use Rattle.lc_node.specs.Held.{HasSegment, IsFirstOutside, IsUnheld}
use Rattle.lc_segments.specs.declared.node_fault.NodeFault.{NodeFault}
use Rattle.lc_segments.specs.declared.node_fault.NodeFault.TheVariants.{Busy, NotHere, NoRange, OutOfSegment, NotLocked, NoMemory, TooLong, SequenceSpent, EmptyRange, TooManyRanges, Full, Sealed, Lost, DeviceFault, Halted, Mismatch, Token, RoundsSpent, Unclean, ChannelFull, ReadOnly}
use Rattle.lc_node.specs.declared.node.Node.{Node}
use Rattle.lc_log_side.proofs.Knowing.{all_alone}

module _ {D : Type 0} (node : Node D) (segments : List ℕ) where
  -- those before are here, and the first of the rest is the first of all
  abbrev pub IsLooking : ℕ → Type 0
  IsLooking i = ((s : ℕ) → IsFirstOutside node segments s ↔ IsFirstOutside node (drop i segments) s) × All (HasSegment node) (take i segments)

  pub looks : IsLooking 0
  looks = ((λ s. ((λ h. h), (λ h. h))), λ k d within. absurd (omega arith))

  pub outside_now : (i : ℕ) → i < length segments → IsLooking i → (HasSegment node (get_or segments i 0) → ⊥) → (s : ℕ) → (get_or segments i 0 ≡ s) ↔ IsFirstOutside node segments s
  outside_now i within look not s = let more = drop_more segments i 0 within in (
    (λ e. (look.0 s).1 (subst (λ (l : List ℕ). IsFirstOutside node l s) (sym more) (inl (not, e)))),
    (λ first. elim (subst (λ (l : List ℕ). IsFirstOutside node l s) more ((look.0 s).0 first)) [
      | inl here ↦ here.1
      | inr later ↦ absurd (not later.0)
    ]),
  )

  pub looks_on : (i : ℕ) → i < length segments → IsLooking i → HasSegment node (get_or segments i 0) → IsLooking (i + 1)
  looks_on i within look has = let more = drop_more segments i 0 within in (
    (λ s. (
      (λ first. elim (subst (λ (l : List ℕ). IsFirstOutside node l s) more ((look.0 s).0 first)) [
        | inl here ↦ absurd (here.0 has)
        | inr later ↦ later.1
      ]),
      (λ rest. (look.0 s).1 (subst (λ (l : List ℕ). IsFirstOutside node l s) (sym more) (inr (has, rest)))),
    )),
    subst (All (HasSegment node)) (sym (take_more segments i 0 within)) (All-append (HasSegment node) (take i segments) (get_or segments i 0 ∷ []) look.1 (all_alone (HasSegment node) (get_or segments i 0) has)),
  )

  none_left : (l : List ℕ) (i s : ℕ) → length l ≤ i → IsFirstOutside node (drop i l) s → ⊥
  none_left [] zero s all first = first
  none_left [] (suc i) s all first = first
  none_left (x ∷ xs) zero s all first = absurd (omega arith)
  none_left (x ∷ xs) (suc i) s all first = none_left xs i s (omega arith) first

  pub none_outside : (i : ℕ) → length segments ≤ i → IsLooking i → (s : ℕ) → IsFirstOutside node segments s → ⊥
  none_outside i all look s first = none_left segments i s all ((look.0 s).0 first)

  pub all_here : (i : ℕ) → length segments ≤ i → IsLooking i → All (HasSegment node) segments
  all_here i all look = subst (All (HasSegment node)) (take_all i segments all) look.1

-- Of the first segments the node has each

none_from : {D : Type 0} (node : Node D) (n k from s : ℕ) → 1 ≤ from → from + n ≤ length node.segments.items + 1 → IsFirstOutside node (take n (counting from k)) s → ⊥
none_from node zero k from s some few first = first
none_from node (suc n) zero from s some few first = first
none_from node (suc n) (suc k) from s some few (inl here) = here.0 (some, omega arith)
none_from node (suc n) (suc k) from s some few (inr later) = none_from node n k (from + 1) s (omega arith) (omega arith) later.1

pub none_of_first : {D : Type 0} (node : Node D) (n s : ℕ) → n ≤ length node.segments.items → IsFirstOutside node (take n (counting 1 16)) s → ⊥
none_of_first node n s few first = none_from node n 16 1 s (omega arith) (omega arith) first

pub only_memory : (fault : NodeFault) → IsUnheld fault → ((s : ℕ) → fault ≡ NotHere s → ⊥) → fault ≡ NoMemory
only_memory (NotHere s) is none = absurd (none s refl)
only_memory NoMemory is none = refl
only_memory (Busy s) is none = absurd is
only_memory NoRange is none = absurd is
only_memory OutOfSegment is none = absurd is
only_memory NotLocked is none = absurd is
only_memory (TooLong words) is none = absurd is
only_memory (SequenceSpent s) is none = absurd is
only_memory EmptyRange is none = absurd is
only_memory TooManyRanges is none = absurd is
only_memory (Full tail need) is none = absurd is
only_memory Sealed is none = absurd is
only_memory (Lost seen) is none = absurd is
only_memory DeviceFault is none = absurd is
only_memory Halted is none = absurd is
only_memory (Mismatch part) is none = absurd is
only_memory (Token fault) is none = absurd is
only_memory RoundsSpent is none = absurd is
only_memory (Unclean s seq) is none = absurd is
only_memory (ChannelFull to) is none = absurd is
only_memory (ReadOnly s) is none = absurd is
