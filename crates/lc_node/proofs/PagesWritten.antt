-- Of a node: what the pages of held segments are after their writes.
use Rattle.std.proofs.Common.{◌≡◌, ℕ, ◌+◌, ◌*◌, ◌<◌, ◌≤◌, List, [], ◌∷◌, All, Some, length, take, refl, get_or, sym, subst, ◌∙◌, inl, inr, arith}
use Rattle.std.specs.Prelude.{IsSome, slice_get}
use Rattle.std.proofs.lemmas.Bool.{cases_lt, cases_eq, eq-eqb, ne_eqb, lt-ltb, le-ltb}
use Rattle.std.proofs.lemmas.List.{take_more, take_all, get_or_default}
use Rattle.std.proofs.lemmas.Option.{slice_get_read}
use Rattle.lc_lock.specs.Loans.{IsLoanOf}
use Rattle.std.proofs.lemmas.List.Elements.{All-append}
use Rattle.std.specs.Ordering.{ord_max, nat_cmp}
use Rattle.lc_disk.specs.declared.area.Area.{Ghosts}
use Rattle.lc_record.proofs.ListLemmas.{slice_get_some as some_at, All-slice_get as all_at}
use Rattle.lc_segments.specs.Each.{Each}
use Rattle.lc_log_side.specs.Flushes.{IsUnflushed}
use Rattle.lc_log_side.specs.Halting.{IsUntruncatable}
use Rattle.lc_node.specs.Held.{IsHeldOf}
use Rattle.lc_log_side.specs.LogView.{LogView}
use Rattle.lc_log_side.specs.Resets.{IsUnemptied, IsUnfit}
use Rattle.lc_segments.specs.SegView.{SegView}
use Rattle.lc_node.specs.declared.node.Node.{Node}
use Rattle.lc_segments.specs.declared.node_fault.NodeFault.{NodeFault}
use Rattle.lc_log_side.specs.Truncates.{HasPagesIn, IsUntruncated, IsUntruncatedInRoom, IsSameHeld}
use Rattle.lc_node.specs.Truncates.{IsOfTruncation, IsUntruncatedHeld}
use Rattle.lc_segments.specs.Truncates.{FailsPages}
use Rattle.lc_segments.specs.declared.held.HeldSide.{HeldSide}
use Rattle.lc_log_side.proofs.Knowing.{all_alone}

-- the greater of two
pub upto_max : (a b n : ℕ) → n ≡ ord_max nat_cmp a b → (a ≤ n) × (b ≤ n)
upto_max a b n is = elim (cases_lt b a) [
  | inl more ↦
      let same : n ≡ a = is ∙ rw (lt-ltb b a more) refl in
      (omega arith, omega arith)
  | inr less ↦ (elim (cases_eq b a) [
    | inl same ↦ let is_b : n ≡ b = is ∙ rw (le-ltb b a less, eq-eqb b a same) refl in (omega arith, omega arith)
    | inr differs ↦ let is_b : n ≡ b = is ∙ rw (le-ltb b a less, ne_eqb b a differs) refl in (omega arith, omega arith)
  ])
]

module _ {D : Type 0} where
  -- one more segment is looked at
  pub pages_more : (hs : List (HeldSide D)) (k m p n : ℕ) (h : HeldSide D) → k < length hs → h ≡ get_or hs k h → All (HasPagesIn m) (take k hs) → length h.side.base ≤ p * 256 → m ≤ n → p ≤ n
      → All (HasPagesIn n) (take (k + 1) hs)
  pages_more hs k m p n h within at all long more much = subst (All (HasPagesIn n)) (sym (take_more hs k h within))
      (All-append (HasPagesIn n) (take k hs) (get_or hs k h ∷ []) (λ i d l. (let was = all i d l in omega arith))
      (all_alone (HasPagesIn n) (get_or hs k h) (subst (HasPagesIn n) at (omega arith))))

  pub pages_in_all : (hs : List (HeldSide D)) (k n : ℕ) → length hs ≤ k → All (HasPagesIn n) (take k hs) → All (HasPagesIn n) hs
  pages_in_all hs k n whole all = subst (All (HasPagesIn n)) (take_all k hs whole) all

  pub more_places : (hs : List (HeldSide D)) (m n : ℕ) → m ≤ n → All (HasPagesIn m) hs → All (HasPagesIn n) hs
  more_places hs m n more all k d l = let was = all k d l in omega arith

  -- each side is held as before
  pub still_held : (node : Node D) (olds news : List (HeldSide D)) → Each IsSameHeld olds news → All (IsHeldOf node) olds → All (IsHeldOf node) news
  still_held node olds news same all k d l =
      let g : HeldSide D = get_or news k d in
      let g_at : slice_get news k ≡ Some g = slice_get_read news (length news) k g refl l (get_or_default news k d g l) in
      let old = some_at olds k (let e = same.long in omega arith) in
      let h : HeldSide D = old.0 in
      let is = same.each k h g old.1 g_at in
      let held = all_at (IsHeldOf node) olds k h all old.1 in
      (held.0, held.1, held.2, is.1 ∙ held.3, subst (λ (x : HeldSide D). IsLoanOf held.1 x.loan) (sym is.0) held.4, subst (λ o. IsSome o) (sym is.2) held.5)

-- A refused flush, page write or reset is a fault of a truncation

pub of_flush : {D : Type 0} (a : Ghosts D) (old new : LogView D) (fault : NodeFault) → IsUnflushed a old fault new → IsOfTruncation fault
of_flush a old new fault (inl halted) = inr (inl (inr halted.0))
of_flush a old new fault (inr failed) = inr (inl (inl failed.0))

of_pages : {D : Type 0} (a : Ghosts D) (old new : SegView D) (fault : NodeFault) → FailsPages a old fault new → IsOfTruncation fault
of_pages a old new fault (folded, standing, inl halted) = inr (inl (inr halted.0))
of_pages a old new fault (folded, standing, inr failed) = inr (inl (inl failed.0))

of_unfit : {D : Type 0} (old : LogView D) (fault : NodeFault) → IsUnfit old fault → IsOfTruncation fault
of_unfit old fault (inl halted) = inr (inl (inr halted.0))
of_unfit old fault (inr (inl spent)) = inr (inr (inl spent.0))
of_unfit old fault (inr (inr unclean)) = inr (inr (inr (inl (unclean.0, unclean.1, unclean.2))))

of_reset : {D : Type 0} (old new : LogView D) (fault : NodeFault) → IsUnemptied old fault new → IsOfTruncation fault
of_reset old new fault (inl unfit) = of_unfit old fault unfit.0
of_reset old new fault (inr (inl lost)) = inr (inr (inr (inr (lost.1.0, lost.1.1))))
of_reset old new fault (inr (inr failed)) = inr (inl (inl failed.1.0))

pub of_untruncatable : {D : Type 0} (log : LogView D) (fault : NodeFault) → IsUntruncatable log fault → IsOfTruncation fault
of_untruncatable log fault (inl halted) = inr (inl (inr halted.0))
of_untruncatable log fault (inr spent) = inr (inr (inl spent.0))

of_untruncated : {D : Type 0} (a : Ghosts D) (room : ℕ) (old new : LogView D) (olds news : List (HeldSide D)) (fault : NodeFault) → IsUntruncated a room old olds fault new news → IsOfTruncation fault
of_untruncated a room old new olds news fault (inl unflushed) = of_flush a old new fault unflushed.0
of_untruncated a room old new olds news fault (inr (count, flushed, flushes, inl failed)) = of_pages a failed.0.old.side failed.0.new.side fault failed.0.fails
of_untruncated a room old new olds news fault (inr (count, flushed, flushes, inr unemptied)) = of_reset (record flushed { known = unemptied.0 }) new fault unemptied.3

pub of_truncation : {D : Type 0} (a : Ghosts D) (room : ℕ) (old new : LogView D) (olds news : List (HeldSide D)) (fault : NodeFault) → IsUntruncatedInRoom a room old olds fault new news → IsOfTruncation fault
of_truncation a room old new olds news fault (inl may_not) = of_untruncatable old fault may_not.0
of_truncation a room old new olds news fault (inr (inl memory)) = inl memory.0
of_truncation a room old new olds news fault (inr (inr (roomy, makes, refused))) = of_untruncated a room roomy new olds news fault refused

pub of_truncation_held : {D : Type 0} (a : Ghosts D) (node : Node D) (olds news : List (HeldSide D)) (fault : NodeFault) → IsUntruncatedHeld a node olds fault news → IsOfTruncation fault
of_truncation_held a node olds news fault (inl memory) = inl memory.0
of_truncation_held a node olds news fault (inr (old, new, own, refused)) = of_truncation a node.stage.room old new olds news fault refused
