-- A store has one outcome at most.
use Rattle.std.proofs.Common.{◌≡◌, ℕ, ◌≤◌, length, ◌∙◌, ap, arith, inl, inr}
use Rattle.lc_record.specs.Content.{Content}
use Rattle.lc_model.specs.Merge.{StoreText, MergeFault, BadGeometry, OutOfSegment, Twice, Gap, HasOtherNode, HasOutside, IsTwice, HasGap, IsLeast, IsLeastPair, Refuses, MergesTo}
use Rattle.lc_model.proofs.One.{one-result}

least-one : (Such : ℕ → Type 0) (n m : ℕ) → IsLeast Such n → IsLeast Such m → n ≡ m
least-one Such n m first second =
    let below : n ≤ m = first.least m second.is in
    let above : m ≤ n = second.least n first.is in
    omega (arith, below, above)

least_pair-one : (Such : ℕ → ℕ → Type 0) (segment seq other number : ℕ) → IsLeastPair Such segment seq → IsLeastPair Such other number → (segment ≡ other) × (seq ≡ number)
least_pair-one Such segment seq other number first second =
    elim (first.least other number second.is) [
      | inl below ↦
          (elim (second.least segment seq first.is) [
            | inl above ↦ absurd (omega (arith, below, above))
            | inr same ↦ absurd (omega (arith, below, same.0))
          ])
      | inr same ↦
          (elim (second.least segment seq first.is) [
            | inl above ↦ absurd (omega (arith, above, same.0))
            | inr again ↦ (same.0, omega (arith, same.1, again.1))
          ])
    ]

pub one-fault : (store : StoreText) (fault other : MergeFault) → Refuses store fault → Refuses store other → fault ≡ other
one-fault store (BadGeometry area) (BadGeometry log) first second = ap BadGeometry (least-one (HasOtherNode store) area log first second)
one-fault store (BadGeometry area) (OutOfSegment log) first second = absurd (second.0 area first.is)
one-fault store (BadGeometry area) (Twice segment seq) first second = absurd (second.0 area first.is)
one-fault store (BadGeometry area) (Gap segment seq) first second = absurd (second.0 area first.is)
one-fault store (OutOfSegment area) (BadGeometry log) first second = absurd (first.0 log second.is)
one-fault store (OutOfSegment area) (OutOfSegment log) first second = ap OutOfSegment (least-one (HasOutside store) area log first.1 second.1)
one-fault store (OutOfSegment area) (Twice segment seq) first second = absurd (second.1 area first.1.is)
one-fault store (OutOfSegment area) (Gap segment seq) first second = absurd (second.1 area first.1.is)
one-fault store (Twice segment seq) (BadGeometry log) first second = absurd (first.0 log second.is)
one-fault store (Twice segment seq) (OutOfSegment log) first second = absurd (first.1 log second.1.is)
one-fault store (Twice segment seq) (Twice other number) first second =
    let same : (segment ≡ other) × (seq ≡ number) = least_pair-one (IsTwice store) segment seq other number first.2 second.2 in
    ap (λ s. Twice s seq) same.0 ∙ ap (Twice other) same.1
one-fault store (Twice segment seq) (Gap other number) first second = absurd (second.2 segment seq first.2.is)
one-fault store (Gap segment seq) (BadGeometry log) first second = absurd (first.0 log second.is)
one-fault store (Gap segment seq) (OutOfSegment log) first second = absurd (first.1 log second.1.is)
one-fault store (Gap segment seq) (Twice other number) first second = absurd (first.2 other number second.2.is)
one-fault store (Gap segment seq) (Gap other number) first second =
    let same : (segment ≡ other) × (seq ≡ number) = least_pair-one (HasGap store) segment seq other number first.3 second.3 in
    ap (λ s. Gap s seq) same.0 ∙ ap (Gap other) same.1

pub fault-apart : (store : StoreText) (fault : MergeFault) (content : Content) (numbers : ℕ → ℕ) → Refuses store fault → MergesTo store content numbers → ⊥
fault-apart store (BadGeometry area) content numbers refused merged = merged.0 area refused.is
fault-apart store (OutOfSegment area) content numbers refused merged = merged.1 area refused.1.is
fault-apart store (Twice segment seq) content numbers refused merged = merged.2.not_twice segment seq refused.2.is
fault-apart store (Gap segment seq) content numbers refused merged =
    let gap : HasGap store segment seq = refused.3.is in
    merged.2.no_gap segment seq gap.0 gap.1 gap.2

pub one-value : (store : StoreText) (content other : Content) (numbers others : ℕ → ℕ) → MergesTo store content numbers → MergesTo store other others → (content ≡ other) × ((segment : ℕ) → 1 ≤ segment → segment ≤ length store.pages → numbers segment ≡ others segment)
one-value store content other numbers others first second = one-result store content other numbers others first.2 second.2
