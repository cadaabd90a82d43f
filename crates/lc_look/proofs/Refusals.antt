-- A store is refused in one way alone, and one that is refused does not merge.
use Rattle.std.proofs.Common.{◌≡◌, ◌∙◌, ℕ, Some, sym, ap, ap₂, arith, inl, inr}
use Rattle.lc_record.specs.Content.{Content}
use Rattle.lc_model.specs.Merge.{StoreText, MergesTo, IsLeast, IsLeastPair, Refuses, MergeFault, BadGeometry, OutOfSegment, Twice, Gap}
use Rattle.lc_model.specs.declared.refusal.Refusal.{Refusal}
use Rattle.lc_recover.specs.Fault.{IsRefusal}
use Rattle.lc_recover.specs.declared.fault.RecoverFault.{RecoverFault}
use Rattle.lc_recover.specs.declared.fault.RecoverFault.TheVariants.{BadGeometry as IsOther, Gap as IsGap, Twice as AreTwice, OutOfSegment as IsOutside, DeviceFault, NoMemory}
use Rattle.lc_recover.specs.Fault.{refusal_to}
use Rattle.lc_look.specs.Refused.{merge_refusal}

pub one_least : (Such : ℕ → Type 0) (m n : ℕ) → IsLeast Such m → IsLeast Such n → m ≡ n
one_least Such m n a b = omega (arith, a.least n b.is, b.least m a.is)

one_pair : (Such : ℕ → ℕ → Type 0) (k l m n : ℕ) → IsLeastPair Such k l → IsLeastPair Such m n → (k ≡ m) × (l ≡ n)
one_pair Such k l m n a b =
    elim (a.least m n b.is) [
      | inl less ↦ elim (b.least k l a.is) [ inl more ↦ absurd (omega (arith, less, more)) | inr same ↦ absurd (omega (arith, less, same.0)) ]
      | inr same ↦ elim (b.least k l a.is) [ inl more ↦ absurd (omega (arith, same.0, more)) | inr also ↦ (same.0, omega (arith, same.1, also.1)) ]
    ]

-- what merges is not refused
pub not_refused : (store : StoreText) (content : Content) (numbers : ℕ → ℕ) (fault : MergeFault) → MergesTo store content numbers → Refuses store fault → ⊥
not_refused store content numbers (BadGeometry area) merges refused = merges.0 area refused.is
not_refused store content numbers (OutOfSegment area) merges refused = merges.1 area refused.1.is
not_refused store content numbers (Twice segment seq) merges refused = merges.2.not_twice segment seq refused.2.is
not_refused store content numbers (Gap segment seq) merges refused = merges.2.no_gap segment seq refused.3.is.0 refused.3.is.1 refused.3.is.2

option_some : {x y : Refusal} → Some x ≡ Some y → x ≡ y
option_some e = cc

-- what is answered is the fault's refusal
pub same_refusal : (store : StoreText) (fault : MergeFault) (found : RecoverFault) (refusal : Refusal) → Refuses store fault → IsRefusal store found → refusal_to found ≡ Some refusal
    → refusal ≡ merge_refusal fault
same_refusal store (BadGeometry area) (IsOther other) refusal r f is = let same = one_least _ other area f r in sym (option_some is) ∙ ap (λ (n : ℕ). Refusal.BadGeometry n) same
same_refusal store (BadGeometry area) (IsOutside other) refusal r f is = absurd (f.0 area r.is)
same_refusal store (BadGeometry area) (AreTwice segment seq) refusal r f is = absurd (f.0 area r.is)
same_refusal store (BadGeometry area) (IsGap segment seq) refusal r f is = absurd (f.0 area r.is)
same_refusal store (OutOfSegment area) (IsOther other) refusal r f is = absurd (r.0 other f.is)
same_refusal store (OutOfSegment area) (IsOutside other) refusal r f is = let same = one_least _ other area f.1 r.1 in sym (option_some is) ∙ ap (λ (n : ℕ). Refusal.OutOfSegment (Some n)) same
same_refusal store (OutOfSegment area) (AreTwice segment seq) refusal r f is = absurd (f.1 area r.1.is)
same_refusal store (OutOfSegment area) (IsGap segment seq) refusal r f is = absurd (f.1 area r.1.is)
same_refusal store (Twice k l) (IsOther other) refusal r f is = absurd (r.0 other f.is)
same_refusal store (Twice k l) (IsOutside other) refusal r f is = absurd (r.1 other f.1.is)
same_refusal store (Twice k l) (AreTwice m n) refusal r f is = let same = one_pair _ m n k l f.2 r.2 in sym (option_some is) ∙ ap₂ (λ (a b : ℕ). Refusal.Twice a b) same.0 same.1
same_refusal store (Twice k l) (IsGap m n) refusal r f is = absurd (f.2 k l r.2.is)
same_refusal store (Gap k l) (IsOther other) refusal r f is = absurd (r.0 other f.is)
same_refusal store (Gap k l) (IsOutside other) refusal r f is = absurd (r.1 other f.1.is)
same_refusal store (Gap k l) (AreTwice m n) refusal r f is = absurd (r.2 m n f.2.is)
same_refusal store (Gap k l) (IsGap m n) refusal r f is = let same = one_pair _ m n k l f.3 r.3 in sym (option_some is) ∙ ap₂ (λ (a b : ℕ). Refusal.Gap a b) same.0 same.1
same_refusal store fault DeviceFault refusal r f is = absurd f
same_refusal store fault NoMemory refusal r f is = absurd cc
