-- Of a node: what was made ready for a record at a segment is gone on with, or taken back.
use Rattle.std.proofs.Common.{◌≡◌, ◌+◌, Option, Some, None, sym, ap, ◌∙◌, inl, inr}
use Rattle.lc_record.specs.declared.part.Part.{Part}
use Rattle.lc_token.specs.Backlog.{Backlog}
use Rattle.lc_segments.specs.Delivering.{IsReadied}
use Rattle.lc_segments.specs.Receptions.{CanFinish, IsReceived, Prepares}
use Rattle.lc_segments.specs.SegView.{SegView}
use Rattle.lc_segments.specs.declared.reception.Reception.{Reception}
use Rattle.lc_segments.specs.declared.reception.Reception.TheVariants.{Ignored, HeldBack, Next, NoMemory}

module _ {D : Type 0} where
  -- where there was memory it can be gone on with
  pub can_finish : (part : Option Part) (before mid : SegView D) (reception : Reception) → IsReceived reception → Prepares part before reception mid → CanFinish mid reception
  can_finish part before mid Ignored received ready = tt
  can_finish part before mid (HeldBack seq) received ready = tt
  can_finish None before mid (Next next) received ready = absurd ready
  can_finish (Some part) before mid (Next next) received ready =
      let same : (mid.standing ≡ before.standing) × (mid.backlog ≡ before.backlog) = elim ready.3.0 [
        | inl same ↦ (ap (λ (s : SegView D). s.standing) same, ap (λ (s : SegView D). s.backlog) same)
        | inr folded ↦ (ap (λ (s : SegView D). s.standing) folded.1, ap (λ (s : SegView D). s.backlog) folded.1)
      ] in
      (ap (λ s. s.token) same.0 ∙ ready.1.0, ap (λ (p : Part). p.seq) ready.2 ∙ (ready.1.1 ∙ ap (λ (b : Backlog). b.applied + 1) (sym same.1)), ready.4)
  can_finish part before mid NoMemory received ready = absurd received

  -- neither a token comes nor an image goes
  pub of_readied : (before mid : SegView D) → IsReadied before mid → (mid.standing ≡ before.standing) × (mid.image ≡ before.image) × (mid.segment ≡ before.segment) × (mid.waiting ≡ before.waiting)
  of_readied before mid (inl same) = (ap (λ (s : SegView D). s.standing) same, ap (λ (s : SegView D). s.image) same, ap (λ (s : SegView D). s.segment) same, ap (λ (s : SegView D). s.waiting) same)
  of_readied before mid (inr folded) = (ap (λ (s : SegView D). s.standing) folded.1, ap (λ (s : SegView D). s.image) folded.1, ap (λ (s : SegView D). s.segment) folded.1, ap (λ (s : SegView D). s.waiting) folded.1)

  pub same_standing : (part : Option Part) (before mid : SegView D) (reception : Reception) → Prepares part before reception mid → (mid.standing ≡ before.standing) × (mid.image ≡ before.image) × (mid.segment ≡ before.segment) × (mid.waiting ≡ before.waiting)
  same_standing None before mid Ignored ready = (ap (λ (s : SegView D). s.standing) ready, ap (λ (s : SegView D). s.image) ready, ap (λ (s : SegView D). s.segment) ready, ap (λ (s : SegView D). s.waiting) ready)
  same_standing None before mid (HeldBack seq) ready = absurd ready
  same_standing None before mid (Next next) ready = absurd ready
  same_standing None before mid NoMemory ready = absurd ready
  same_standing (Some part) before mid Ignored ready = (ap (λ (s : SegView D). s.standing) ready.1, ap (λ (s : SegView D). s.image) ready.1, ap (λ (s : SegView D). s.segment) ready.1, ap (λ (s : SegView D). s.waiting) ready.1)
  same_standing (Some part) before mid (HeldBack seq) ready = (ap (λ (s : SegView D). s.standing) ready.3, ap (λ (s : SegView D). s.image) ready.3, ap (λ (s : SegView D). s.segment) ready.3, ap (λ (s : SegView D). s.waiting) ready.3)
  same_standing (Some part) before mid (Next next) ready = of_readied before mid ready.3.0
  same_standing (Some part) before mid NoMemory ready = of_readied before mid ready.1
