-- Of a segment: what was made ready for a record at a segment is gone on with, or taken back.
use Rattle.std.proofs.Common.{◌≡◌, ℕ, Option, Some, None, refl, sym, ap, ◌∙◌, inl}
use Rattle.lc_record.specs.declared.part.Part.{Part}
use Rattle.lc_token.specs.Backlog.{Backlog, forgetting, keeping}
use Rattle.lc_token.proofs.BacklogLemmas.{keeping_forgotten}
use Rattle.lc_segments.specs.Delivering.{IsReadied}
use Rattle.lc_segments.specs.Receptions.{Prepares}
use Rattle.lc_segments.specs.SegView.{SegView}
use Rattle.lc_segments.specs.declared.reception.Reception.{Reception}
use Rattle.lc_segments.specs.declared.reception.Reception.TheVariants.{Ignored, HeldBack, Next, NoMemory}

module _ {D : Type 0} where
  same_but_room : (before new : SegView D) → new ≡ before → IsReadied before new
  same_but_room before new is = inl (is ∙ ap (λ (n : ℕ). record before { room = n }) (sym (ap (λ (s : SegView D). s.room) is)))

  -- a part that was held back is so no more
  pub forgone : (part : Option Part) (before mid new : SegView D) (seq : ℕ) → Prepares part before (HeldBack seq) mid → new ≡ record mid { backlog = forgetting mid.backlog seq } → IsReadied before new
  forgone None before mid new seq ready is = absurd ready
  forgone (Some part) before mid new seq ready is =
      let back : forgetting mid.backlog seq ≡ before.backlog = ap (λ (s : SegView D). forgetting s.backlog seq) ready.3 ∙ (ap (forgetting (keeping before.backlog part)) ready.2 ∙ keeping_forgotten before.backlog part ready.0) in
      same_but_room before new (is ∙ (ap (λ (b : Backlog). record mid { backlog = b }) back ∙ ap (λ (s : SegView D). record s { backlog = before.backlog }) ready.3))

  -- whatever else was made ready leaves parts folded at most
  pub readied : (part : Option Part) (before mid : SegView D) (reception : Reception) → ((seq : ℕ) → reception ≡ HeldBack seq → ⊥) → Prepares part before reception mid → IsReadied before mid
  readied None before mid Ignored other ready = same_but_room before mid ready
  readied None before mid (HeldBack seq) other ready = absurd ready
  readied None before mid (Next next) other ready = absurd ready
  readied None before mid NoMemory other ready = absurd ready
  readied (Some part) before mid Ignored other ready = same_but_room before mid ready.1
  readied (Some part) before mid (HeldBack seq) other ready = absurd (other seq refl)
  readied (Some part) before mid (Next next) other ready = ready.3.0
  readied (Some part) before mid NoMemory other ready = ready.1
