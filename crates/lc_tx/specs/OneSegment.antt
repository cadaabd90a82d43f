-- The images of a node of one segment.
use Rattle.std.specs.Prelude.{◌≡◌, ℕ, true, false, ◌==◌, Some, None, IsSome, if◌then◌else◌}
use Rattle.std.proofs.Common.{refl, sym, ◌∙◌, eqb-true, true≢false}
use Rattle.lc_tx.specs.declared.images.Images.{Ghosts}
use Rattle.lc_tx.specs.declared.one_segment.OneSegment.{OneSegment}

-- the token of segment 1 is here, with the number of the records
abbrev pub the_images : Ghosts OneSegment
the_images = record {
  number_of = λ s segment. if segment == 1 then Some s.records else None;
  image_of = λ s segment. s.image;
  with_image = λ s segment image. record s { image = image };
  IsSameBeside = λ s t. s.records ≡ t.records;
}

pub is_one : (s : OneSegment) (segment : ℕ) → IsSome (the_images.number_of s segment) → segment ≡ 1
is_one s segment here = elim (segment == 1) as (λ b. (segment == 1) ≡ b → IsSome (if b then Some s.records else None) → segment ≡ 1) [
  | true ↦ λ e some. eqb-true segment 1 e
  | false ↦ λ e none. absurd (true≢false (sym none))
] refl here

pub one_here : (s : OneSegment) (segment other : ℕ) → IsSome (the_images.number_of s segment) → IsSome (the_images.number_of s other) → other ≡ segment
one_here s segment other here there = is_one s other there ∙ sym (is_one s segment here)
