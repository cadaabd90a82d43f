use Rattle.std.proofs.Common.{◌≡◌, ℕ, ◌-◌, ◌^◌, min, List, length, sym, ap, subst, ◌∙◌, arith}
use Rattle.lc_record.specs.declared.part.Part.{Part}
use Rattle.lc_segments.specs.Growing.{parts_size}
use Rattle.lc_segments.specs.SegSide.{FitsArea}
use Rattle.lc_applied.specs.AppliedParts.{laid_parts}
use Rattle.lc_segments.proofs.Laying.{length-laid_parts}
use Rattle.lc_segments.proofs.seg_side.SegSide.fold.Goals as goal

pub invariant_of-self : goal.invariant_of-self
invariant_of-self g c = let inv = c.self.invariant in let base : List ℕ = c.self.inside.base.bytes.items in let parts : List Part = c.self.inside.applied.parts in
    let laid : c.lay_on.new.image.bytes.items ≡ laid_parts parts base = c.lay_on.ensures.bytes in record {
      shows = λ image is. let old = inv.shows image is in (old.0 ∙ (sym laid ∙ ap (λ (l : List Part). laid_parts l c.lay_on.new.image.bytes.items) (sym c.clear.ensures.parts)), old.1);
      of_token = inv.of_token;
      of_hold_back = inv.of_hold_back;
      first = inv.first;
      last = inv.last;
      all_applied = inv.all_applied;
      few_pages = inv.few_pages;
      all_stored = ap (λ (l : List Part). min (2 ^ 64 - 1) (parts_size l)) (sym c.clear.ensures.parts);
      fits_area = subst (FitsArea g.D.Area c.self.inside.since c.self.inside.pages c.self.inside.token.token) (sym laid ∙ ap (λ (l : List Part). laid_parts l c.lay_on.new.image.bytes.items) (sym c.clear.ensures.parts)) inv.fits_area;
      short = (let n = ap (λ (l : List ℕ). length l) laid in let m = length-laid_parts parts base in let old = inv.short in omega arith);
    }
