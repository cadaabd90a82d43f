use Rattle.std.proofs.Common.{rules, ◌≡◌, ◌+◌, ◌∷◌, [], ◌++◌, None, ap, ◌∙◌, arith}
use Rattle.lc_record.specs.declared.part.Part.{Part}
use Rattle.lc_segments.specs.Growing.{part_size, parts_size}
use Rattle.lc_applied.specs.AppliedParts.{laid_parts}
use Rattle.lc_segments.proofs.CatchingUp.{fits_elsewhere}
use Rattle.lc_segments.proofs.Stored.{parts_size_more}
use Rattle.lc_segments.proofs.seg_side.SegSide.lay_part.Goals as goal

pub invariant_of-self : goal.invariant_of-self
invariant_of-self g c = let inv = c.self.invariant in let old = c.self.inside in let part : Part = c.args.part in
    let items : c.push.new.self.parts ≡ old.applied.parts ++ part ∷ [] = search rules in
    let lent : old.image ≡ None = search rules in
    let none : old.token.token ≡ None = search rules in
    record {
      shows = λ image is_some. absurd cc;
      of_token = inv.of_token;
      of_hold_back = inv.of_hold_back;
      first = inv.first;
      last = inv.last;
      all_stored = (let was = inv.all_stored in let size = c.size_of_part-size.ensures in let sum = c.saturating_add-self-inside.ensures in
          let more : parts_size c.push.new.self.parts ≡ parts_size old.applied.parts + part_size part = ap parts_size items ∙ parts_size_more old.applied.parts part in omega arith);
      short = inv.short;
      all_applied = inv.all_applied;
      few_pages = inv.few_pages;
      fits_area = fits_elsewhere g.D.Area old.since old.pages old.token.token (laid_parts old.applied.parts old.base.bytes.items) (laid_parts c.push.new.self.parts old.base.bytes.items) none inv.fits_area;
    }
