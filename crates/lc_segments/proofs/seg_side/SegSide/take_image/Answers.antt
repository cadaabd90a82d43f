use Rattle.std.proofs.Common.{rules, ◌≡◌, ℕ, List, length, ap, arith}
use Rattle.lc_segments.proofs.Laying.{length-laid_parts}
use Rattle.lc_segments.proofs.seg_side.SegSide.take_image.Goals as goal

pub returns-clause-short : goal.returns-clause-short
returns-clause-short g c = let inside = c.self.inside in
    let shown : c.unwrap.result.bytes.items ≡ _ = (c.self.invariant.shows c.unwrap.result (search rules)).0 in
    let n = ap (λ (l : List ℕ). length l) shown in let m = length-laid_parts inside.applied.parts inside.base.bytes.items in let s = c.self.invariant.short in omega arith
