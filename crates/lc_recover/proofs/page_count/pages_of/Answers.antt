use Rattle.std.proofs.Common.{◌≡◌, ℕ, [], map, arith, subst}
use Rattle.lc_record.specs.Content.{segment_of}
use Rattle.lc_model.proofs.Bytes.{segment_of-zero as segment-zero}
use Rattle.lc_recover.proofs.Walks.{pages-some, pages-none}
use Rattle.lc_recover.specs.Pages.{kept_pages}
use Rattle.lc_recover.proofs.page_count.pages_of.Goals as goal

pub returns-in_err-place-clause-none : goal.returns-in_err-place-clause-none
returns-in_err-place-clause-none c =
    let none = c.in_err-place.ensures in
    let is : 0 ≡ c.args.segment = omega (arith, none) in
    rw c.from_residual.ensures (subst (λ (n : ℕ). segment_of n (map kept_pages c.args.segments.now) ≡ []) is (segment-zero (map kept_pages c.args.segments.now)))

pub returns-clause-some : goal.returns-clause-some
returns-clause-some c = pages-some c.args.segments.now c.args.segment c.in_ok-place.place c.get.result c.in_ok-place.ensures.0 c.in_ok-place.ensures.1 c.get.ensures.lookup.3

pub returns-clause-none : goal.returns-clause-none
returns-clause-none c = pages-none c.args.segments.now c.args.segment c.in_ok-place.place c.get.result c.in_ok-place.ensures.0 c.in_ok-place.ensures.1 c.get.ensures.lookup.3
