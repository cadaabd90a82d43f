use Rattle.std.proofs.Common.{◌≡◌, ◌+◌, ◌*◌, ◌-◌, take, drop, List, ℕ, ap, arith, ◌∙◌}
use Rattle.lc_recover.proofs.segment_pages.SegmentPages.page.Goals as goal

pub returns-clause-bytes : goal.returns-clause-bytes
returns-clause-bytes c =
    let len : c.args.page * 256 + 256 - c.args.page * 256 ≡ 256 = omega arith in
    ap (λ (n : ℕ). take n (drop (c.args.page * 256) c.deref.result.now)) len
    ∙ ap (λ (l : List ℕ). take 256 (drop (c.args.page * 256) l)) c.deref.ensures.value
