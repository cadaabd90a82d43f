use Rattle.std.proofs.Common.{◌∙◌, ◌<◌, ◌≤◌, List, ℕ, ap, ap₂, sym, arith, map, max, length}
use Rattle.std.proofs.lemmas.List.{take_all}
use Rattle.lc_model.specs.Merge.{Page, greatest}
use Rattle.lc_recover.specs.Pages.{kept_pages}
use Rattle.lc_recover.proofs.Walks.{length-kept}
use Rattle.lc_recover.proofs.Counts.{greatest-next, max-is}
use Rattle.lc_recover.proofs.numbers.greatest_sequence.Goals as goal

pub loop-page-preserved : goal.loop-page-preserved
loop-page-preserved c =
    let within : c.loop-page.page < length c.args.segment.now.texts = omega arith in
    c.max-greatest.ensures ∙ max-is c.loop-page.greatest c.stable.result ∙ ap₂ (λ (a b : ℕ). max a b) c.loop-page.invariant c.stable.ensures
    ∙ sym (greatest-next c.args.segment.now c.loop-page.page within)

pub returns : goal.returns
returns c =
    let past : length (kept_pages c.args.segment.now) ≤ c.loop-page.page = omega (arith, length-kept c.args.segment.now) in
    c.loop-page.invariant ∙ ap (λ (l : List Page). greatest (map (λ (p : Page). p.sequence) l)) (take_all c.loop-page.page (kept_pages c.args.segment.now) past)
