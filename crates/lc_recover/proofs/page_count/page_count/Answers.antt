use Rattle.std.proofs.Common.{ap, length, sym, ◌∙◌, List}
use Rattle.lc_model.specs.Merge.{Page}
use Rattle.lc_recover.proofs.Walks.{length-kept}
use Rattle.lc_recover.proofs.page_count.page_count.Goals as goal

pub returns-in-Some : goal.returns-in-Some
returns-in-Some c = c.len.ensures ∙ sym (length-kept c.in-Some.pages.now) ∙ sym (ap (λ (l : List Page). length l) c.in-Some.ensures.some)
