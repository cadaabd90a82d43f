use Rattle.std.proofs.Common.{◌≡◌, map, take}
use Rattle.lc_model.specs.Merge.{Page, greatest}
use Rattle.lc_recover.specs.Pages.{kept_pages}
use Rattle.lc_recover.proofs.numbers.greatest_sequence.Given as goal

abbrev pub invariant-loop-page : goal.invariant-loop-page
invariant-loop-page l = l.greatest ≡ greatest (map (λ (p : Page). p.sequence) (take l.page (kept_pages l.segment)))
