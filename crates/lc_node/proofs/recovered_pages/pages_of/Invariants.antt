use Rattle.std.proofs.Common.{◌≡◌, ℕ, ◌<◌, ◌≤◌, map}
use Rattle.lc_record.specs.Marks.{counting}
use Rattle.lc_recover.specs.Recovered.{page_of, sequence_of}
use Rattle.lc_node.proofs.recovered_pages.pages_of.Given as goal

abbrev pub invariant-loop-page : goal.invariant-loop-page
invariant-loop-page g l = record {
  texts : l.texts.items ≡ map (λ page. (page_of l.recovered l.segment page).text) (counting 0 l.page);
  within : (page : ℕ) → page < l.page → (page_of l.recovered l.segment page).text.seq ≤ sequence_of l.recovered l.segment;
}
