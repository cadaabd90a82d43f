use Rattle.std.proofs.Common.{◌≡◌, ℕ, ◌<◌, length}
use Rattle.std.specs.List.{flat_map}
use Rattle.lc_record.specs.Marks.{counting}
use Rattle.lc_recover.specs.Recovered.{page_of}
use Rattle.lc_node.proofs.recovered_pages.bytes_of.Given as goal

abbrev pub invariant-loop-page : goal.invariant-loop-page
invariant-loop-page g l = record {
  bytes : l.bytes.items ≡ flat_map (λ page. (page_of l.recovered l.segment page).bytes) (counting 0 l.page);
  long : (page : ℕ) → page < l.page → length (page_of l.recovered l.segment page).bytes ≡ 256;
}
