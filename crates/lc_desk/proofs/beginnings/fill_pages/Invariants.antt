use Rattle.std.proofs.Common.{◌≡◌, length, take, map}
use Rattle.lc_page.specs.PageVector.{new_entry}
use Rattle.lc_record.specs.Marks.{counting}
use Rattle.lc_recover.specs.Recovered.{page_of}
use Rattle.lc_desk.proofs.beginnings.fill_pages.Given as goal

abbrev pub invariant-loop-page : goal.invariant-loop-page
invariant-loop-page g l = record {
  len : length l.pages ≡ l.recovered.geometry.pages;
  entries : take l.page l.pages ≡ map (λ page. new_entry (page_of l.recovered l.segment page).text) (counting 0 l.page);
}
