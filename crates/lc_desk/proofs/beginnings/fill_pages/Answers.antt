use Rattle.std.proofs.Common.{◌+◌, ◌<◌, length, take, ap, ◌∙◌, arith}
use Rattle.std.proofs.lemmas.List.{length-set}
use Rattle.lc_page.specs.PageVector.{new_entry}
use Rattle.lc_recover.specs.Recovered.{page_of}
use Rattle.lc_desk.proofs.Furnishing.{entry_put}
use Rattle.lc_desk.proofs.beginnings.fill_pages.Goals as goal

pub loop-page-preserved : goal.loop-page-preserved
loop-page-preserved g c =
    let page = c.loop-page.page in
    let old = c.loop-page.pages in
    let len = c.loop-page.invariant.len in
    let less = c.loop-page-test.true in
    let count = ap (λ h. h.pages) c.geometry-count.ensures in
    let within : page < length old = omega (arith, len, less, count) in
    record {
      len = ap length c.renew.ensures ∙ length-set old page _ ∙ len;
      entries = ap (λ l. take (page + 1) l) c.renew.ensures
          ∙ entry_put (λ p. new_entry (page_of c.args.recovered.now c.args.segment p).text) page _ old (ap new_entry c.text.ensures.text) within c.loop-page.invariant.entries;
    }
