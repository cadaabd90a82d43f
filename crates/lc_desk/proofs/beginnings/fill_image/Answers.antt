use Rattle.std.proofs.Common.{◌+◌, ◌*◌, ◌≤◌, length, take, ap, ◌∙◌, arith}
use Rattle.lc_record.proofs.SegmentLemmas.{length-put}
use Rattle.lc_recover.specs.Recovered.{page_of}
use Rattle.lc_desk.proofs.Furnishing.{page_put}
use Rattle.lc_desk.proofs.beginnings.fill_image.Goals as goal

pub loop-page-preserved : goal.loop-page-preserved
loop-page-preserved g c =
    let page = c.loop-page.page in
    let old = c.loop-page.image.bytes.items in
    let items = c.page.result.now in
    let len = c.loop-page.invariant.len in
    let less = c.loop-page-test.true in
    let count = ap (λ h. h.pages) c.geometry-pages.ensures in
    let within : page * 256 + 256 ≤ length old = omega (arith, len, less, count) in
    record {
      len = ap length c.set.ensures.bytes ∙ length-put (page * 256) items old ∙ len;
      holders = c.set.ensures.holders ∙ c.loop-page.invariant.holders;
      bytes = ap (λ l. take ((page + 1) * 256) l) c.set.ensures.bytes
          ∙ page_put (λ p. (page_of c.args.recovered.now c.args.segment p).bytes) page items old c.page.ensures.len c.page.ensures.bytes within c.loop-page.invariant.bytes;
    }
