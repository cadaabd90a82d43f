use Rattle.std.proofs.Common.{arith, length, refl, ap, ◌∙◌}
use Rattle.std.specs.Prelude.{slice_set}
use Rattle.lc_page.specs.PageVector.{new_entry}
use Rattle.lc_page.specs.declared.page_text.PageText.{PageText}
use Rattle.lc_recover.proofs.Filling.{filled-none, filled-more, filled-all}
use Rattle.lc_recover.proofs.segment_pages.SegmentPages.fill.Goals as goal

pub loop-page-init : goal.loop-page-init
loop-page-init c = filled-none c.args.area.now (length c.args.self.now.texts) c.args.self.now refl c.requires.room

pub renew-requires : goal.renew-requires
renew-requires c = omega (arith, c.loop-page.invariant.count, c.loop-page-test.true, c.requires.few)

pub loop-page-preserved : goal.loop-page-preserved
loop-page-preserved c =
    filled-more c.args.area.now (length c.args.self.now.texts) c.loop-page.page c.loop-page.self c.put.new.self c.page_bytes.result.now c.loop-page.invariant (omega (arith, c.loop-page-test.true, c.len-page-end.ensures))
    (c.put.ensures.texts ∙ c.renew.ensures ∙ ap (λ (t : PageText). slice_set c.loop-page.self.texts c.loop-page.page (new_entry t)) c.read_page.ensures.text)
    c.put.ensures.bytes c.page_bytes.ensures.len c.page_bytes.ensures.bytes

pub returns : goal.returns
returns c = filled-all c.args.area.now (length c.args.self.now.texts) c.loop-page.page c.loop-page.self (omega (arith, c.loop-page-test.false, c.len-page-end.ensures)) c.loop-page.invariant
