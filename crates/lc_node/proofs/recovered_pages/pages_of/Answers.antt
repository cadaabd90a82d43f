use Rattle.std.proofs.Common.{rules, ◌≡◌, ℕ, ◌<◌, ◌≤◌, map, ap, subst, ◌∙◌, arith}
use Rattle.lc_record.specs.Marks.{counting}
use Rattle.lc_page.specs.declared.page_text.PageText.{PageText}
use Rattle.lc_recover.specs.Recovered.{page_of, sequence_of}
use Rattle.lc_node.specs.Fresh.{segment_texts}
use Rattle.lc_node.proofs.FreshPages.{below_more, items_more}
use Rattle.lc_node.proofs.recovered_pages.pages_of.Goals as goal

pub loop-page-init : goal.loop-page-init
loop-page-init g c = record { texts = c.in_ok-texts.ensures.items; within = λ page less. absurd (omega (arith, less)) }

pub loop-page-preserved : goal.loop-page-preserved
loop-page-preserved g c =
    let r = c.args.recovered.now in
    let segment = c.args.segment in
    let page = c.loop-page.page in
    let here : (page_of r segment page).text.seq ≤ sequence_of r segment =
    subst (λ (t : PageText). t.seq ≤ sequence_of r segment) {y = (page_of r segment page).text} c.text.ensures.text c.text.ensures.within in
    record {
      texts = items_more (λ page. (page_of r segment page).text) page c.push.new.self.items c.loop-page.texts.items c.text.result c.in_ok-push.ensures.items c.loop-page.invariant.texts c.text.ensures.text;
      within = below_more (λ page. (page_of r segment page).text.seq ≤ sequence_of r segment) page c.loop-page.invariant.within here;
    }

pub returns-clause-pages : goal.returns-clause-pages
returns-clause-pages g c =
    let all = ap (λ h. h.pages) c.geometry-pages.ensures in
    let end : c.loop-page.page ≡ c.args.recovered.now.geometry.pages = omega (arith, all, c.loop-page-test.false, c.loop-page.auto.page-end) in
    let texts : c.as_slice.result.now ≡ segment_texts c.args.recovered.now c.args.segment =
    c.as_slice.ensures.value ∙ c.loop-page.invariant.texts ∙ ap (λ n. map (λ page. (page_of c.args.recovered.now c.args.segment page).text) (counting 0 n)) end in
    rw texts at c.new.ensures.entries

pub returns-clause-within : goal.returns-clause-within
returns-clause-within g c =
    let all = ap (λ h. h.pages) c.geometry-pages.ensures in
    let within : (page : ℕ) → page < c.args.recovered.now.geometry.pages → (page_of c.args.recovered.now c.args.segment page).text.seq ≤ sequence_of c.args.recovered.now c.args.segment =
    λ page less. c.loop-page.invariant.within page (omega (arith, all, less, c.loop-page-test.false)) in
    search rules
