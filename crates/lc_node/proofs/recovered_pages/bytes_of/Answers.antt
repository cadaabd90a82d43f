use Rattle.std.proofs.Common.{◌≡◌, ℕ, ◌+◌, ◌*◌, length, ap, sym, ◌∙◌, arith}
use Rattle.std.specs.List.{flat_map}
use Rattle.lc_record.specs.Marks.{counting}
use Rattle.lc_recover.specs.Recovered.{page_of}
use Rattle.lc_node.proofs.FreshPages.{below_more, bytes_long, bytes_more}
use Rattle.lc_node.proofs.recovered_pages.bytes_of.Goals as goal

pub loop-page-init : goal.loop-page-init
loop-page-init g c = record { bytes = c.in_ok-bytes.ensures.items; long = λ page less. absurd (omega (arith, less)) }

pub loop-page-preserved : goal.loop-page-preserved
loop-page-preserved g c =
    let r = c.args.recovered.now in
    let segment = c.args.segment in
    let page = c.loop-page.page in
    let long : length (page_of r segment page).bytes ≡ 256 = ap length (sym {b = (page_of r segment page).bytes} c.page.ensures.bytes) ∙ c.page.ensures.len in
    record {
      bytes = bytes_more (λ page. (page_of r segment page).bytes) page c.extend_from_slice.new.self.items c.loop-page.bytes.items c.page.result.now c.in_ok-extend_from_slice.ensures.items c.loop-page.invariant.bytes c.page.ensures.bytes;
      long = below_more (λ page. length (page_of r segment page).bytes ≡ 256) page c.loop-page.invariant.long long;
    }

pub returns-clause-bytes : goal.returns-clause-bytes
returns-clause-bytes g c =
    let all = ap (λ h. h.pages) c.geometry-pages.ensures in
    let end : c.loop-page.page ≡ c.args.recovered.now.geometry.pages = omega (arith, all, c.loop-page-test.false, c.loop-page.auto.page-end) in
    c.loop-page.invariant.bytes ∙ ap (λ n. flat_map (λ page. (page_of c.args.recovered.now c.args.segment page).bytes) (counting 0 n)) end

pub returns-clause-long : goal.returns-clause-long
returns-clause-long g c = λ page less.
    let all = ap (λ h. h.pages) c.geometry-pages.ensures in
    c.loop-page.invariant.long page (omega (arith, all, less, c.loop-page-test.false))

pub returns-clause-short : goal.returns-clause-short
returns-clause-short g c =
    let r = c.args.recovered.now in
    let all = ap (λ h. h.pages) c.geometry-pages.ensures in
    let few = r.geometry.few_pages in
    let end : c.loop-page.page ≡ r.geometry.pages = omega (arith, all, c.loop-page-test.false, c.loop-page.auto.page-end) in
    let long : length (flat_map (λ page. (page_of r c.args.segment page).bytes) (counting 0 c.loop-page.page)) ≡ c.loop-page.page * 256 =
    bytes_long (λ page. (page_of r c.args.segment page).bytes) 0 c.loop-page.page
    (λ k within. (let same : 0 + k ≡ k = omega arith in ap (λ (n : ℕ). length (page_of r c.args.segment n).bytes) same ∙ c.loop-page.invariant.long k within)) in
    omega (arith, ap length c.loop-page.invariant.bytes, long, end, few)
