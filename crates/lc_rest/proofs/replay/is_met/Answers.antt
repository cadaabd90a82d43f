use Rattle.std.proofs.Common.{◌≡◌, ◌+◌, ◌-◌, ◌*◌, ℕ, true, take, drop, sym, ◌∙◌, ap, arith, rules}
use Rattle.lc_page.specs.Page.{page_in}
use Rattle.lc_page.specs.declared.page_text.PageText.{PageText}
use Rattle.lc_rest.specs.Replay.{part_at}
use Rattle.lc_rest.proofs.replay.is_met.Goals as goal

pub returns : goal.returns
returns c =
    let start : ℕ = c.args.page * 256 in
    let width : start + 256 - start ≡ 256 = omega arith in
    let one : c.eq.result ≡ true → c.page_bytes.result.now ≡ take (c.args.page * 256 + 256 - c.args.page * 256) (drop (c.args.page * 256) c.args.bytes.now) = search rules in
    let two : c.page_bytes.result.now ≡ take (c.args.page * 256 + 256 - c.args.page * 256) (drop (c.args.page * 256) c.args.bytes.now) → c.eq.result ≡ true = search rules in
    let part : take (start + 256 - start) (drop start c.args.bytes.now) ≡ part_at c.args.page c.args.bytes.now = ap (λ n. take n (drop start c.args.bytes.now)) width in
    let here : (page_in c.args.area.now c.args.page).sequence ≡ c.args.number = sym (ap (λ (text : PageText). text.seq) c.read_page.ensures.text) ∙ c.if-read_page-number.false in (
      λ e same. sym c.page_bytes.ensures.bytes ∙ one e ∙ part,
      λ holds. two (c.page_bytes.ensures.bytes ∙ holds here ∙ sym part),
    )
