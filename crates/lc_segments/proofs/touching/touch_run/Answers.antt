use Rattle.std.proofs.Common.{◌≡◌, ◌<◌, ◌+◌, ◌*◌, ◌∙◌, ap, sym, subst, length, arith, Option, Some}
use Rattle.std.proofs.lemmas.Option.{same_Some as some_same}
use Rattle.std.specs.Option.{IsSomeAnd, option_copied}
use Rattle.lc_record.proofs.ListLemmas.{length-counting}
use Rattle.lc_segments.specs.Touched.{range_at}
use Rattle.lc_token.specs.Standing.{Standing}
use Rattle.lc_token.specs.declared.token.Token.{Token}
use Rattle.lc_segments.proofs.TouchedPages.{touched_empty, touching_start, touching_step, touching_end}
use Rattle.lc_segments.proofs.touching.touch_run.Goals as goal

pub returns-then-run-eq0 : goal.returns-then-run-eq0
returns-then-run-eq0 c = λ t is.
    touched_empty (range_at c.args.run.now) t c.args.place.now (length-counting 0 c.args.run.now.len ∙ c.if-run-eq0.true) is

pub loop-page-init : goal.loop-page-init
loop-page-init c = λ t is. touching_start (range_at c.args.run.now) _ t c.args.place.now (omega arith) is

pub touch-requires : goal.touch-requires
touch-requires c =
    let here : Some c.unwrap.result.now ≡ c.args.place.now.token = ap option_copied (sym c.unwrap.ensures) ∙ c.token.ensures.token in
    let h = c.loop-page.invariant c.unwrap.result.now (sym here) in
    let among : c.loop-page.page < length h.pages = omega (arith, h.touched.same_count, c.loop-page-test.true, c.min-behind.ensures, c.len-pages.ensures, ap length c.pages.ensures) in
    subst (λ (o : Option Token). IsSomeAnd o (λ t. c.loop-page.page < length t.pages)) (sym (ap (λ (p : Standing). p.token) h.is)) among

pub loop-page-preserved : goal.loop-page-preserved
loop-page-preserved c = λ t is.
    let range = range_at c.args.run.now in let long : length range.bytes ≡ c.args.run.now.len = length-counting 0 c.args.run.now.len in let page = c.loop-page.page in
    let here : Some c.unwrap.result.now ≡ c.args.place.now.token = ap option_copied (sym c.unwrap.ensures) ∙ c.token.ensures.token in
    let some : 0 < length range.bytes = omega (arith, c.if-run-eq0.false, long) in
    let begins : range.offset < page * 256 + 256 = omega arith in
    let ends : page * 256 < range.offset + length range.bytes = omega (arith, c.loop-page-test.true, c.min-behind.ensures, c.div_ceil.ensures, long) in
    let same : c.unwrap.result.now ≡ t = some_same _ _ (here ∙ is) in
    let among : page < length t.pages = omega (arith, ap (λ (t : Token). length t.pages) same, c.loop-page-test.true, c.min-behind.ensures, c.len-pages.ensures, ap length c.pages.ensures) in
    touching_step range page t c.args.place.now c.loop-page.place c.touch.new.self (c.loop-page.invariant t is) some begins ends among c.touch.ensures

pub returns : goal.returns
returns c = λ t is.
    let range = range_at c.args.run.now in let long : length range.bytes ≡ c.args.run.now.len = length-counting 0 c.args.run.now.len in let page = c.loop-page.page in
    let here : Some c.unwrap.result.now ≡ c.args.place.now.token = ap option_copied (sym c.unwrap.ensures) ∙ c.token.ensures.token in
    let same : c.unwrap.result.now ≡ t = some_same _ _ (here ∙ is) in
    let count : length c.unwrap.result.now.pages ≡ length t.pages = ap (λ (t : Token). length t.pages) same in
    touching_end range page t c.args.place.now c.loop-page.place (c.loop-page.invariant t is) (λ q le among. omega (arith, c.loop-page-test.false, c.min-behind.ensures, c.div_ceil.ensures, c.len-pages.ensures, ap length c.pages.ensures, count, long))
