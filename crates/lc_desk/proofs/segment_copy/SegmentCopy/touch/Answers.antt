use Rattle.std.proofs.Common.{◌≡◌, ◌+◌, ◌<◌, ◌∙◌, ap, sym, arith, length, min, subst}
use Rattle.std.specs.Prelude.{MatchOption, Option, IsSomeAnd}
use Rattle.std.specs.Int.{div_ceil}
use Rattle.std.proofs.lemmas.Option.{same_Some as same_some}
use Rattle.lc_token.specs.declared.token.Token.{Token}
use Rattle.lc_desk.specs.Counts.{TouchesSlot}
use Rattle.lc_desk.specs.declared.segment_copy.SegmentCopy.{SegmentCopy}
use Rattle.lc_desk.proofs.Touching.{touching_step, touching_end}
use Rattle.lc_desk.proofs.segment_copy.SegmentCopy.touch.Goals as goal

pub touch-requires : goal.touch-requires
touch-requires c =
    let h = c.loop-page.invariant.0 c.in-Some.token.now (sym c.in-Some.ensures.token) in
    let among : c.loop-page.page < length h.after.pages = omega (arith, h.between.same_count, c.loop-page-test.true, c.min-behind.ensures, c.len.ensures, ap length c.pages.ensures) in
    subst (λ (o : Option Token). IsSomeAnd o (λ t. c.loop-page.page < length t.pages)) (sym (ap (λ (s : SegmentCopy). s.token.token) h.slot_is)) among

pub loop-page-preserved : goal.loop-page-preserved
loop-page-preserved c = (
  λ x is.
      let same : x ≡ c.in-Some.token.now = same_some _ _ (sym is ∙ sym c.in-Some.ensures.token) in
      let among : c.loop-page.page < length x.pages = omega (arith, ap (λ (t : Token). length t.pages) same, c.loop-page-test.true, c.min-behind.ensures, c.len.ensures, ap length c.pages.ensures) in
      touching_step _ _ x c.args.self.now c.loop-page.self c.touch.new.self (c.loop-page.invariant.0 x is) c.loop-page.auto.page among c.touch.ensures,
  λ _. omega (arith, c.loop-page-test.true, c.min-behind.ensures, c.div_ceil.ensures),
)

pub returns : goal.returns
returns c =
    let token = c.in-Some.token.now in
    let h = c.loop-page.invariant.0 token (sym c.in-Some.ensures.token) in
    let is : c.min-behind.result ≡ min (div_ceil (c.args.offset + c.args.len) 256) (length token.pages) = omega (arith, c.min-behind.ensures, c.div_ceil.ensures, c.len.ensures, ap length c.pages.ensures) in
    subst
    (λ (o : Option Token). MatchOption o (c.loop-page.self ≡ c.args.self.now) (λ token. TouchesSlot c.args.offset c.args.len token c.args.self.now c.loop-page.self))
    c.in-Some.ensures.token
    (touching_end c.args.offset c.args.len c.min-behind.result c.loop-page.page token c.args.self.now c.loop-page.self h c.loop-page.invariant.1 is c.loop-page-test.false)
