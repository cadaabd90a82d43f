use Rattle.std.proofs.Common.{◌≡◌, ◌∙◌, sym, subst, All, ℕ}
use Rattle.std.specs.Prelude.{Some}
use Rattle.lc_record.specs.declared.record.RangeData.{RangeData}
use Rattle.lc_rest.specs.TokenTest.{IsKeptRange, IsOnItsSide}
use Rattle.lc_rest.proofs.token_test.keeps_record.Goals as goal

pub returns-then-keeps_number : goal.returns-then-keeps_number
returns-then-keeps_number c = (
  λ e number is.
      (let both : Some c.in-Some.number ≡ Some number = sym c.in-Some.is ∙ c.number_in.ensures ∙ is in
      let same : c.in-Some.number ≡ number = cc in
      subst (λ (n : ℕ). IsOnItsSide c.args.least c.args.read.now.holder c.args.stable c.args.whole.now.node n
      × All (λ (range : RangeData). range.segment ≡ c.args.read.now.segment → IsKeptRange n c.args.read.now.token.now.clean c.args.read.now.pages c.args.read.now.area.now c.args.read.now.token.now.pages range) c.args.whole.now.ranges)
      same (c.keeps_number.ensures.0 c.if-keeps_number.true, c.keeps_ranges.ensures.0 e)),
  λ kept. c.keeps_ranges.ensures.1 (kept c.in-Some.number (sym c.number_in.ensures ∙ c.in-Some.is)).1,
)
