use Rattle.std.proofs.Common.{◌≡◌, ◌<◌, ℕ, zero, suc, List, [], ◌∷◌, length, get_or, ap, sym, ◌∙◌, inl, inr, arith, rules}
use Rattle.lc_record.specs.Record.{Writes}
use Rattle.lc_record.specs.declared.record.RangeData.{RangeData}
use Rattle.lc_record.proofs.part.ranges_of.Goals as goal

-- a range that is of the segment writes it
writes-at : (segment : ℕ) (ranges : List RangeData) (i : ℕ) (range : RangeData) → i < length ranges → range ≡ get_or ranges i range → range.segment ≡ segment → Writes segment ranges
writes-at segment [] i range within is same = absurd (omega (arith, within))
writes-at segment (r ∷ ranges) zero range within is same = inl (ap (λ (x : RangeData). x.segment) (sym is) ∙ same)
writes-at segment (r ∷ ranges) (suc i) range within is same = inr (writes-at segment ranges i range (omega (arith, within)) is same)

pub returns-in_err-copy_of-clause-memory : goal.returns-in_err-copy_of-clause-memory
returns-in_err-copy_of-clause-memory c =
    let writes : Writes c.args.segment c.args.ranges.now = writes-at c.args.segment c.args.ranges.now c.loop-range.range-index c.range-item.result c.loop-range-test.true c.range-item.is c.if-range-segment.true in
    search rules

pub returns-in_err-push-clause-memory : goal.returns-in_err-push-clause-memory
returns-in_err-push-clause-memory c =
    let writes : Writes c.args.segment c.args.ranges.now = writes-at c.args.segment c.args.ranges.now c.loop-range.range-index c.range-item.result c.loop-range-test.true c.range-item.is c.if-range-segment.true in
    search rules
