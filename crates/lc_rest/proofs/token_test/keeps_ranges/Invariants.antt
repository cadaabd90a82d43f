use Rattle.std.proofs.Common.{◌≡◌, All, take}
use Rattle.lc_record.specs.declared.record.RangeData.{RangeData}
use Rattle.lc_rest.specs.TokenTest.{IsKeptRange}
use Rattle.lc_rest.proofs.token_test.keeps_ranges.Given as goal

abbrev pub invariant-loop-range : goal.invariant-loop-range
invariant-loop-range l =
    All (λ (range : RangeData). range.segment ≡ l.read.segment → IsKeptRange l.number l.read.token.now.clean l.read.pages l.read.area.now l.read.token.now.pages range) (take l.range-index l.whole.ranges)
