use Rattle.std.proofs.Common.{ℕ, ◌<◌}
use Rattle.std.specs.Prelude.{nat_lt, slice_index_or}
use Rattle.lc_rest.specs.Merge.{no_record}
use Rattle.lc_rest.specs.TokenTest.{IsKeptRecord}
use Rattle.lc_rest.proofs.token_test.keeps_log.Given as goal

abbrev pub invariant-loop-k : goal.invariant-loop-k
invariant-loop-k l =
    (k : ℕ) → k < l.k
    → IsKeptRecord l.read.segment l.least l.read.token.now.clean l.read.pages l.read.holder l.read.area.now l.read.token.now.pages (nat_lt k l.stable) (slice_index_or l.log k no_record)
