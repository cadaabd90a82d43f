use Rattle.std.proofs.Common.{◌<◌, ℕ, [], length}
use Rattle.std.specs.Prelude.{nat_lt, slice_index_or}
use Rattle.lc_rest.specs.Merge.{logs_of, record_at}
use Rattle.lc_rest.specs.TokenTest.{IsKeptRecord}
use Rattle.lc_rest.proofs.token_test.keeps_logs.Given as goal

abbrev pub invariant-loop-node : goal.invariant-loop-node
invariant-loop-node l = (n : ℕ) → n < l.node → (k : ℕ) → k < length (slice_index_or (logs_of l.logs) n [])
    → IsKeptRecord l.read.segment l.least l.read.token.now.clean l.read.pages l.read.holder l.read.area.now l.read.token.now.pages (nat_lt k (slice_index_or l.stable n 0)) (record_at (logs_of l.logs) n k)
