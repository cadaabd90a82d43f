use Rattle.std.proofs.Common.{◌≡◌, ◌≤◌, ◌+◌, ◌++◌, length, take, vec_len, vec_capacity}
use Rattle.lc_log_side.proofs.ended.add.Given as goal

abbrev pub invariant-loop-index : goal.invariant-loop-index
invariant-loop-index l = (l.ended.items ≡ l.initial.ended.items ++ take l.index l.words) × (vec_capacity l.ended ≡ vec_capacity l.initial.ended) × (vec_len l.ended ≡ vec_len l.initial.ended + l.index) × (l.index ≤ length l.words)
