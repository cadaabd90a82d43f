use Rattle.std.proofs.Common.{◌≡◌, ◌≤◌, length, take, vec_capacity}
use Rattle.lc_committer.proofs.reading.append.Given as goal

abbrev pub invariant-loop-index : goal.invariant-loop-index
invariant-loop-index l = (l.words.items ≡ take l.index l.more) × (l.count ≤ vec_capacity l.words) × (length l.more ≡ l.count) × (l.index ≤ length l.more)
