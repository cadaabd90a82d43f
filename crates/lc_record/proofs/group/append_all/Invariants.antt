use Rattle.std.proofs.Common.{◌≡◌, ◌+◌, ◌*◌, ◌≤◌, ◌++◌, length, vec_len, vec_capacity}
use Rattle.lc_record.specs.Words.{bytes_of}
use Rattle.lc_record.proofs.group.append_all.Given as goal

abbrev pub invariant-loop-front : goal.invariant-loop-front
invariant-loop-front l = record {
  items : l.bytes.items ++ bytes_of l.rest ≡ l.fn.bytes.items ++ bytes_of l.words;
  len : vec_len l.bytes + 8 * length l.rest ≡ vec_len l.fn.bytes + 8 * length l.words;
  room : vec_capacity l.fn.bytes ≤ vec_capacity l.bytes;
}

abbrev pub decreases-loop-front : goal.decreases-loop-front
decreases-loop-front l = length l.rest
