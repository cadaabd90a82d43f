use Rattle.std.proofs.Common.{◌≡◌, ◌+◌, ◌≤◌, ◌++◌, length, vec_len, vec_capacity}
use Rattle.lc_record.specs.Layout.{data_len}
use Rattle.lc_record.specs.Record.{data_words}
use Rattle.lc_record.proofs.data.push_data.Given as goal

abbrev pub invariant-loop-front : goal.invariant-loop-front
invariant-loop-front l = record {
  words : l.words.items ++ data_words l.rest ≡ l.fn.words.items ++ data_words l.bytes;
  room : vec_len l.words + data_len (length l.rest) ≤ vec_capacity l.words;
  kept : vec_capacity l.fn.words ≤ vec_capacity l.words;
}

abbrev pub decreases-loop-front : goal.decreases-loop-front
decreases-loop-front l = length l.rest
