use Rattle.std.proofs.Common.{◌≡◌, ◌≤◌, ◌+◌, ◌*◌, ◌++◌, length, vec_capacity}
use Rattle.lc_record.specs.Words.{words_of}
use Rattle.lc_recover.proofs.words.fill_words.Given as goal

abbrev pub invariant-loop-rest : goal.invariant-loop-rest
invariant-loop-rest l = record {
  all : l.words.items ++ words_of l.rest ≡ words_of l.bytes;
  within : length l.rest ≤ length l.bytes;
  room : length l.words.items * 8 + length l.rest ≤ vec_capacity l.words * 8 + 7;
}

abbrev pub decreases-loop-rest : goal.decreases-loop-rest
decreases-loop-rest l = length l.rest
