use Rattle.std.proofs.Common.{◌≡◌, ◌*◌, min, take, vec_len}
use Rattle.lc_record.specs.Words.{bytes_of}
use Rattle.lc_record.proofs.data.read_data.Given as goal

abbrev pub invariant-loop-word : goal.invariant-loop-word
invariant-loop-word l = record {
  items : l.bytes.items ≡ take l.len (bytes_of (take l.word-index l.words));
  count : vec_len l.bytes ≡ min l.len (8 * l.word-index);
}
