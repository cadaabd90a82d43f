use Rattle.std.proofs.Common.{◌≡◌, take}
use Rattle.lc_record.specs.Words.{bytes_of}
use Rattle.lc_tool.proofs.commands.log_bytes.Given as goal

abbrev pub invariant-loop-word : goal.invariant-loop-word
invariant-loop-word l = l.bytes.items ≡ bytes_of (take l.word-index l.words)
