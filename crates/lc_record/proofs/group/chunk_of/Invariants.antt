use Rattle.std.proofs.Common.{◌≡◌, take}
use Rattle.lc_record.proofs.GroupLemmas.{filled}
use Rattle.lc_record.proofs.group.chunk_of.Given as goal

abbrev pub invariant-loop-index : goal.invariant-loop-index
invariant-loop-index l = l.chunk ≡ filled (take l.index l.words)
