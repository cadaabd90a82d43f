use Rattle.std.proofs.Common.{false, slice_index_or}
use Rattle.lc_disk.proofs.StopLemmas.{Stopped}
use Rattle.lc_disk.proofs.mem_area.choose.Given as goal

abbrev pub invariant-loop-position : goal.invariant-loop-position
invariant-loop-position l = Stopped l.initial.bytes l.stable (λ i. slice_index_or l.dirty i false) l.choices l.position l.next l.bytes
