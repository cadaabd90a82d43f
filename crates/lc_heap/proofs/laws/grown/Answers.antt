use Rattle.lc_heap.proofs.Growth.{new_is_free, still_heap}
use Rattle.lc_heap.proofs.laws.grown.Goals as goal

pub returns-clause-heap : goal.returns-clause-heap
returns-clause-heap c bytes words uses heap few = still_heap bytes words uses heap few

pub returns-clause-room : goal.returns-clause-room
returns-clause-room c bytes words = new_is_free bytes words
