use Rattle.std.proofs.Common.{◌≡◌, rules, sym, subst}
use Rattle.lc_disk.specs.contracts.mem_area.MemAreaArea as memory
use Rattle.lc_recover.specs.Recovered.{AreFinished}
use Rattle.lc_tests_node.proofs.failures.opened_again.Goals as goal

pub open-requires-2-clause-finished : goal.open-requires-2-clause-finished
open-requires-2-clause-finished c = let same : c.in-Err.store ≡ c.in_ok-store.store = search rules in
    subst (AreFinished memory.TheImpl.ghosts) (sym same) c.in_ok-store.ensures.finished
