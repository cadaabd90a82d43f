use Rattle.std.proofs.Common.{[]}
use Rattle.std.proofs.lemmas.Result.{MatchResult-weaker}
use Rattle.lc_heap.specs.Calls.{IsOpen}
use Rattle.lc_heap.specs.Heap.{done}
use Rattle.lc_heap.proofs.Walks.{faulty}
use Rattle.lc_heap.proofs.allocating.allocate.Goals as goal

pub returns-in-Ok : goal.returns-in-Ok
returns-in-Ok c =
    let opened : IsOpen c.args.bytes.now 8 = ((c.in-Ok.ensures.uses, c.in-Ok.ensures.heap), ([], done)) in
    MatchResult-weaker c.allocate_from.result c.allocate_from.ensures (λ given said. said opened) (λ fault said. said opened)

pub returns-in-Err : goal.returns-in-Err
returns-in-Err c = faulty c.in-Err.ensures
