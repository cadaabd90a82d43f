use Rattle.lc_changes.proofs.Private.{begins-apart}
use Rattle.lc_changes.proofs.Alone.{alone-step, alone-run, own-begin, own-drop, own-end, own-read, own-set, own-write}
use Rattle.lc_changes.proofs.laws.held_alone.Goals as goal

pub returns-clause-step : goal.returns-clause-step
returns-clause-step c = λ m s new event reply node thread segment t sound up step others runs held.
    alone-step m s new event reply node thread segment t sound up step others runs held

pub returns-clause-run : goal.returns-clause-run
returns-clause-run c = λ m s new events replies node thread segment t sound up run others runs held.
    alone-run m s new events replies node thread segment t sound up run others runs held

pub returns-clause-own : goal.returns-clause-own
returns-clause-own c = λ m s new node thread segment offset bytes t runs step. own-write m s new node thread segment offset bytes t runs step

pub returns-clause-read : goal.returns-clause-read
returns-clause-read c = λ m s new node thread segment offset len bytes t runs step. own-read m s new node thread segment offset len bytes t runs step

pub returns-clause-begins : goal.returns-clause-begins
returns-clause-begins c = λ m s new node thread segments reading step. own-begin m s new node thread segments reading step

pub returns-clause-sets : goal.returns-clause-sets
returns-clause-sets c = λ m s new node thread segment offset len t runs step. own-set m s new node thread segment offset len t runs step

pub returns-clause-ends : goal.returns-clause-ends
returns-clause-ends c = λ m s new node thread place words t runs step. own-end m s new node thread place words t runs step

pub returns-clause-drops : goal.returns-clause-drops
returns-clause-drops c = λ m s new node thread step. own-drop m s new node thread step

pub returns-clause-apart : goal.returns-clause-apart
returns-clause-apart c = λ m s new node thread n k segment segments reading t u sound runs lock step found.
    begins-apart m s new node thread n k segment segments reading t u sound runs lock step found
