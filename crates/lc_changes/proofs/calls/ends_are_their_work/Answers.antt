use Rattle.lc_changes.proofs.Accepting.{ends-accepted}
use Rattle.lc_changes.proofs.Reserving.{hands-its-work, hands-then-aborts}
use Rattle.lc_changes.proofs.calls.ends_are_their_work.Goals as goal

pub returns-clause-same : goal.returns-clause-same
returns-clause-same c = λ m s handed node thread images ranges t done sound runs marks writes only proper are inside shown run.
    (let x = hands-its-work m s handed node thread images ranges t done sound runs marks writes only proper are inside shown run in (x.0, x.1, x.2, x.3))

pub returns-clause-aborted : goal.returns-clause-aborted
returns-clause-aborted c = hands-then-aborts

pub returns-clause-accepted : goal.returns-clause-accepted
returns-clause-accepted c = ends-accepted
