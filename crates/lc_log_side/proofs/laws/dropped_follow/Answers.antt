use Rattle.lc_log_side.proofs.Leaving.{drops-chain, drops-follow, drops-counted}
use Rattle.lc_log_side.proofs.laws.dropped_follow.Goals as goal

pub returns-clause-chain : goal.returns-clause-chain
returns-clause-chain c = drops-chain

pub returns-clause-follow : goal.returns-clause-follow
returns-clause-follow c = drops-follow

pub returns-clause-counted : goal.returns-clause-counted
returns-clause-counted c = drops-counted
