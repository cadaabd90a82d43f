use Rattle.std.proofs.Common.{[]}
use Rattle.lc_rest.proofs.Following.{node-part, turns-follow}
use Rattle.lc_rest.proofs.laws.merged_in_order.Goals as goal

pub returns-clause-follow : goal.returns-clause-follow
returns-clause-follow c = λ g logs numbers turns. turns-follow g logs numbers [] turns

pub returns-clause-each : goal.returns-clause-each
returns-clause-each c = λ logs n turns. node-part logs n [] turns
