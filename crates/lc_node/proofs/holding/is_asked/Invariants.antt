use Rattle.std.proofs.Common.{◌≡◌, drop}
use Rattle.lc_record.specs.Transaction.{is_member}
use Rattle.lc_node.proofs.holding.is_asked.Given as goal

abbrev pub invariant-loop-asked : goal.invariant-loop-asked
invariant-loop-asked l = is_member l.segment (drop l.asked-index l.segments) ≡ is_member l.segment l.segments
