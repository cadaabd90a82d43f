use Rattle.std.proofs.Common.{◌≡◌, drop}
use Rattle.lc_record.specs.Part.{number_in}
use Rattle.lc_events.proofs.token_moves.number_in.Given as goal

abbrev pub invariant-loop-index : goal.invariant-loop-index
invariant-loop-index l = number_in l.segment (drop l.index l.view.locks) ≡ number_in l.segment l.view.locks
