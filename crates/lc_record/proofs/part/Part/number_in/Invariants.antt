use Rattle.std.proofs.Common.{◌≡◌, drop}
use Rattle.lc_record.specs.Part.{number_in}
use Rattle.lc_record.proofs.part.Part.number_in.Given as goal

abbrev pub invariant-loop-lock : goal.invariant-loop-lock
invariant-loop-lock l = number_in l.segment (drop l.lock-index l.record.locks) ≡ number_in l.segment l.record.locks
