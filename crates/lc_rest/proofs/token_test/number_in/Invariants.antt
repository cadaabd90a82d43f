use Rattle.std.proofs.Common.{◌≡◌, take}
use Rattle.std.specs.Prelude.{None}
use Rattle.lc_record.specs.Part.{number_in}
use Rattle.lc_rest.proofs.token_test.number_in.Given as goal

abbrev pub invariant-loop-lock : goal.invariant-loop-lock
invariant-loop-lock l = number_in l.segment (take l.lock-index l.whole.locks) ≡ None
