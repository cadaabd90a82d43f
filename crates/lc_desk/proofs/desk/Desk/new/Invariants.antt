use Rattle.std.proofs.Common.{◌≡◌}
use Rattle.std.specs.Prelude.{replicate}
use Rattle.lc_desk.specs.Seat.{Free}
use Rattle.lc_desk.proofs.desk.Desk.new.Given as goal

abbrev pub invariant-loop : goal.invariant-loop
invariant-loop l = l.seats.items ≡ replicate l.counter Free
