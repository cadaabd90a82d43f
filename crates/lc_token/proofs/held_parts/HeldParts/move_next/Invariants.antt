use Rattle.std.proofs.Common.{◌≡◌, ◌+◌, ◌≤◌, ◌++◌, length}
use Rattle.lc_token.specs.Backlog.{rest_of, run_of}
use Rattle.lc_token.proofs.held_parts.HeldParts.move_next.Given as goal

abbrev pub invariant-loop-part : goal.invariant-loop-part
invariant-loop-part l = record {
  room : length l.due.parts + length l.self ≤ l.due.room;
  run : l.due.parts ++ run_of l.last l.self ≡ l.fn.due.parts ++ run_of l.applied l.fn.self;
  rest : rest_of l.last l.self ≡ rest_of l.applied l.fn.self;
  numbers : l.last + length (run_of l.last l.self) ≡ l.applied + length (run_of l.applied l.fn.self);
}

abbrev pub decreases-loop-part : goal.decreases-loop-part
decreases-loop-part l = length l.self
