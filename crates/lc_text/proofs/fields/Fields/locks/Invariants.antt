use Rattle.std.proofs.Common.{◌≡◌, ◌≤◌, length}
use Rattle.lc_text.specs.Line.{words, all_locks}
use Rattle.lc_text.proofs.Items.{with_locks}
use Rattle.lc_text.proofs.fields.Fields.locks.Given as goal

abbrev pub invariant-loop-word : goal.invariant-loop-word
invariant-loop-word l = record {
  read : with_locks (l.segments.items, l.reading.items) (all_locks (words l.self.rest.now)) ≡ all_locks (words l.fn.self.rest.now);
  fewer : length (words l.self.rest.now) ≤ length (words l.fn.self.rest.now);
}

abbrev pub decreases-loop-word : goal.decreases-loop-word
decreases-loop-word l = length l.self.rest.now
