use Rattle.std.proofs.Common.{◌≡◌, ◌≤◌, ◌++◌, ◌+◌, length}
use Rattle.lc_line.specs.Ends.{rest_of}
use Rattle.lc_cluster.specs.Closing.{Grows}
use Rattle.lc_cluster.specs.Messages.{tokens_among}
use Rattle.lc_cluster.proofs.closing_lines.drain.Given as goal

abbrev pub invariant-loop : goal.invariant-loop
invariant-loop g l = record {
  room : length (rest_of l.rest) + l.counter ≤ 64;
  grows : Grows l.initial.tokens.items l.tokens.items;
  tokens : l.tokens.items ++ tokens_among (rest_of l.rest) ≡ l.initial.tokens.items ++ tokens_among (rest_of l.fn.rest);
}
