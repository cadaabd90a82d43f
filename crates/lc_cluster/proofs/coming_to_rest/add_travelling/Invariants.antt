use Rattle.std.proofs.Common.{◌≡◌, ◌≤◌, ◌+◌, ◌++◌, All, drop, take, map, vec_len, vec_capacity}
use Rattle.lc_segments.specs.LeftBy.{IsSettledPart, token_sent}
use Rattle.lc_cluster.proofs.coming_to_rest.add_travelling.Given as goal

abbrev pub invariant-loop : goal.invariant-loop
invariant-loop g l = record {
  left : l.journeys.items ≡ drop l.counter l.fn.journeys.items;
  count : vec_len l.tokens ≡ vec_len l.fn.tokens + l.counter;
  fit : vec_len l.fn.tokens + vec_len l.fn.journeys ≤ vec_capacity l.tokens;
  tokens : l.tokens.items ≡ l.fn.tokens.items ++ map token_sent (take l.counter l.fn.journeys.items);
  settled : All (IsSettledPart g.D.Area) l.tokens.items;
}
