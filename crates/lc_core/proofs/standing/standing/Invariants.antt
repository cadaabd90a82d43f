use Rattle.std.proofs.Common.{◌≡◌, Some, drop, map, take}
use Rattle.lc_token.specs.declared.token.Token.{Token}
use Rattle.lc_core.proofs.standing.standing.Given as goal

abbrev pub invariant-loop : goal.invariant-loop
invariant-loop l = record {
  rest : l.tokens.items ≡ drop l.counter l.fn.tokens.items;
  standing : l.standing.items ≡ map (λ (token : Token). Some token) (take l.counter l.fn.tokens.items);
}
