use Rattle.std.proofs.Common.{refl, inr, arith}
use Rattle.lc_token.proofs.TokenLemmas.{least_stable}
use Rattle.lc_token.proofs.token.Token.written.Goals as goal

pub returns-then-is_older_behind : goal.returns-then-is_older_behind
returns-then-is_older_behind c =
    let least = least_stable c.settle.new.self c.args.self.now.clean (c.is_older_behind.ensures c.if-is_older_behind.true) in
    record {
      pages = c.settle.ensures;
      reached = least.0;
      is_reached = inr least.1;
      clean = omega (arith, least.2);
      segment = refl;
      seq = refl;
    }
