use Rattle.std.proofs.Common.{true≢false, sym, refl}
use Rattle.lc_token.specs.KnownClean.{known}
use Rattle.lc_token.specs.Reset.{IsAbove}
use Rattle.lc_token.proofs.LeastLemmas.{refuses, allows}
use Rattle.lc_token.proofs.reset.may_reset_kept.Goals as goal

pub returns-in-Some-clause-unclean : goal.returns-in-Some-clause-unclean
returns-in-Some-clause-unclean c = refuses (IsAbove c.args.words.now (known c.args.known.now)) c.in-Some.least c.in-Some.ensures

pub returns-in-Some-clause-clean : goal.returns-in-Some-clause-clean
returns-in-Some-clause-clean c = (
  λ wrong. absurd (true≢false (sym wrong)),
  λ nothing. absurd (nothing c.in-Some.least.segment c.in-Some.least.seq c.in-Some.ensures.is),
)

pub returns-clause-unclean : goal.returns-clause-unclean
returns-clause-unclean c = allows (IsAbove c.args.words.now (known c.args.known.now)) c.in_default.ensures

pub returns-clause-clean : goal.returns-clause-clean
returns-clause-clean c = (λ _. c.in_default.ensures, λ _. refl)
