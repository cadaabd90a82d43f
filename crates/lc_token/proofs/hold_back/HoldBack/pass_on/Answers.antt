use Rattle.std.proofs.Common.{sym, subst}
use Rattle.lc_token.specs.Backlog.{PassesOn}
use Rattle.lc_token.specs.declared.received.Received.TheVariants.{Applied}
use Rattle.lc_token.proofs.BacklogLemmas.{passes_on}
use Rattle.lc_token.proofs.hold_back.HoldBack.pass_on.Goals as goal

pub returns-clause-passes : goal.returns-clause-passes
returns-clause-passes c =
    subst (PassesOn c.args.seq c.args.self.now (Applied c.args.seq)) (sym c.own.ensures) (passes_on c.args.self.now c.args.seq c.requires)
