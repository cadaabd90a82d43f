use Rattle.std.proofs.Common.{sym, subst}
use Rattle.lc_token.specs.Backlog.{Ascends}
use Rattle.lc_token.proofs.BacklogLemmas.{ascends_without}
use Rattle.lc_token.proofs.hold_back.HoldBack.forget.Goals as goal

pub invariant_of-self : goal.invariant_of-self
invariant_of-self c = subst (Ascends c.self.inside.applied) (sym c.remove.ensures) (ascends_without c.self.inside.applied c.args.seq c.self.inside.kept c.self.invariant)
