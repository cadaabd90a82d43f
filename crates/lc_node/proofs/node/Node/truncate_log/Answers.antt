use Rattle.std.proofs.Common.{Bool, sym, refl, subst}
use Rattle.lc_node.specs.Trimming.{ForgetsAlone}
use Rattle.lc_node.proofs.node.Node.truncate_log.Goals as goal

pub returns-then-self-clause-truncated : goal.returns-then-self-clause-truncated
returns-then-self-clause-truncated g c = (c.truncate.new.self, c.in_ok-round.ensures.truncated, subst (λ (b : Bool). ForgetsAlone b c.truncate.new.self c.forget_ended.new.self) (sym c.if-self.true) c.forget_ended.ensures.forgets)

pub returns-else-self-clause-truncated : goal.returns-else-self-clause-truncated
returns-else-self-clause-truncated g c = (c.truncate.new.self, c.in_ok-round.ensures.truncated, subst (λ (b : Bool). ForgetsAlone b c.truncate.new.self c.truncate.new.self) (sym c.if-self.false) refl)
