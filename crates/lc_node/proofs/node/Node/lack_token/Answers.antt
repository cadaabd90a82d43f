use Rattle.std.proofs.Common.{rules, ◌≡◌, true, false, refl, sym, ◌∙◌}
use Rattle.lc_node.specs.Logs.{IsLogOf}
use Rattle.lc_node.proofs.node.Node.lack_token.Goals as goal

pub returns-then-is_halted-clause-lacks : goal.returns-then-is_halted-clause-lacks
returns-then-is_halted-clause-lacks g c =
    let log = c.lock-log.result.0 in
    let own : IsLogOf c.args.self.now log = search rules in
    let halted : log.is_halted ≡ true = sym c.is_halted-is_halted.ensures ∙ c.if-is_halted.true in
    record { log = log; own = own; halted = (λ _. halted, λ _. refl); not_here = (λ e. cc, λ serves. cc) }

pub returns-clause-lacks : goal.returns-clause-lacks
returns-clause-lacks g c =
    let log = c.lock-log.result.0 in
    let own : IsLogOf c.args.self.now log = search rules in
    let serves : log.is_halted ≡ false = sym c.is_halted-is_halted.ensures ∙ c.if-is_halted.false in
    record { log = log; own = own; halted = (λ e. cc, λ halted. cc); not_here = (λ _. serves, λ _. refl) }
