use Rattle.std.proofs.Common.{rules, sym}
use Rattle.lc_node.specs.Logs.{IsLogOf}
use Rattle.lc_node.proofs.node.Node.stable_words.Goals as goal

pub returns : goal.returns
returns g c =
    let log = c.lock-log.result.0 in
    let own : IsLogOf c.args.self.now log = search rules in
    record { log = log; own = own; words = sym c.stable_words-words.ensures }
