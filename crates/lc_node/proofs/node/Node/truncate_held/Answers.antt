use Rattle.std.proofs.Common.{rules, ◌≡◌, ◌⊎◌, inl, inr, ⊎_elim}
use Rattle.std.proofs.lemmas.Result.{IfErr-weaker as if_err, IfOk-weaker as if_ok}
use Rattle.lc_node.specs.Logs.{IsLogOf}
use Rattle.lc_node.specs.Truncates.{IsUntruncatedHeld, TruncatesAlone, TruncatesHeld}
use Rattle.lc_log_side.specs.Truncates.{IsUntruncatedInRoom}
use Rattle.lc_segments.specs.declared.node_fault.NodeFault.TheVariants.{NoMemory}
use Rattle.lc_node.proofs.node.Node.truncate_held.Goals as goal

pub returns-clause-refused : goal.returns-clause-refused
returns-clause-refused g c =
    let log = c.lock-log.result.0 in let later = c.truncate_in-truncated.new.log in let olds = c.args.held.now.sides.items in let news = c.truncate_in-truncated.new.held.sides.items in
    let own : IsLogOf c.args.self.now log = search rules in
    if_err c.truncate_in-truncated.result (λ fault. ((fault ≡ NoMemory) × (later ≡ log) × (news ≡ olds)) ⊎ IsUntruncatedInRoom g.D.Area c.args.self.now.stage.room log olds fault later news)
    (λ fault. IsUntruncatedHeld g.D.Area c.args.self.now olds fault news)
    (λ fault why. ⊎_elim (λ none. inl (none.0, none.2)) (λ refused. inr (log, later, own, refused)) why) c.truncate_in-truncated.ensures.refused

pub returns-clause-truncated : goal.returns-clause-truncated
returns-clause-truncated g c =
    let log = c.lock-log.result.0 in let later = c.truncate_in-truncated.new.log in let olds = c.args.held.now.sides.items in let news = c.truncate_in-truncated.new.held.sides.items in
    let own : IsLogOf c.args.self.now log = search rules in
    if_ok c.truncate_in-truncated.result (λ round. TruncatesAlone g.D.Area c.args.self.now.is_alone c.args.self.now.stage.room log olds round later news)
    (λ round. TruncatesHeld g.D.Area c.args.self.now olds round news)
    (λ round truncates. (log, later, own, truncates)) c.truncate_in-truncated.ensures.truncated
