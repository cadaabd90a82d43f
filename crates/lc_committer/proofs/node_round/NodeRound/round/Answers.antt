use Rattle.std.proofs.Common.{refl, subst, inl, inr}
use Rattle.std.specs.Prelude.{Err, IfErr, IfOk, Ok}
use Rattle.lc_node.specs.Truncates.{HasNotTruncated, HasTruncated}
use Rattle.lc_committer.specs.Round.{WasAsked}
use Rattle.lc_committer.proofs.node_round.NodeRound.round.Goals as goal

pub returns-in_default-2-clause-kept : goal.returns-in_default-2-clause-kept
returns-in_default-2-clause-kept g c =
    let node = c.args.self.now in
    let asked : WasAsked g.D.Area node =
    elim c.truncate.result as (λ r. IfOk r (HasTruncated g.D.Area node) → IfErr r (HasNotTruncated g.D.Area node) → WasAsked g.D.Area node) [
      | Ok round ↦ λ truncated refused. inl (round, truncated)
      | Err fault ↦ λ truncated refused. inr (fault, refused)
    ] c.truncate.ensures.truncated c.truncate.ensures.refused in
    record { count = c.in_ok-flush.field-0; flushed = c.in_ok-flush.ensures.flushed; taken = c.stable_words.result; words = c.stable_words.ensures; emptied = λ due. asked }

pub returns-in-Err-DeviceFault-clause-refused : goal.returns-in-Err-DeviceFault-clause-refused
returns-in-Err-DeviceFault-clause-refused g c = (inl refl, inr (subst (HasNotTruncated g.D.Area c.args.self.now) c.in-Err-DeviceFault.field-0-is c.in-Err-DeviceFault.ensures.refused))

pub returns-in-Err-Halted-clause-refused : goal.returns-in-Err-Halted-clause-refused
returns-in-Err-Halted-clause-refused g c = (inr refl, inr (subst (HasNotTruncated g.D.Area c.args.self.now) c.in-Err-Halted.field-0-is c.in-Err-Halted.ensures.refused))
