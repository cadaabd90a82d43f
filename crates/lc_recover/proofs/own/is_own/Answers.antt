use Rattle.std.proofs.Common.{◌≡◌, ℕ, sym, ◌∙◌}
use Rattle.std.proofs.lemmas.List.Elements.{All-push}
use Rattle.lc_record.specs.declared.record.Record.{Record}
use Rattle.lc_recover.proofs.Walks.{passed-next, passed-all, next-in, record-in, all-records}
use Rattle.lc_recover.specs.Reading.{placed_in}
use Rattle.lc_recover.proofs.own.is_own.Goals as goal

pub returns-then-node : goal.returns-then-node
returns-then-node c =
    (c.in-Some.record, record-in c.args.words.now _ (next-in _ (placed_in c.args.words.now) _ _ _ c.in-Some.ensures.steps c.loop-record.invariant), λ e. c.if-node.true (c.node.ensures ∙ e))

pub loop-record-preserved : goal.loop-record-preserved
loop-record-preserved c = passed-next _ _ _ _ _ _ c.in-Some.ensures.steps c.loop-record.invariant (λ seen holds. All-push (λ (x : ℕ × Record). x.1.node ≡ c.args.node) seen _ holds (sym c.node.ensures ∙ c.if-node.false))

pub returns : goal.returns
returns c = all-records (λ r. r.node ≡ c.args.node) c.args.words.now (passed-all _ _ _ c.in-None.ensures.steps.0 c.loop-record.invariant)
