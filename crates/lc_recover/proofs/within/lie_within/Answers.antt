use Rattle.std.proofs.Common.{ℕ, []}
use Rattle.std.proofs.lemmas.List.Elements.{All-push}
use Rattle.lc_record.specs.declared.record.Record.{Record}
use Rattle.lc_model.specs.Merge.{IsOutside}
use Rattle.lc_recover.specs.Reading.{placed_in, store_of}
use Rattle.lc_recover.proofs.Walks.{passed-next, passed-all, next-in, record-in, all-records}
use Rattle.lc_recover.proofs.within.lie_within.Goals as goal

pub returns-then-not-lies_within : goal.returns-then-not-lies_within
returns-then-not-lies_within c =
    (c.in-Some.view, record-in c.args.words.now _ (next-in _ (placed_in c.args.words.now) _ _ _ c.in-Some.ensures.steps c.loop-view.invariant), c.if-not-lies_within.ensures)

pub loop-view-preserved : goal.loop-view-preserved
loop-view-preserved c = passed-next _ _ _ _ _ _ c.in-Some.ensures.steps c.loop-view.invariant
    (λ seen holds. All-push (λ (x : ℕ × Record). IsOutside (store_of [] c.args.segments.now) x.1 → ⊥) seen _ holds c.if-not-lies_within.ensures)

pub returns : goal.returns
returns c = all-records (λ r. IsOutside (store_of [] c.args.segments.now) r → ⊥) c.args.words.now (passed-all _ _ _ c.in-None.ensures.steps.0 c.loop-view.invariant)
