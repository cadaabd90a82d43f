use Rattle.std.proofs.Common.{◌≡◌, ℕ, ◌<◌, List, [], get_or, length, All, Contains, arith, sym, subst, ◌∙◌, below_more}
use Rattle.lc_record.specs.declared.record.Record.{Record}
use Rattle.lc_log.specs.InPlace.{records_in}
use Rattle.lc_model.specs.Merge.{IsOutside}
use Rattle.lc_recover.specs.Reading.{store_of}
use Rattle.lc_recover.proofs.Walks.{no-log, least-log, item-at}
use Rattle.lc_recover.proofs.within.within.Goals as goal

pub loop-area-preserved : goal.loop-area-preserved
loop-area-preserved c =
    let within : c.loop-area.area < length c.args.logs.now = omega arith in
    let words : get_or c.args.logs.now c.loop-area.area [] ≡ c.as_slice.result.now = item-at c.args.logs.now c.loop-area.area c.index-logs-area.result [] within c.index-logs-area.is ∙ sym c.as_slice.ensures in
    below_more (λ (k : ℕ). All (λ (r : Record). IsOutside (store_of [] c.args.segments.now) r → ⊥) (records_in (get_or c.args.logs.now k []))) c.loop-area.area c.loop-area.invariant
    (subst (λ (l : List ℕ). All (λ (r : Record). IsOutside (store_of [] c.args.segments.now) r → ⊥) (records_in l)) (sym words) c.if-not-lie_within.ensures)

pub returns-then-not-lie_within-clause-refused : goal.returns-then-not-lie_within-clause-refused
returns-then-not-lie_within-clause-refused c = λ own.
    let within : c.loop-area.area < length c.args.logs.now = omega arith in
    let words : get_or c.args.logs.now c.loop-area.area [] ≡ c.as_slice.result.now = item-at c.args.logs.now c.loop-area.area c.index-logs-area.result [] within c.index-logs-area.is ∙ sym c.as_slice.ensures in (
      own,
      least-log (λ k r. IsOutside (store_of [] c.args.segments.now) r) c.args.logs.now c.args.segments.now c.loop-area.area within c.loop-area.invariant
          (subst (λ (l : List ℕ). (r : Record) × Contains (records_in l) r × IsOutside (store_of [] c.args.segments.now) r) (sym words) c.if-not-lie_within.ensures),
    )

pub returns-clause-within : goal.returns-clause-within
returns-clause-within c =
    no-log (λ k r. IsOutside (store_of [] c.args.segments.now) r) c.args.logs.now c.args.segments.now (λ k h. c.loop-area.invariant k (omega arith))
