use Rattle.std.proofs.Common.{◌≡◌, ◌≢◌, ℕ, ◌<◌, List, [], get_or, length, All, Contains, arith, sym, subst, ◌∙◌, below_more}
use Rattle.std.proofs.lemmas.List.Elements.{All-weaker}
use Rattle.lc_record.specs.declared.record.Record.{Record}
use Rattle.lc_log.specs.InPlace.{records_in}
use Rattle.lc_recover.proofs.Walks.{no-log, least-log, item-at}
use Rattle.lc_recover.proofs.own.own.Goals as goal

pub loop-area-preserved : goal.loop-area-preserved
loop-area-preserved c =
    let within : c.loop-area.area < length c.args.logs.now = omega arith in
    let words : get_or c.args.logs.now c.loop-area.area [] ≡ c.as_slice.result.now = item-at c.args.logs.now c.loop-area.area c.index-logs-area.result [] within c.index-logs-area.is ∙ sym c.as_slice.ensures in
    below_more (λ (k : ℕ). All (λ (r : Record). r.node ≡ k) (records_in (get_or c.args.logs.now k []))) c.loop-area.area c.loop-area.invariant
    (subst (λ (l : List ℕ). All (λ (r : Record). r.node ≡ c.loop-area.area) (records_in l)) (sym words) c.if-not-is_own.ensures)

pub returns-then-not-is_own-clause-refused : goal.returns-then-not-is_own-clause-refused
returns-then-not-is_own-clause-refused c = λ segments.
    let within : c.loop-area.area < length c.args.logs.now = omega arith in
    let words : get_or c.args.logs.now c.loop-area.area [] ≡ c.as_slice.result.now = item-at c.args.logs.now c.loop-area.area c.index-logs-area.result [] within c.index-logs-area.is ∙ sym c.as_slice.ensures in
    least-log (λ k r. r.node ≢ k) c.args.logs.now segments c.loop-area.area within
    (λ k h. All-weaker (λ r. r.node ≡ k) (λ r. r.node ≢ k → ⊥) (λ r is differs. differs is) (records_in (get_or c.args.logs.now k [])) (c.loop-area.invariant k h))
    (subst (λ (l : List ℕ). (r : Record) × Contains (records_in l) r × (r.node ≢ c.loop-area.area)) (sym words) c.if-not-is_own.ensures)

pub returns-clause-own : goal.returns-clause-own
returns-clause-own c = λ segments.
    no-log (λ k r. r.node ≢ k) c.args.logs.now segments
    (λ k h. All-weaker (λ r. r.node ≡ k) (λ r. r.node ≢ k → ⊥) (λ r is differs. differs is) (records_in (get_or c.args.logs.now k [])) (c.loop-area.invariant k (omega arith)))
