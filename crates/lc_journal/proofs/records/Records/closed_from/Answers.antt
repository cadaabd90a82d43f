use Rattle.std.proofs.Common.{◌≡◌, ◌-◌, ◌+◌, ℕ, List, arith, drop, ap, ◌∙◌}
use Rattle.std.specs.List.{count_by}
use Rattle.lc_journal.specs.Records.{Spelled}
use Rattle.lc_journal.specs.declared.record_end.RecordEnd.{RecordEnd}
use Rattle.lc_journal.proofs.Spans.{held, behind_so, closed_places}
use Rattle.lc_journal.proofs.records.Records.closed_from.Goals as goal

pub overflow_sub-from : goal.overflow_sub-from
overflow_sub-from c =
    let h = held _ _ _ _ _ _ c.self.invariant c.self.view_is in
    omega (arith, h.before_is, c.requires)

pub returns : goal.returns
returns c =
    let h = held _ _ _ _ _ _ c.self.invariant c.self.view_is in
    let kept : ℕ = c.args.number - c.args.self.now.before in
    let place : ℕ = c.args.number - c.self.inside.first in
    let there : place ≡ c.self.inside.gone + kept = omega (arith, h.before_is, c.requires) in
    c.closed_among.ensures ∙ ap (λ (ps : List RecordEnd). count_by (λ (p : RecordEnd). p.closed) (drop place ps)) (c.as_slice.ensures.value ∙ h.places_are)
    ∙ closed_places 0 h.whole place
    ∙ ap (λ (rs : List Spelled). count_by (λ (r : Spelled). r.closed) rs) (behind_so _ _ _ _ _ _ h place kept there)
