use Rattle.std.proofs.Common.{◌≡◌, ◌-◌, ◌+◌, ℕ, List, arith, length, map, ap, sym, ◌∙◌, slice_set, slice_index_or, true}
use Rattle.std.proofs.lemmas.List.{length-set}
use Rattle.lc_model.specs.History.{leading}
use Rattle.lc_journal.specs.declared.record_end.RecordEnd.{RecordEnd}
use Rattle.lc_journal.specs.Records.{KeptRecords, closing}
use Rattle.lc_journal.proofs.Spans.{Holds, held, kept_so, seen_so, closed_so, closed_below, closed_beyond, closed_in, known_so, few_so, count_so, length-places_of, leading_le}
use Rattle.lc_journal.proofs.records.Records.close.Goals.{then-number-self-via-then-number-self, then-number-self-via-else-number-self+then-number-count}
use Rattle.lc_journal.proofs.records.Records.close.Goals as goal

pub overflow_add-self-inside : goal.overflow_add-self-inside
overflow_add-self-inside c =
    let h = held _ _ _ _ _ _ c.self.invariant c.self.view_is in
    omega (arith, few_so _ _ _ _ _ _ h, count_so _ _ _ _ _ _ h)

pub index_mut-requires : goal.index_mut-requires
index_mut-requires c =
    let h = held _ _ _ _ _ _ c.self.invariant c.self.view_is in
    omega (arith, c.if-number-self.false, c.if-number-count.false, c.count.ensures, h.before_is, count_so _ _ _ _ _ _ h)

pub leading_from-self-inside-requires-clause-within : goal.leading_from-self-inside-requires-clause-within
leading_from-self-inside-requires-clause-within c =
    let h = held _ _ _ _ _ _ c.self.invariant c.self.view_is in
    let place : ℕ = c.args.number - c.self.inside.first in
    omega (
      arith,
      ap length c.as_slice.ensures.value,
      length-set c.self.inside.places.items place (record { end = c.index_mut.result.now.end; closed = true }),
      ap length h.places_are,
      length-places_of 0 h.whole,
      h.front_is,
      leading_le h.whole,
    )

pub leading_from-self-inside-requires-clause-known : goal.leading_from-self-inside-requires-clause-known
leading_from-self-inside-requires-clause-known c =
    let h = held _ _ _ _ _ _ c.self.invariant c.self.view_is in
    rw c.as_slice.ensures.value (known_so _ _ _ _ _ _ h (c.args.number - c.self.inside.first) c.index_mut.result.now.end)

module _ (c : goal.After-self-2-1) where
  abbrev new : KeptRecords
  new = record c.args.self.now { records = closing (c.args.number - c.args.self.now.before) c.args.self.now.records }

  closed : Holds c.self.inside.first c.self.inside.words.items
      (slice_set c.self.inside.places.items (c.args.number - c.self.inside.first) (record { end = c.index_mut.result.now.end; closed = true }))
      c.self.inside.gone c.leading_from-self-inside.result new
  closed =
      let h = held _ _ _ _ _ _ c.self.invariant c.self.view_is in
      let place : ℕ = c.args.number - c.self.inside.first in
      let x : RecordEnd = c.index_mut.result.now in
      let at : place ≡ c.self.inside.gone + (c.args.number - c.args.self.now.before) = omega (arith, h.before_is, c.if-number-self.false) in
      let end : x.end ≡ (slice_index_or c.self.inside.places.items place x).end = ap (λ (p : RecordEnd). p.end) c.index_mut.ensures.value in
      let count : c.leading_from-self-inside.result ≡ leading (map (λ (p : RecordEnd). p.closed) (slice_set c.self.inside.places.items place (record { end = x.end; closed = true }))) =
      c.leading_from-self-inside.ensures ∙ ap (λ (ps : List RecordEnd). leading (map (λ (p : RecordEnd). p.closed) ps)) c.as_slice.ensures.value in
      closed_so _ _ _ _ _ _ h place (c.args.number - c.args.self.now.before) x.end c.leading_from-self-inside.result x at end count

pub invariant_of-self : goal.invariant_of-self
invariant_of-self c = kept_so _ _ _ _ _ (new c) (closed c)

pub returns : goal.returns
returns c =
    let h = held _ _ _ _ _ _ c.self.invariant c.self.view_is in
    seen_so _ _ _ _ _ (new c) (closed c) ∙ sym (closed_in c.args.number c.args.self.now (omega (arith, c.if-number-self.false, h.before_is)))

pub returns-then-number-self : goal.returns-then-number-self
returns-then-number-self c =
    let h = held _ _ _ _ _ _ c.self.invariant c.self.view_is in
    sym (elim c.then-number-self.branch [
      | then-number-self-via-then-number-self w ↦ closed_below c.args.number c.args.self.now (omega (arith, w.if-number-self, h.before_is))
      | then-number-self-via-else-number-self+then-number-count w ↦ closed_beyond c.args.number c.args.self.now (omega (arith, w.if-number-count, w.count.ensures))
    ])
