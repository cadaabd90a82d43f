use Rattle.std.proofs.Common.{◌≡◌, ◌≤◌, ◌<◌, ◌-◌, ◌+◌, ◌++◌, ℕ, List, arith, length, map, take, drop, ap, ◌∙◌, slice_index_or}
use Rattle.std.proofs.lemmas.List.{length-map, take_at}
use Rattle.lc_journal.specs.declared.record_end.RecordEnd.{RecordEnd}
use Rattle.lc_journal.specs.Records.{all_words, places_of, shifted}
use Rattle.lc_journal.proofs.Spans.{Holds, held, kept_so, seen_so, moved_so, count_so, holds_as, start_within, places_from, ends_beyond}
use Rattle.lc_journal.proofs.records.Records.move_up.Goals as goal

pub start_of-cut-requires : goal.start_of-cut-requires
start_of-cut-requires c =
    let h = held _ _ _ _ _ _ c.self.invariant c.self.view_is in
    omega (arith, ap length c.as_slice.ensures.value, count_so _ _ _ _ _ _ h)

pub drain-requires-clause-in_bounds : goal.drain-requires-clause-in_bounds
drain-requires-clause-in_bounds c =
    let h = held _ _ _ _ _ _ c.self.invariant c.self.view_is in
    let cut = c.start_of-cut.ensures h.whole (c.as_slice.ensures.value ∙ h.places_are) in
    omega (arith, cut, ap length h.words_are, start_within c.self.inside.gone h.whole)

pub drain-requires-2-clause-in_bounds : goal.drain-requires-2-clause-in_bounds
drain-requires-2-clause-in_bounds c =
    let h = held _ _ _ _ _ _ c.self.invariant c.self.view_is in
    omega (arith, count_so _ _ _ _ _ _ h)

pub shift-requires : goal.shift-requires
shift-requires c k d within =
    let h = held _ _ _ _ _ _ c.self.invariant c.self.view_is in
    let rs = h.whole in
    let gone : ℕ = c.self.inside.gone in
    let end : ℕ = 0 + length (all_words (take gone rs)) in
    let left : c.as_mut_slice.result.now ≡ places_of end (drop gone rs) =
    c.as_mut_slice.ensures.value ∙ c.drop-drain-2.ensures.items ∙ c.drain-2.ensures.kept ∙ ap (drop gone) h.places_are ∙ places_from gone 0 rs in
    let cut = c.start_of-cut.ensures rs (c.as_slice.ensures.value ∙ h.places_are) in
    let beyond : c.start_of-cut.result ≤ end = omega (arith, cut) in
    let few : k < length (places_of end (drop gone rs)) = omega (arith, within, ap length left) in
    omega (arith, ends_beyond c.start_of-cut.result end (drop gone rs) beyond k d few, ap (λ (ps : List RecordEnd). (slice_index_or ps k d).end) left)

module _ (c : goal.After-self-4-1) where
  moved : Holds (c.self.inside.first + c.self.inside.gone) c.drop-drain.new.self.0.items
      (take c.drop-drain-2.new.self.0.len (c.shift.new.places ++ drop (length c.shift.new.places) c.drop-drain-2.new.self.0.items))
      0 (c.self.inside.leading - c.self.inside.gone) c.args.self.now
  moved =
      let h = held _ _ _ _ _ _ c.self.invariant c.self.view_is in
      let gone : ℕ = c.self.inside.gone in
      let cut : ℕ = c.start_of-cut.result in
      let size = c.start_of-cut.ensures h.whole (c.as_slice.ensures.value ∙ h.places_are) in
      let words : c.drop-drain.new.self.0.items ≡ drop cut c.self.inside.words.items = c.drop-drain.ensures.items ∙ c.drain.ensures.kept in
      let shifted_are : c.shift.new.places ≡ map (shifted cut) (drop gone c.self.inside.places.items) =
      c.shift.ensures ∙ ap (map (shifted cut)) (c.as_mut_slice.ensures.value ∙ c.drop-drain-2.ensures.items ∙ c.drain-2.ensures.kept) in
      let count : length c.shift.new.places ≡ c.drop-drain-2.new.self.0.len =
      ap length c.shift.ensures ∙ length-map c.as_mut_slice.result.now (shifted cut) ∙ c.as_mut_slice.ensures.len in
      let places : take c.drop-drain-2.new.self.0.len (c.shift.new.places ++ drop (length c.shift.new.places) c.drop-drain-2.new.self.0.items)
      ≡ map (shifted cut) (drop gone c.self.inside.places.items) =
      take_at c.shift.new.places _ c.drop-drain-2.new.self.0.len count ∙ shifted_are in
      holds_as _ _ _ _ _ _ _ _ words places (moved_so _ _ _ _ _ _ h cut size)

pub invariant_of-self : goal.invariant_of-self
invariant_of-self c = kept_so _ _ _ _ _ c.args.self.now (moved c)

pub returns : goal.returns
returns c = seen_so _ _ _ _ _ c.args.self.now (moved c)
