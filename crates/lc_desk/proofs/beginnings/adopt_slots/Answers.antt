use Rattle.std.proofs.Common.{◌≡◌, ◌+◌, ◌<◌, ◌≤◌, length, Option, Some, sym, ap, subst, ◌∙◌, arith}
use Rattle.std.specs.Option.{ForSome}
use Rattle.std.specs.Prelude.{slice_get, slice_index_or}
use Rattle.std.proofs.lemmas.Option.{slice_get-get_or, slice_get_read, slice_get_within, same_Some as same_some}
use Rattle.lc_token.specs.declared.token.Token.{Token}
use Rattle.lc_record.proofs.ListLemmas.{slice_get_some as some_at, set_behind as behind_set}
use Rattle.lc_desk.specs.Blank.{IsOfSegment}
use Rattle.lc_desk.specs.Pieces.{IsMadeSlot, IsTokenOf, left_at, standing_at}
use Rattle.lc_desk.specs.declared.segment_piece.SegmentPiece.{SegmentPiece}
use Rattle.lc_desk.proofs.Furnishing.{each_set, front_set}
use Rattle.lc_desk.proofs.Pieces.{some_left}
use Rattle.lc_desk.proofs.beginnings.adopt_slots.Goals as goal

pub adopt-requires-clause-token : goal.adopt-requires-clause-token
adopt-requires-clause-token c =
    let place = c.loop-place.place in
    let tokens = c.loop-place.tokens in
    let there = slice_get-get_or tokens place c.index-tokens-place.result (omega (arith, c.loop-place-test.true, c.loop-place.auto.slots, c.loop-place.auto.tokens, c.requires.count, c.requires.all_tokens)) in
    λ token got. (c.loop-place.invariant.named place (slice_index_or tokens place c.index-tokens-place.result) there token got).segment_is

pub loop-place-preserved : goal.loop-place-preserved
loop-place-preserved c =
    let g = c.args.segments.now.geometry in
    let node = c.args.node in
    let pieces = c.args.segments.now.pieces.items in
    let first = c.args.tokens.now in
    let place = c.loop-place.place in
    let slots = c.loop-place.slots in
    let tokens = c.loop-place.tokens in
    let h = c.loop-place.invariant in
    let within : place < length tokens = omega (arith, c.loop-place-test.true, c.loop-place.auto.slots, c.loop-place.auto.tokens, c.requires.count, c.requires.all_tokens) in
    let slot = slice_index_or slots place c.index-slots-place.result in
    let token = slice_index_or tokens place c.index-tokens-place.result in
    let piece = c.index-piece.result.now in
    let slot_there : slice_get slots place ≡ Some slot = slice_get-get_or slots place c.index-slots-place.result (omega (arith, c.loop-place-test.true, c.loop-place.auto.slots)) in
    let token_there : slice_get tokens place ≡ Some token = slice_get-get_or tokens place c.index-tokens-place.result within in
    let piece_there : slice_get pieces place ≡ Some piece =
    slice_get_read pieces c.args.segments.now.pieces.len place piece c.args.segments.now.pieces.ok.0 (omega (arith, within, c.loop-place.auto.tokens, c.requires.all_tokens, c.args.segments.now.count)) c.index-piece.ensures in
    let same : place ≤ place = omega arith in
    record {
      each = each_set (λ k s. IsOfSegment g (k + 1) s) slots place c.adopt.new.self h.each (c.adopt.ensures.shape g (h.each place slot slot_there) (h.named place token token_there));
      named = each_set (λ k (t : Option Token). ForSome t (IsTokenOf g (k + 1))) tokens place c.adopt.new.token h.named
          (subst (λ (t : Option Token). ForSome t (IsTokenOf g (place + 1))) (sym c.adopt.ensures.left) (some_left (IsTokenOf g (place + 1)) node piece.holder token (h.named place token token_there)));
      made = front_set (λ k s. (q : SegmentPiece) (t : Option Token) → slice_get pieces k ≡ Some q → slice_get first k ≡ Some t → IsMadeSlot (k + 1) q (standing_at node q.holder t) s) slots place c.adopt.new.self h.made
          (λ q t its was.
          subst (λ (r : SegmentPiece). IsMadeSlot (place + 1) r (standing_at node r.holder t) c.adopt.new.self) (same_some piece q (sym piece_there ∙ its))
          (subst (λ (u : Option Token). IsMadeSlot (place + 1) piece (standing_at node piece.holder u) c.adopt.new.self) (same_some token t (sym token_there ∙ h.behind place same ∙ was)) c.adopt.ensures.made));
      left = front_set (λ k (now : Option Token). (q : SegmentPiece) (t : Option Token) → slice_get pieces k ≡ Some q → slice_get first k ≡ Some t → now ≡ left_at node q.holder t) tokens place c.adopt.new.token h.left
          (λ q t its was.
          subst (λ (r : SegmentPiece). c.adopt.new.token ≡ left_at node r.holder t) (same_some piece q (sym piece_there ∙ its))
          (subst (λ (u : Option Token). c.adopt.new.token ≡ left_at node piece.holder u) (same_some token t (sym token_there ∙ h.behind place same ∙ was)) c.adopt.ensures.left));
      behind = behind_set first tokens place c.adopt.new.token h.behind;
    }

pub returns-clause-made : goal.returns-clause-made
returns-clause-made c = λ k slot piece token got its was.
    let within = slice_get_within c.loop-place.slots k slot got in
    c.loop-place.invariant.made k slot (omega (arith, within, c.loop-place.auto.slots, c.loop-place-test.false)) got piece token its was

pub returns-clause-left : goal.returns-clause-left
returns-clause-left c = λ k piece token its was.
    let within = slice_get_within c.args.tokens.now k token was in
    let now = some_at c.loop-place.tokens k (omega (arith, within, c.loop-place.auto.tokens)) in
    let less : k < c.loop-place.place = omega (arith, within, c.requires.all_tokens, c.requires.count, c.loop-place.auto.slots, c.loop-place-test.false) in
    now.1 ∙ ap (λ (t : Option Token). Some t) (c.loop-place.invariant.left k now.0 less now.1 piece token its was)
