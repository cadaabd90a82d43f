use Rattle.std.proofs.Common.{◌≡◌, ◌≤◌, ◌+◌, ℕ, [], List, Bor, below_more, map, length, ap, sym, ◌∙◌, subst, arith}
use Rattle.std.specs.Global.{Vec}
use Rattle.lc_record.specs.declared.record.Record.{Record}
use Rattle.lc_record.proofs.ListLemmas.{each_push as each_pushed}
use Rattle.lc_rest.specs.Merge.{logs_of, merged_after}
use Rattle.lc_reading.specs.Built.{IsPieceOf}
use Rattle.lc_desk.specs.Pieces.{IsLong}
use Rattle.lc_reading.specs.Readings.{KeepsPictures, tests_of}
use Rattle.lc_desk.specs.declared.segment_piece.SegmentPiece.{SegmentPiece}
use Rattle.lc_reading.proofs.Firsts.{each_segment, first_failed}
use Rattle.lc_desk.proofs.Furnishing.{each_same}
use Rattle.lc_reading.proofs.TokenReads.{length_numbers}
use Rattle.lc_reading.proofs.read_parts.ReadParts.test_images.Goals as goal

pub bounds-numbers-place : goal.bounds-numbers-place
bounds-numbers-place c =
    let r = c.args.self.now in
    omega (arith, c.loop-place-test.true, ap length c.requires.numbers, length_numbers r, r.all_tokens, r.tokens.ok.0)

pub loop-place-preserved : goal.loop-place-preserved
loop-place-preserved c =
    let r = c.args.self.now in
    let place = c.loop-place.place in
    let h = c.loop-place.invariant in
    let order = c.args.order.now in
    let piece : SegmentPiece = c.in-Some.piece in
    let records : List (Bor Record) = c.as_slice-in-loop-place.result.now in
    let in_order : map (λ (x : Bor Record). x.now) records ≡ merged_after (logs_of r.logs.items) [] order =
    ap (map (λ (x : Bor Record). x.now)) c.as_slice-in-loop-place.ensures.value ∙ c.in_ok-records.ensures ∙ ap (λ (l : List (Vec Record)). merged_after (logs_of l) [] order) c.as_slice.ensures.value in
    let olds = c.loop-place.pieces.items in
    let count : length olds ≡ place = omega (arith, h.count, c.loop-place.pieces.ok.0) in
    let made : IsPieceOf (tests_of r order) (place + 1) piece = (rw c.in-Some.is at c.in_ok-piece.ensures.piece) order in_order in
    let long : IsLong r.geometry piece = rw c.in-Some.is at c.in_ok-piece.ensures.long in
    let keeps : KeepsPictures (tests_of r order) c.args.nodes.now (place + 1) = (rw c.in-Some.is at c.in_ok-piece.ensures.keeps) order in_order in
    let Made = λ (k : ℕ) (p : SegmentPiece). IsPieceOf (tests_of r order) (k + 1) p in
    let Long = λ (k : ℕ) (p : SegmentPiece). IsLong r.geometry p in
    record {
      count = omega (arith, h.count, c.in_ok-push.ensures.len);
      long = each_same Long _ _ c.in_ok-push.ensures.items (each_pushed Long olds piece h.long long);
      made = each_same Made _ _ c.in_ok-push.ensures.items (each_pushed Made olds piece h.made (subst (λ (k : ℕ). IsPieceOf (tests_of r order) (k + 1) piece) (sym count) made));
      keeps = below_more (λ (k : ℕ). KeepsPictures (tests_of r order) c.args.nodes.now (k + 1)) place h.keeps keeps;
    }

pub returns-in_default-clause-fails : goal.returns-in_default-clause-fails
returns-in_default-clause-fails c =
    let r = c.args.self.now in
    let order = c.args.order.now in
    let records : List (Bor Record) = c.as_slice-in-loop-place.result.now in
    let in_order : map (λ (x : Bor Record). x.now) records ≡ merged_after (logs_of r.logs.items) [] order =
    ap (map (λ (x : Bor Record). x.now)) c.as_slice-in-loop-place.ensures.value ∙ c.in_ok-records.ensures ∙ ap (λ (l : List (Vec Record)). merged_after (logs_of l) [] order) c.as_slice.ensures.value in
    let last : c.loop-place.place + 1 ≤ r.geometry.segments = omega (arith, c.loop-place-test.true) in
    (last, first_failed (KeepsPictures (tests_of r order) c.args.nodes.now) c.loop-place.place c.loop-place.invariant.keeps ((rw c.in_default.is at c.in_ok-piece.ensures.fails) order in_order))

pub returns-clause-keeps : goal.returns-clause-keeps
returns-clause-keeps c = λ segment first last.
    each_segment (KeepsPictures (tests_of c.args.self.now c.args.order.now) c.args.nodes.now) c.loop-place.place c.loop-place.invariant.keeps segment first (omega (arith, last, c.loop-place-test.false))
