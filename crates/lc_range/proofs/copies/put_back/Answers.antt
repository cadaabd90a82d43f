use Rattle.std.proofs.Common.{◌≡◌, ◌+◌, ◌-◌, ◌<◌, ◌≤◌, ℕ, List, [], ◌∷◌, length, get_or, take, drop, unwrap_or, refl, sym, ap, subst, ◌∙◌, arith}
use Rattle.std.proofs.lemmas.List.{drop_all, take_all}
use Rattle.std.specs.Prelude.{slice_index}
use Rattle.lc_range.specs.RangeSet.{total_len}
use Rattle.lc_range.specs.Copies.{copies_of}
use Rattle.lc_range.specs.Undo.{LiesBelow, OldBytes, kept}
use Rattle.lc_range.specs.declared.range.Range.{Range}
use Rattle.lc_range.proofs.CopyLemmas.{put_one, put_none, copies_more, total_more, range_below, length_part}
use Rattle.lc_range.proofs.copies.put_back.Goals as goal

only_is : (xs : List Range) (d : Range) → 1 ≤ length xs → length xs < 2 → xs ≡ get_or xs 0 d ∷ []
only_is [] d some one = absurd (omega (arith, some))
only_is (x ∷ []) d some one = refl
only_is (x ∷ y ∷ xs) d some one = absurd (omega (arith, one))

pub put_only-requires-clause-within : goal.put_only-requires-clause-within
put_only-requires-clause-within c =
    subst (λ (l : List Range). LiesBelow (copies_of l c.args.bytes.now) c.args.segment (length c.args.image.now))
    (only_is c.args.ranges.now (record { segment = 0; offset = 0; len = 0 }) c.in-len1.len_at_least c.in-len1.len_below) c.requires.within

pub loop-i-init : goal.loop-i-init
loop-i-init c =
    let ranges = c.args.ranges.now in
    let all : take (length ranges) ranges ≡ ranges = take_all (length ranges) ranges (omega arith) in
    let none : drop (length ranges) ranges ≡ [] = drop_all (length ranges) ranges (omega arith) in
    record {
      start = c.requires.copies.whole ∙ ap total_len (sym all);
      within = omega arith;
      len = refl;
      bytes = λ k. ap (λ (l : List Range). unwrap_or (kept (copies_of l (drop (length c.args.bytes.now) c.args.bytes.now)) c.args.segment k) (slice_index c.args.image.now k)) (sym none);
    }

pub overflow_sub-start : goal.overflow_sub-start
overflow_sub-start c =
    omega (arith, c.loop-i.invariant.start, total_more c.args.ranges.now (c.loop-i.i - 1) c.loop-i.i (record { segment = 0; offset = 0; len = 0 }) (omega arith) (omega arith))

pub lay-requires : goal.lay-requires
lay-requires c =
    let d : Range = record { segment = 0; offset = 0; len = 0 } in
    let range : Range = get_or c.args.ranges.now (c.loop-i.i - 1) d in
    let more = total_more c.args.ranges.now (c.loop-i.i - 1) c.loop-i.i d (omega arith) (omega arith) in
    let low = range_below c.args.ranges.now c.args.bytes.now (c.loop-i.i - 1) c.args.segment (length c.args.image.now) d c.requires.copies c.requires.within (omega arith) c.if-range-segment.true in
    let long = length_part c.args.bytes.now (c.loop-i.start - range.len) (c.loop-i.start - (c.loop-i.start - range.len)) (omega (arith, c.loop-i.invariant.within)) in
    omega (arith, low, long, more, c.loop-i.invariant.start, c.loop-i.invariant.len)

pub loop-i-preserved-then-range-segment : goal.loop-i-preserved-then-range-segment
loop-i-preserved-then-range-segment c =
    let d : Range = record { segment = 0; offset = 0; len = 0 } in
    let ranges = c.args.ranges.now in
    let bytes = c.args.bytes.now in
    let i : ℕ = c.loop-i.i - 1 in
    let range : Range = get_or ranges i d in
    let start : ℕ = c.loop-i.start - range.len in
    let copy : OldBytes = record { segment = range.segment; offset = range.offset; bytes = take range.len (drop start bytes) } in
    let more = total_more ranges i c.loop-i.i d (omega arith) (omega arith) in
    let next : c.loop-i.start ≡ start + range.len = omega (arith, more, c.loop-i.invariant.start) in
    let copies = copies_more ranges bytes i c.loop-i.i start c.loop-i.start d (omega arith) (omega arith) next in
    let part : take (c.loop-i.start - start) (drop start bytes) ≡ copy.bytes = ap (λ (n : ℕ). take n (drop start bytes)) (omega (arith, next)) in
    let new = c.lay.new.image in
    let within : (k : ℕ) → copy.offset ≤ k → k < copy.offset + length copy.bytes → slice_index new k ≡ slice_index copy.bytes (k - copy.offset) =
    subst (λ (p : List ℕ). (k : ℕ) → copy.offset ≤ k → k < copy.offset + length p → slice_index new k ≡ slice_index p (k - copy.offset)) part c.lay.ensures.within in
    let behind : (k : ℕ) → copy.offset + length copy.bytes ≤ k → slice_index new k ≡ slice_index c.loop-i.image k =
    subst (λ (p : List ℕ). (k : ℕ) → copy.offset + length p ≤ k → slice_index new k ≡ slice_index c.loop-i.image k) part c.lay.ensures.behind in
    record {
      start = omega (arith, more, c.loop-i.invariant.start);
      within = omega (arith, c.loop-i.invariant.within);
      len = c.lay.ensures.len ∙ c.loop-i.invariant.len;
      bytes = λ k. subst (λ (l : List OldBytes). slice_index new k ≡ unwrap_or (kept l c.args.segment k) (slice_index c.args.image.now k)) (sym copies)
          (put_one c.args.image.now c.loop-i.image new copy (copies_of (drop c.loop-i.i ranges) (drop c.loop-i.start bytes)) c.args.segment c.if-range-segment.true within c.lay.ensures.before behind c.loop-i.invariant.bytes k);
    }

pub loop-i-preserved : goal.loop-i-preserved
loop-i-preserved c =
    let d : Range = record { segment = 0; offset = 0; len = 0 } in
    let ranges = c.args.ranges.now in
    let bytes = c.args.bytes.now in
    let i : ℕ = c.loop-i.i - 1 in
    let range : Range = get_or ranges i d in
    let start : ℕ = c.loop-i.start - range.len in
    let copy : OldBytes = record { segment = range.segment; offset = range.offset; bytes = take range.len (drop start bytes) } in
    let more = total_more ranges i c.loop-i.i d (omega arith) (omega arith) in
    let next : c.loop-i.start ≡ start + range.len = omega (arith, more, c.loop-i.invariant.start) in
    let copies = copies_more ranges bytes i c.loop-i.i start c.loop-i.start d (omega arith) (omega arith) next in
    record {
      start = omega (arith, more, c.loop-i.invariant.start);
      within = omega (arith, c.loop-i.invariant.within);
      len = c.loop-i.invariant.len;
      bytes = λ k. subst (λ (l : List OldBytes). slice_index c.loop-i.image k ≡ unwrap_or (kept l c.args.segment k) (slice_index c.args.image.now k)) (sym copies)
          (put_none c.args.image.now c.loop-i.image copy (copies_of (drop c.loop-i.i ranges) (drop c.loop-i.start bytes)) c.args.segment c.if-range-segment.false c.loop-i.invariant.bytes k);
    }
