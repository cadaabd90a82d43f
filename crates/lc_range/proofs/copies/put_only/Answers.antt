use Rattle.std.proofs.Common.{◌≡◌, ℕ, List, [], ◌∷◌, length, take, unwrap_or, refl, sym, subst, arith}
use Rattle.std.proofs.lemmas.List.{take_all}
use Rattle.std.specs.Prelude.{slice_index}
use Rattle.lc_range.specs.Undo.{OldBytes, kept}
use Rattle.lc_range.proofs.CopyLemmas.{put_one, put_none, range_below}
use Rattle.lc_range.proofs.copies.put_only.Goals as goal

abbrev copy : ℕ → ℕ → List ℕ → OldBytes
copy segment offset bytes = record { segment = segment; offset = offset; bytes = bytes }

pub lay-requires : goal.lay-requires
lay-requires c =
    omega (
      arith,
      range_below (c.args.range ∷ []) c.args.bytes.now 0 c.args.segment (length c.args.image.now) c.args.range c.requires.copies c.requires.within (omega arith) c.if-range-segment.true,
      c.requires.copies.whole,
    )

pub returns-then-range-segment-clause-bytes : goal.returns-then-range-segment-clause-bytes
returns-then-range-segment-clause-bytes c =
    let all : take c.args.range.len c.args.bytes.now ≡ c.args.bytes.now = take_all c.args.range.len c.args.bytes.now (omega (arith, c.requires.copies.whole)) in
    subst
    (λ (l : List ℕ). (k : ℕ) → slice_index c.lay.new.image k ≡ unwrap_or (kept (copy c.args.range.segment c.args.range.offset l ∷ []) c.args.segment k) (slice_index c.args.image.now k))
    (sym all)
    (put_one c.args.image.now c.args.image.now c.lay.new.image (copy c.args.range.segment c.args.range.offset c.args.bytes.now) [] c.args.segment c.if-range-segment.true c.lay.ensures.within c.lay.ensures.before c.lay.ensures.behind
    (λ k. refl))

pub returns-else-range-segment-clause-bytes : goal.returns-else-range-segment-clause-bytes
returns-else-range-segment-clause-bytes c =
    put_none c.args.image.now c.args.image.now (copy c.args.range.segment c.args.range.offset (take c.args.range.len c.args.bytes.now)) [] c.args.segment c.if-range-segment.false (λ k. refl)
