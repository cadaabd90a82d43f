use Rattle.std.proofs.Common.{◌≡◌, ◌+◌, ◌∙◌, ℕ, List, [], ◌∷◌, ◌++◌, Option, sym, ap, arith}
use Rattle.std.specs.Prelude.{slice_get}
use Rattle.std.specs.Option.{option_or}
use Rattle.std.proofs.lemmas.Option.{none-some, same_Some}
use Rattle.lc_record.specs.Newest.{byte_in, byte_of}
use Rattle.lc_record.specs.Reading.{range_at, range_of}
use Rattle.lc_record.specs.declared.record.RangeData.{RangeData}
use Rattle.lc_record.proofs.LoopLemmas.{many_next, many_fails, many_done}
use Rattle.lc_record.proofs.PuttingLemmas.{byte_in-same, byte_in-other, one_more}
use Rattle.lc_record.proofs.putting.put_ranges.Goals as goal
use Rattle.lc_record.proofs.putting.put_ranges.Goals.{then-range-segment, else-range-segment}

pub returns-in_default-clause-put : goal.returns-in_default-clause-put
returns-in_default-clause-put c ranges rest is =
    let l = c.loop in
    let none = many_fails (range_at c.args.head.version) l.invariant.0 c.args.head.ranges l.counter l.rest.now _ l.invariant.1 c.loop-test.true c.in_default.ensures.read in
    absurd (none-some (ranges, rest) (sym none ∙ is))

pub loop-preserved : goal.loop-preserved
loop-preserved c =
    let l = c.loop in
    let x = c.in-Some.range in
    let range : RangeData = range_of x.span x.data.now in (
      l.invariant.0 ++ range ∷ [],
      many_next (range_at c.args.head.version) l.invariant.0 c.args.head.ranges l.counter l.rest.now _ l.invariant.1 range c.in-Some.behind.now c.loop-test.true c.in-Some.ensures.read,
      λ k lt.
          let old = slice_get c.args.bytes.now k in
          let so_far = option_or (byte_of c.args.segment (c.args.offset + k) l.invariant.0) old in
          let put : slice_get c.if-range-segment.bytes k ≡ option_or (byte_in c.args.segment (c.args.offset + k) range) (slice_get l.bytes k) =
          elim c.if-range-segment.branch [
            | then-range-segment w ↦
                ap (λ (b : List ℕ). slice_get b k) w.bytes-is
                ∙ w.put_words.ensures.put k (omega (arith, lt, l.auto.bytes))
                ∙ ap (λ (o : Option ℕ). option_or o (slice_get l.bytes k)) (sym (byte_in-same c.args.segment (c.args.offset + k) range w.if-range-segment.true))
            | else-range-segment w ↦
                ap (λ (b : List ℕ). slice_get b k) w.bytes-is
                ∙ ap (λ (o : Option ℕ). option_or o (slice_get l.bytes k)) (sym (byte_in-other c.args.segment (c.args.offset + k) range w.if-range-segment.false))
          ] in
          put ∙ ap (option_or (byte_in c.args.segment (c.args.offset + k) range)) (l.invariant.2 k lt) ∙ one_more c.args.segment (c.args.offset + k) l.invariant.0 range old,
    )

pub returns-clause-put : goal.returns-clause-put
returns-clause-put c ranges rest is k lt =
    let l = c.loop in
    let all = many_done (range_at c.args.head.version) l.invariant.0 c.args.head.ranges l.counter l.rest.now _ l.invariant.1 c.loop-test.false in
    let same : ranges ≡ l.invariant.0 = ap (λ (x : List RangeData × List ℕ). x.0) (same_Some (ranges, rest) (l.invariant.0, l.rest.now) (sym is ∙ all)) in
    l.invariant.2 k lt ∙ ap (λ (front : List RangeData). option_or (byte_of c.args.segment (c.args.offset + k) front) (slice_get c.args.bytes.now k)) (sym same)
