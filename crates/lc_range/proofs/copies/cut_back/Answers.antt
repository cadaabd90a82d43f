use Rattle.std.proofs.Common.{◌≡◌, ◌+◌, ◌-◌, ℕ, List, length, get_or, ap, sym, subst, ◌∙◌, arith}
use Rattle.lc_range.specs.RangeSet.{total_len}
use Rattle.lc_range.specs.Copies.{AreSome, first_ranges}
use Rattle.lc_range.specs.declared.range.Range.{Range}
use Rattle.lc_range.proofs.CopyLemmas.{some_at}
use Rattle.lc_range.proofs.CutLemmas.{last_len, one_at_least, first_cut, all_first, part_written, some_front}
use Rattle.lc_range.proofs.copies.cut_back.Goals as goal

pub overflow_sub-start : goal.overflow_sub-start
overflow_sub-start c =
    let xs = c.loop-end.ranges.items in
    let i : ℕ = c.len-last.result - 1 in
    let d : Range = record { segment = 0; offset = 0; len = 0 } in
    let some = one_at_least xs (omega (arith, c.loop-end.invariant.bytes, c.loop-end-test.true)) in
    let last : i + 1 ≡ length xs = omega (arith, c.len-last.ensures.value, some) in
    omega (arith, last_len xs i d last, ap (λ (l : List Range). (get_or l i d).len) c.deref.ensures, c.loop-end.invariant.bytes)

pub returns-then-start-len-clause-items : goal.returns-then-start-len-clause-items
returns-then-start-len-clause-items c =
    let xs = c.loop-end.ranges.items in
    let i : ℕ = c.len-last.result - 1 in
    let d : Range = record { segment = 0; offset = 0; len = 0 } in
    let some = one_at_least xs (omega (arith, c.loop-end.invariant.bytes, c.loop-end-test.true)) in
    let last : i + 1 ≡ length xs = omega (arith, c.len-last.ensures.value, some) in
    part_written c.args.len (length xs) c.loop-end.end xs c.deref_mut.result.now c.deref.result.now i d c.deref_mut.ensures.value c.deref.ensures (omega arith) last c.loop-end.invariant.bytes
    c.if-start-len.true (omega (arith, c.loop-end-test.true))
    ∙ c.loop-end.invariant.first

pub loop-end-smaller : goal.loop-end-smaller
loop-end-smaller c =
    let xs = c.loop-end.ranges.items in
    let i : ℕ = c.len-last.result - 1 in
    let d : Range = record { segment = 0; offset = 0; len = 0 } in
    let some = one_at_least xs (omega (arith, c.loop-end.invariant.bytes, c.loop-end-test.true)) in
    let last : i + 1 ≡ length xs = omega (arith, c.len-last.ensures.value, some) in
    omega (arith, some_at xs i d c.loop-end.invariant.some (omega (arith, last)), ap (λ (l : List Range). (get_or l i d).len) c.deref.ensures, c.loop-end-test.true)

pub loop-end-preserved : goal.loop-end-preserved
loop-end-preserved c =
    let xs = c.loop-end.ranges.items in
    let i : ℕ = c.len-last.result - 1 in
    let d : Range = record { segment = 0; offset = 0; len = 0 } in
    let some = one_at_least xs (omega (arith, c.loop-end.invariant.bytes, c.loop-end-test.true)) in
    let last : i + 1 ≡ length xs = omega (arith, c.len-last.ensures.value, some) in
    let len = ap (λ (l : List Range). (get_or l i d).len) c.deref.ensures in
    let total = last_len xs i d last in
    record {
      some = subst (λ (l : List Range). AreSome l) (sym c.truncate.ensures.items) (some_front i xs c.loop-end.invariant.some);
      bytes = omega (arith, total, len, c.loop-end.invariant.bytes, ap total_len c.truncate.ensures.items);
      first = ap (first_ranges c.args.len) c.truncate.ensures.items ∙ first_cut c.args.len xs i last (omega (arith, total, len, c.loop-end.invariant.bytes, c.if-start-len.false)) ∙ c.loop-end.invariant.first;
      capacity = c.truncate.ensures.capacity ∙ c.loop-end.invariant.capacity;
    }

pub returns-clause-items : goal.returns-clause-items
returns-clause-items c = sym (all_first c.args.len c.loop-end.ranges.items c.loop-end.invariant.some (omega (arith, c.loop-end.invariant.bytes, c.loop-end-test.false))) ∙ c.loop-end.invariant.first
