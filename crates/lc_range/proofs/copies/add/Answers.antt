use Rattle.std.proofs.Common.{◌≡◌, ◌+◌, ◌-◌, ◌<◌, ◌++◌, ◌∷◌, [], ℕ, List, length, get_or, true, false, is_err, ap, sym, ◌∙◌, arith, refl, inl, length-append}
use Rattle.lc_range.specs.Copies.{is_last_continued}
use Rattle.lc_range.specs.declared.range.Range.{Range}
use Rattle.lc_range.proofs.AddLemmas.{err_is_not_ok, no_room, on_err_of}
use Rattle.lc_range.proofs.GrowLemmas.{grown_written, apart, one_at_least, continued_end}
use Rattle.lc_range.proofs.copies.add.Goals as goal

pub overflow_add-deref_mut : goal.overflow_add-deref_mut
overflow_add-deref_mut c =
    let xs = c.args.ranges.now.items in
    let i : ℕ = c.len-last.result - 1 in
    let d : Range = record { segment = 0; offset = 0; len = 0 } in
    let e : is_last_continued xs c.args.range ≡ true = ap (λ (l : List Range). is_last_continued l c.args.range) (sym c.as_slice.ensures) ∙ sym c.is_last_continued.ensures ∙ c.if-is_last_continued.true in
    let last : i + 1 ≡ length xs = omega (arith, c.len-last.ensures.value, one_at_least xs c.args.range e) in
    omega (arith, continued_end xs c.args.range i d last e, ap (λ (l : List Range). (get_or l i d).len) c.deref_mut.ensures.value, c.requires)

pub returns-then-is_last_continued-clause-ranges : goal.returns-then-is_last_continued-clause-ranges
returns-then-is_last_continued-clause-ranges c =
    let xs = c.args.ranges.now.items in
    let i : ℕ = c.len-last.result - 1 in
    let d : Range = record { segment = 0; offset = 0; len = 0 } in
    let e : is_last_continued xs c.args.range ≡ true = ap (λ (l : List Range). is_last_continued l c.args.range) (sym c.as_slice.ensures) ∙ sym c.is_last_continued.ensures ∙ c.if-is_last_continued.true in
    let last : i + 1 ≡ length xs = omega (arith, c.len-last.ensures.value, one_at_least xs c.args.range e) in
    grown_written (length xs) xs c.deref_mut.result.now c.args.range i d c.deref_mut.ensures.value refl last e

pub returns-clause-ranges : goal.returns-clause-ranges
returns-clause-ranges c =
    let xs = c.args.ranges.now.items in
    let e : is_last_continued xs c.args.range ≡ false = ap (λ (l : List Range). is_last_continued l c.args.range) (sym c.as_slice.ensures) ∙ sym c.is_last_continued.ensures ∙ c.if-is_last_continued.false in
    c.push_reserved.ensures.items ∙ ap (λ (l : List Range). l ++ c.args.range ∷ []) c.reserve.ensures.items ∙ apart xs c.args.range e

pub returns-in_err-reserve-clause-memory : goal.returns-in_err-reserve-clause-memory
returns-in_err-reserve-clause-memory c =
    let xs = c.args.ranges.now.items in
    let e : is_last_continued xs c.args.range ≡ false = ap (λ (l : List Range). is_last_continued l c.args.range) (sym c.as_slice.ensures) ∙ sym c.is_last_continued.ensures ∙ c.if-is_last_continued.false in
    let full : c.args.ranges.now.capacity < length xs + 1 = no_room (length xs + 1) c.args.ranges.now.capacity (λ room. err_is_not_ok c.reserve.result (ap is_err c.in_err-reserve.was) (c.reserve.ensures.succeeds room)) in
    on_err_of c.from_residual-in_err-reserve.result (inl (omega (arith, full, ap length (apart xs c.args.range e), length-append xs (c.args.range ∷ []))))
