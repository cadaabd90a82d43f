use Rattle.std.proofs.Common.{◌++◌, ℕ, List, length, take, get_or, ap, sym, ◌∙◌, append_assoc, arith}
use Rattle.lc_range.specs.declared.range.Range.{Range}
use Rattle.lc_range.proofs.AddLemmas.{on_err_of}
use Rattle.lc_range.proofs.WalkLemmas.{end_at}
use Rattle.lc_changes.specs.Gathering.{bytes_at, part_at}
use Rattle.lc_changes.proofs.GatheredBytes.{bytes_more, part_within}
use Rattle.lc_changes.proofs.gathering.add_bytes.Goals as goal

none : Range
none = record { segment = 0; offset = 0; len = 0 }

pub part_at-requires : goal.part_at-requires
unfolding none
part_at-requires c = end_at c.args.ranges.now (length c.args.image.now) c.loop-range.range-index none c.requires c.loop-range-test.true

pub returns-in_err-extend_from_slice-clause-memory : goal.returns-in_err-extend_from_slice-clause-memory
unfolding none
returns-in_err-extend_from_slice-clause-memory c =
    let within = part_within c.args.segment c.args.image.now c.args.ranges.now c.loop-range.range-index none c.loop-range-test.true in
    on_err_of c.from_residual.result (omega (arith, within, ap (λ (l : List ℕ). length l) c.part_at.ensures, c.in_err-extend_from_slice.ensures.full))

pub loop-range-preserved : goal.loop-range-preserved
unfolding none
loop-range-preserved c =
    let old = c.args.values.now.items in
    let s = c.args.segment in
    let image = c.args.image.now in
    let ranges = c.args.ranges.now in
    let i = c.loop-range.range-index in
    let part = part_at s image (get_or ranges i none) in
    c.in_ok-extend_from_slice.ensures.items ∙ ap (λ (l : List ℕ). c.loop-range.values.items ++ l) c.part_at.ensures
    ∙ ap (λ (l : List ℕ). l ++ part) c.loop-range.invariant ∙ append_assoc old (bytes_at s image (take i ranges)) part
    ∙ ap (λ (l : List ℕ). old ++ l) (sym (bytes_more s image ranges i none c.loop-range-test.true))
