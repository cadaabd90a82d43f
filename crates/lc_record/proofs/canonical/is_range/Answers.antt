use Rattle.std.proofs.Common.{◌≤◌, ◌≡◌, ℕ, List, length, arith, sym, ◌∙◌, ap, subst}
use Rattle.std.proofs.lemmas.Bool.{eqb-false, leb-true, le-leb}
use Rattle.lc_record.specs.Words.{AreBytes}
use Rattle.lc_record.proofs.canonical.is_range.Goals as goal

pub returns-then-not-is_empty : goal.returns-then-not-is_empty
returns-then-not-is_empty c =
    let bytes = c.as_slice-bytes.result.now in
    let some : 1 ≤ length bytes = omega (arith, eqb-false _ _ (sym c.is_empty.ensures ∙ c.if-not-is_empty.true)) in
    let same : bytes ≡ c.args.range.now.bytes = c.as_slice-bytes.ensures in
    let long = ap (λ (l : List ℕ). length l) same in
    (λ is. (omega (arith, some, long), omega (arith, leb-true _ _ is, long), subst AreBytes same c.are_bytes.ensures), λ is. le-leb _ _ (omega (arith, is.1, long)))
