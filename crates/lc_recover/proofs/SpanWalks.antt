-- The ranges of a record, one after another.
use Rattle.std.proofs.Common.{◌≡◌, ℕ, ◌+◌, ◌*◌, ◌≤◌, List, [], ◌∷◌, length, drop, Some, sym, ◌∙◌, ap, arith}
use Rattle.std.specs.Prelude.{slice_get}
use Rattle.lc_record.specs.Record.{span_of, version_of}
use Rattle.lc_record.specs.Spans.{placed_spans}
use Rattle.lc_record.specs.declared.placed_span.PlacedSpan.{PlacedSpan}
use Rattle.lc_record.specs.declared.record.Record.{Record}
use Rattle.lc_record.specs.declared.record.RangeData.{RangeData}
use Rattle.lc_record.proofs.SpansLemmas.{span_at, no_span}
use Rattle.lc_record.proofs.ListLemmas.{slice_get-drop as at_drop}

-- so many are passed, and the rest is still to come
pub record Reached (P : ℕ → Type 0) (r : Record) (left : List PlacedSpan) : Type 0 where
  pub passed : ℕ
  pub is : left ≡ drop passed (placed_spans r)
  pub holds : P passed

-- the range that comes next
pub range-next : (P : ℕ → Type 0) (r : Record) (left behind : List PlacedSpan) (x : PlacedSpan) → left ≡ x ∷ behind → (reached : Reached P r left)
    → (range : RangeData) × (slice_get r.ranges reached.passed ≡ Some range) × (x.span ≡ span_of range) × (drop (reached.passed + 1) (placed_spans r) ≡ behind)
range-next P r left behind x is reached = span_at (version_of r.ranges) (2 + 2 * length r.locks) r.ranges reached.passed x behind (sym reached.is ∙ is)

pub reached-next : (P Q : ℕ → Type 0) (r : Record) (left behind : List PlacedSpan) (x : PlacedSpan) → left ≡ x ∷ behind → (reached : Reached P r left)
    → Q (reached.passed + 1) → Reached Q r behind
reached-next P Q r left behind x is reached holds = record { passed = reached.passed + 1; is = sym (range-next P r left behind x is reached).3; holds = holds }

pub reached-all : (P : ℕ → Type 0) (r : Record) (left : List PlacedSpan) → left ≡ [] → (reached : Reached P r left) → length r.ranges ≤ reached.passed
reached-all P r left is reached = no_span (version_of r.ranges) (2 + 2 * length r.locks) r.ranges reached.passed (sym reached.is ∙ is)

-- it is at its place among all
pub placed-next : (P : ℕ → Type 0) (r : Record) (left behind : List PlacedSpan) (x : PlacedSpan) → left ≡ x ∷ behind → (reached : Reached P r left) → slice_get (placed_spans r) reached.passed ≡ Some x
placed-next P r left behind x is reached =
    let same : reached.passed ≡ reached.passed + 0 = omega arith in
    ap (slice_get (placed_spans r)) same ∙ sym (at_drop reached.passed 0 (placed_spans r)) ∙ ap (λ (l : List PlacedSpan). slice_get l 0) (sym reached.is ∙ is)
