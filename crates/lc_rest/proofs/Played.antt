-- What a replay plays is what the records make of the pages.
use Rattle.std.proofs.Common.{◌≡◌, ℕ, ◌+◌, ◌*◌, ◌≤◌, Bool, true, false, ◌==◌, List, [], ◌∷◌, ◌++◌, map, length, take, drop, All, refl, sym, ◌∙◌, ap, subst, arith, inl, inr, eqb-true}
use Rattle.std.specs.Prelude.{if◌then◌else◌}
use Rattle.std.proofs.lemmas.Bool.{eqb-false, cases_lt}
use Rattle.std.proofs.lemmas.List.{drop-append-le, take-append-le, take_all, length-drop, length-append, take-append-drop}
use Rattle.std.proofs.Math.Seq.{drop-append_seam}
use Rattle.lc_page.specs.Page.{page_in}
use Rattle.std.proofs.lemmas.List.Elements.{All-head, All-tail, All-take}
use Rattle.lc_record.specs.Content.{Content, put, on_segment, segment_of}
use Rattle.lc_record.specs.Recorded.{counted, laid}
use Rattle.lc_record.specs.declared.geometry.Geometry.{Geometry}
use Rattle.lc_record.specs.declared.record.RangeData.{RangeData}
use Rattle.lc_record.specs.declared.record.Record.{Record}
use Rattle.lc_record.proofs.SegmentLemmas.{segment_of-same, segment_of-other}
use Rattle.lc_model.specs.Merge.{Page}
use Rattle.lc_model.specs.Merging.{counted_all, put_on}
use Rattle.lc_rest.specs.Pages.{as_read}
use Rattle.lc_rest.specs.Adopted.{IsReplayed, IsTaken, transaction_of}
use Rattle.lc_rest.specs.Replay.{AreBytes, IsPlayed, bytes_after, laid_on, number_after, part_at, range_on}
use Rattle.lc_rest.proofs.Within.{sets-lock}

one-range : (segment : ℕ) (range : RangeData) (content : Content) → segment_of segment (on_segment range.segment (put range.offset range.bytes) content) ≡ range_on segment range (segment_of segment content)
one-range segment range content = go (range.segment == segment) refl
  where
    go : (b : Bool) → (range.segment == segment) ≡ b → segment_of segment (on_segment range.segment (put range.offset range.bytes) content) ≡ (if b then put range.offset range.bytes (segment_of segment content) else segment_of segment content)
    go true is = subst (λ s. segment_of s (on_segment range.segment (put range.offset range.bytes) content) ≡ put range.offset range.bytes (segment_of s content)) (eqb-true range.segment segment is)
        (segment_of-same range.segment (put range.offset range.bytes) content refl)
    go false is = segment_of-other segment range.segment (put range.offset range.bytes) content (λ same. eqb-false range.segment segment is (sym same))

laid-of : (segment : ℕ) (ranges : List RangeData) (content : Content) → segment_of segment (laid ranges content) ≡ laid_on segment ranges (segment_of segment content)
laid-of segment [] content = refl
laid-of segment (range ∷ ranges) content = laid-of segment ranges (on_segment range.segment (put range.offset range.bytes) content) ∙ ap (laid_on segment ranges) (one-range segment range content)

pub bytes-put : (segment : ℕ) (rs : List Record) (content : Content) → bytes_after segment rs (segment_of segment content) ≡ segment_of segment (put_on rs content)
bytes-put segment [] content = refl
bytes-put segment (r ∷ rs) content = ap (bytes_after segment rs) (sym (laid-of segment r.ranges content)) ∙ bytes-put segment rs (laid r.ranges content)

pub number-counted : (g : Geometry) (segment : ℕ) (rs : List Record) (numbers : ℕ → ℕ) → All (IsTaken g) rs → number_after segment rs (numbers segment) ≡ counted_all numbers (map (transaction_of g) rs) segment
number-counted g segment [] numbers taken = refl
number-counted g segment (r ∷ rs) numbers taken =
    ap (λ (b : Bool). number_after segment rs (if b then numbers segment + 1 else numbers segment)) (sym (sets-lock g r segment (All-head (IsTaken g) r rs taken)))
    ∙ number-counted g segment rs (counted numbers (transaction_of g r)) (All-tail (IsTaken g) r rs taken)

pub replayed-own : (g : Geometry) (rs : List Record) (numbers : ℕ → ℕ) (base : Content) (segment page : ℕ) (text : Page) → All (IsTaken g) rs → IsPlayed segment (numbers segment) rs (segment_of segment base) page (as_read text)
    → IsReplayed g rs numbers base segment page text
replayed-own g rs numbers base segment page text taken is = record {
  before = take is.turns rs;
  behind = drop is.turns rs;
  parts = sym (take-append-drop is.turns rs);
  count = sym (number-counted g segment (take is.turns rs) numbers (All-take (IsTaken g) is.turns rs taken)) ∙ is.count;
  bytes = is.bytes ∙ ap (part_at page) (bytes-put segment (take is.turns rs) base);
}

-- One page more is read

pub bytes-read : (area : List ℕ) (n : ℕ) (bytes next : List ℕ) → AreBytes area n bytes → length next ≡ 256 → next ≡ (page_in area n).content → AreBytes area (n + 1) (bytes ++ next)
bytes-read area n bytes next so_far long next_is = record {
  len = length-append bytes next ∙ omega (arith, so_far.len, long);
  each = λ p less. elim (cases_lt p n) [
    | inl before ↦
        let inside : p * 256 ≤ length bytes = omega (arith, before, so_far.len) in
        let enough : 256 ≤ length (drop (p * 256) bytes) = omega (arith, before, so_far.len, length-drop (p * 256) bytes) in
        ap (take 256) (drop-append-le (p * 256) bytes next inside)
        ∙ take-append-le 256 (drop (p * 256) bytes) next enough ∙ so_far.each p before
    | inr not_before ↦
        let here : p ≡ n = omega (arith, less, not_before) in
        let at_end : length bytes ≡ p * 256 = so_far.len ∙ ap (λ (k : ℕ). k * 256) (sym here) in
        ap (take 256) (subst (λ (k : ℕ). drop k (bytes ++ next) ≡ next) at_end (drop-append_seam bytes next))
        ∙ take_all 256 next (omega (arith, long)) ∙ next_is ∙ ap (λ (k : ℕ). (page_in area k).content) (sym here)
  ];
}
