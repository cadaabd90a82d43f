-- The runs of marks: a set with the same positions has these runs.
use Rattle.std.proofs.Common.{◌≡◌, ◌≢◌, ◌⊎◌, ℕ, zero, suc, ◌+◌, ◌-◌, ◌<◌, ◌≤◌, Bool, true, false, ◌==◌, List, [], ◌∷◌, ◌++◌, length, refl, sym, ◌∙◌, ap, subst, arith, inl, inr, true≢false, eqb-true, eq-eqb, ne_eqb, length-append}
use Rattle.std.specs.Prelude.{◌↔◌, if◌then◌else◌}
use Rattle.lc_record.specs.Transaction.{Marks, all_set}
use Rattle.lc_record.specs.Content.{segment_of}
use Rattle.lc_record.specs.Marks.{stretches, ranges}
use Rattle.lc_range.specs.Range.{IsBefore}
use Rattle.lc_range.specs.RangeSet.{Has, LiesBefore, IsCanonical}
use Rattle.lc_range.specs.declared.range.Range.{Range}
use Rattle.lc_range.proofs.SetLemmas.{one_canonical}
use Rattle.lc_range.proofs.PartsLemmas.{has_left, has_right, has_either}

-- a position in front of runs that follow it: it joins the first where it touches it
abbrev pub with_position : ℕ → ℕ → List Range → List Range
with_position segment offset [] = record { segment = segment; offset = offset; len = 1 } ∷ []
with_position segment offset (run ∷ runs) =
    if run.offset == offset + 1
    then record { segment = segment; offset = offset; len = run.len + 1 } ∷ runs
    else record { segment = segment; offset = offset; len = 1 } ∷ (run ∷ runs)

-- the stretches of set positions of one segment, from this offset on
abbrev pub runs_from : ℕ → ℕ → List Bool → List Range
runs_from segment offset [] = []
runs_from segment offset (true ∷ marks) = with_position segment offset (runs_from segment (offset + 1) marks)
runs_from segment offset (false ∷ marks) = runs_from segment (offset + 1) marks

-- those of all segments, from this one on
abbrev pub runs_of : ℕ → Marks → List Range
runs_of segment [] = []
runs_of segment (marks ∷ segments) = runs_from segment 0 marks ++ runs_of (segment + 1) segments

-- each of these runs is of the segment, not empty, and from an offset on
abbrev pub AreFrom : ℕ → ℕ → List Range → Type 0
AreFrom segment offset [] = Unit {0}
AreFrom segment offset (run ∷ runs) = (run.segment ≡ segment) × (offset ≤ run.offset) × (1 ≤ run.len) × AreFrom segment offset runs

from_weaker : (segment one other : ℕ) (runs : List Range) → other ≤ one → AreFrom segment one runs → AreFrom segment other runs
from_weaker segment one other [] less are = tt
from_weaker segment one other (run ∷ runs) less are = (are.0, omega (arith, are.1), are.2, from_weaker segment one other runs less are.3)

-- One segment

from_position : (segment offset : ℕ) (runs : List Range) → AreFrom segment (offset + 1) runs → AreFrom segment offset (with_position segment offset runs)
from_position segment offset [] are = (refl, omega arith, omega arith, tt)
from_position segment offset (run ∷ runs) are =
    elim (run.offset == offset + 1) as (λ b. AreFrom segment offset (if b then record { segment = segment; offset = offset; len = run.len + 1 } ∷ runs else record { segment = segment; offset = offset; len = 1 } ∷ (run ∷ runs))) [
      | true ↦ (refl, omega arith, omega arith, from_weaker segment (offset + 1) offset runs (omega arith) are.3)
      | false ↦ (refl, omega arith, omega arith, from_weaker segment (offset + 1) offset (run ∷ runs) (omega arith) are)
    ]

pub from_runs : (segment offset : ℕ) (marks : List Bool) → AreFrom segment offset (runs_from segment offset marks)
from_runs segment offset [] = tt
from_runs segment offset (true ∷ marks) = from_position segment offset (runs_from segment (offset + 1) marks) (from_runs segment (offset + 1) marks)
from_runs segment offset (false ∷ marks) = from_weaker segment (offset + 1) offset (runs_from segment (offset + 1) marks) (omega arith) (from_runs segment (offset + 1) marks)

-- what lies after a run lies after a longer one with the same end
before_longer : (run longer : Range) (runs : List Range) → longer.segment ≡ run.segment → longer.offset + longer.len ≡ run.offset + run.len → LiesBefore run runs → LiesBefore longer runs
before_longer run longer [] same end before = tt
before_longer run longer (next ∷ runs) same end before = (
  (elim before.0 [
    | inl less ↦ inl (subst (λ (n : ℕ). n < next.segment) (sym same) less)
    | inr gap ↦ inr (same ∙ gap.0, omega (arith, gap.1, end))
  ]),
  before_longer run longer runs same end before.1,
)

-- the first of these runs does not begin at an offset
canonical_position : (segment offset : ℕ) (runs : List Range) → AreFrom segment (offset + 1) runs → IsCanonical runs → IsCanonical (with_position segment offset runs)
canonical_position segment offset [] are canonical = (omega arith, tt, tt)
canonical_position segment offset (run ∷ runs) are canonical =
    elim (run.offset == offset + 1) as (λ b. (run.offset == offset + 1) ≡ b → IsCanonical (if b then record { segment = segment; offset = offset; len = run.len + 1 } ∷ runs else record { segment = segment; offset = offset; len = 1 } ∷ (run ∷ runs))) [
      | true ↦ λ e.
          let touches : run.offset ≡ offset + 1 = eqb-true run.offset (offset + 1) e in
          let joined : Range = record { segment = segment; offset = offset; len = run.len + 1 } in
          (omega arith, before_longer run joined runs (sym are.0) (omega (arith, touches)) canonical.1, canonical.2)
      | false ↦ λ e.
          let apart : run.offset ≢ offset + 1 = λ same. true≢false (sym (eq-eqb run.offset (offset + 1) same) ∙ e) in
          let single : Range = record { segment = segment; offset = offset; len = 1 } in
          let gap : offset + 1 < run.offset = omega (arith, are.1, apart) in
          let first : IsBefore single run = inr (sym are.0, gap) in
          (omega arith, (first, before_chain single run runs first canonical.0 canonical.1), canonical)
    ] refl
  where
    before_chain : (a b : Range) (runs : List Range) → IsBefore a b → 1 ≤ b.len → LiesBefore b runs → LiesBefore a runs
    before_chain a b [] first some before = tt
    before_chain a b (next ∷ runs) first some before = (chain, before_chain a b runs first some before.1)
      where
        chain : IsBefore a next
        chain = elim first [
          | inl less ↦ elim before.0 [
            | inl later ↦ inl (omega (arith, less, later))
            | inr gap ↦ inl (subst (λ (n : ℕ). a.segment < n) gap.0 less)
          ]
          | inr here ↦ elim before.0 [
            | inl later ↦ inl (subst (λ (n : ℕ). n < next.segment) (sym here.0) later)
            | inr gap ↦ inr (here.0 ∙ gap.0, omega (arith, here.1, gap.1, some))
          ]
        ]

pub canonical_runs : (segment offset : ℕ) (marks : List Bool) → IsCanonical (runs_from segment offset marks)
canonical_runs segment offset [] = tt
canonical_runs segment offset (true ∷ marks) = canonical_position segment offset (runs_from segment (offset + 1) marks) (from_runs segment (offset + 1) marks) (canonical_runs segment (offset + 1) marks)
canonical_runs segment offset (false ∷ marks) = canonical_runs segment (offset + 1) marks

-- its positions

has_position : (segment offset s k : ℕ) (runs : List Range) → AreFrom segment (offset + 1) runs →
    Has (with_position segment offset runs) s k ↔ (((s ≡ segment) × (k ≡ offset)) ⊎ Has runs s k)
has_position segment offset s k [] are = (
  (λ has. elim has [ inl here ↦ inl (here.0, omega (arith, here.1, here.2)) | inr none ↦ absurd none ]),
  (λ has. elim has [ inl here ↦ inl (here.0, omega (arith, here.1), omega (arith, here.1)) | inr none ↦ absurd none ]),
)
has_position segment offset s k (run ∷ runs) are =
    elim (run.offset == offset + 1) as (λ b. (run.offset == offset + 1) ≡ b → Has (if b then record { segment = segment; offset = offset; len = run.len + 1 } ∷ runs else record { segment = segment; offset = offset; len = 1 } ∷ (run ∷ runs)) s k ↔ (((s ≡ segment) × (k ≡ offset)) ⊎ Has (run ∷ runs) s k)) [
      | true ↦ λ e.
          let touches : run.offset ≡ offset + 1 = eqb-true run.offset (offset + 1) e in (
            (λ has. elim has [
              | inl here ↦ elim (at_or_behind k offset here.1) [
                | inl same ↦ inl (here.0, same)
                | inr behind ↦ inr (inl (here.0 ∙ sym are.0, omega (arith, behind, touches), omega (arith, here.2, touches)))
              ]
              | inr later ↦ inr (inr later)
            ]),
            (λ has. elim has [
              | inl here ↦ inl (here.0, omega (arith, here.1), omega (arith, here.1))
              | inr later ↦ elim later [
                | inl in_run ↦ inl (in_run.0 ∙ are.0, omega (arith, in_run.1, touches), omega (arith, in_run.2, touches))
                | inr behind ↦ inr behind
              ]
            ]),
          )
      | false ↦ λ e. (
        (λ has. elim has [
          | inl here ↦ inl (here.0, omega (arith, here.1, here.2))
          | inr later ↦ inr later
        ]),
        (λ has. elim has [
          | inl here ↦ inl (here.0, omega (arith, here.1), omega (arith, here.1))
          | inr later ↦ inr later
        ]),
      )
    ] refl
  where
    at_or_behind : (k offset : ℕ) → offset ≤ k → (k ≡ offset) ⊎ (offset + 1 ≤ k)
    at_or_behind k offset least = grind arith

-- a position of the segment from an offset on is marked
abbrev IsMarked : ℕ → ℕ → List Bool → ℕ → ℕ → Type 0
IsMarked segment offset marks s k = (s ≡ segment) × (offset ≤ k) × (all_set (k - offset) 1 marks ≡ true)

marked_first : (segment offset s k : ℕ) (marks : List Bool) →
    IsMarked segment offset (true ∷ marks) s k ↔ (((s ≡ segment) × (k ≡ offset)) ⊎ IsMarked segment (offset + 1) marks s k)
marked_first segment offset s k marks = (to, from)
  where
    to : IsMarked segment offset (true ∷ marks) s k → ((s ≡ segment) × (k ≡ offset)) ⊎ IsMarked segment (offset + 1) marks s k
    to is = elim (split_at k offset is.1) [
      | inl same ↦ inl (is.0, same)
      | inr behind ↦ inr (is.0, behind.0, sym (ap (λ n. all_set n 1 (true ∷ marks)) behind.1) ∙ is.2)
    ]
      where
        split_at : (k offset : ℕ) → offset ≤ k → (k ≡ offset) ⊎ ((offset + 1 ≤ k) × (k - offset ≡ suc (k - (offset + 1))))
        split_at k offset least = grind arith

    from : ((s ≡ segment) × (k ≡ offset)) ⊎ IsMarked segment (offset + 1) marks s k → IsMarked segment offset (true ∷ marks) s k
    from is = elim is [
      | inl same ↦ (same.0, omega (arith, same.1), ap (λ n. all_set n 1 (true ∷ marks)) (here k offset same.1))
      | inr behind ↦ (behind.0, omega (arith, behind.1), ap (λ n. all_set n 1 (true ∷ marks)) (next k offset behind.1) ∙ behind.2)
    ]
      where
        here : (k offset : ℕ) → k ≡ offset → k - offset ≡ 0
        here k offset same = omega (arith, same)

        next : (k offset : ℕ) → offset + 1 ≤ k → k - offset ≡ suc (k - (offset + 1))
        next k offset least = omega arith

marked_later : (segment offset s k : ℕ) (marks : List Bool) →
    IsMarked segment offset (false ∷ marks) s k ↔ IsMarked segment (offset + 1) marks s k
marked_later segment offset s k marks = (to, from)
  where
    to : IsMarked segment offset (false ∷ marks) s k → IsMarked segment (offset + 1) marks s k
    to is = elim (split_at k offset is.1) [
      | inl same ↦ absurd (true≢false (sym is.2 ∙ ap (λ n. all_set n 1 (false ∷ marks)) same))
      | inr behind ↦ (is.0, behind.0, sym (ap (λ n. all_set n 1 (false ∷ marks)) behind.1) ∙ is.2)
    ]
      where
        split_at : (k offset : ℕ) → offset ≤ k → (k - offset ≡ 0) ⊎ ((offset + 1 ≤ k) × (k - offset ≡ suc (k - (offset + 1))))
        split_at k offset least = grind arith

    from : IsMarked segment (offset + 1) marks s k → IsMarked segment offset (false ∷ marks) s k
    from is = (is.0, omega (arith, is.1), ap (λ n. all_set n 1 (false ∷ marks)) (next k offset is.1) ∙ is.2)
      where
        next : (k offset : ℕ) → offset + 1 ≤ k → k - offset ≡ suc (k - (offset + 1))
        next k offset least = omega arith

-- no position of an empty list is marked
unmarked : (place : ℕ) → all_set place 1 [] ≡ false
unmarked zero = refl
unmarked (suc place) = refl

has_runs : (segment offset s k : ℕ) (marks : List Bool) → Has (runs_from segment offset marks) s k ↔ IsMarked segment offset marks s k
has_runs segment offset s k [] = ((λ has. absurd has), (λ is. absurd (true≢false (sym is.2 ∙ unmarked (k - offset)))))
has_runs segment offset s k (true ∷ marks) =
    let first : Has (with_position segment offset (runs_from segment (offset + 1) marks)) s k ↔ (((s ≡ segment) × (k ≡ offset)) ⊎ Has (runs_from segment (offset + 1) marks) s k)
    = has_position segment offset s k (runs_from segment (offset + 1) marks) (from_runs segment (offset + 1) marks) in
    let others : Has (runs_from segment (offset + 1) marks) s k ↔ IsMarked segment (offset + 1) marks s k = has_runs segment (offset + 1) s k marks in
    let is : IsMarked segment offset (true ∷ marks) s k ↔ (((s ≡ segment) × (k ≡ offset)) ⊎ IsMarked segment (offset + 1) marks s k) = marked_first segment offset s k marks in (
      (λ has. is.1 (elim (first.0 has) [ inl here ↦ inl here | inr later ↦ inr (others.0 later) ])),
      (λ marked. first.1 (elim (is.0 marked) [ inl here ↦ inl here | inr later ↦ inr (others.1 later) ])),
    )
has_runs segment offset s k (false ∷ marks) =
    let others : Has (runs_from segment (offset + 1) marks) s k ↔ IsMarked segment (offset + 1) marks s k = has_runs segment (offset + 1) s k marks in
    let is : IsMarked segment offset (false ∷ marks) s k ↔ IsMarked segment (offset + 1) marks s k = marked_later segment offset s k marks in
    ((λ has. is.1 (others.0 has)), (λ marked. others.1 (is.0 marked)))

pub has_marks : (segment s k : ℕ) (marks : List Bool) → Has (runs_from segment 0 marks) s k ↔ ((s ≡ segment) × (all_set k 1 marks ≡ true))
has_marks segment s k marks =
    let both : Has (runs_from segment 0 marks) s k ↔ IsMarked segment 0 marks s k = has_runs segment 0 s k marks in
    let same : k - 0 ≡ k = omega arith in
    ((λ has. ((both.0 has).0, sym (ap (λ n. all_set n 1 marks) same) ∙ (both.0 has).2)), (λ is. both.1 (is.0, omega arith, ap (λ n. all_set n 1 marks) same ∙ is.1)))

-- how many there are

-- 1 where the first of these runs begins at an offset, else 0
abbrev begun_at : ℕ → List Range → ℕ
begun_at offset [] = 0
begun_at offset (run ∷ runs) = if run.offset == offset then 1 else 0

count_position : (segment offset : ℕ) (runs : List Range) → length (with_position segment offset runs) + begun_at (offset + 1) runs ≡ length runs + 1
count_position segment offset [] = refl
count_position segment offset (run ∷ runs) =
    elim (run.offset == offset + 1) as (λ b. length (if b then record { segment = segment; offset = offset; len = run.len + 1 } ∷ runs else record { segment = segment; offset = offset; len = 1 } ∷ (run ∷ runs)) + (if b then 1 else 0) ≡ length (run ∷ runs) + 1) [
      | true ↦ refl
      | false ↦ omega arith
    ]

-- runs from the place after an offset on do not begin there
begun_behind : (segment offset : ℕ) (runs : List Range) → AreFrom segment (offset + 1) runs → begun_at offset runs ≡ 0
begun_behind segment offset [] are = refl
begun_behind segment offset (run ∷ runs) are =
    let differ : run.offset ≢ offset = omega (arith, are.1) in
    rw (ne_eqb run.offset offset differ) refl

begun_position : (segment offset : ℕ) (runs : List Range) → begun_at offset (with_position segment offset runs) ≡ 1
begun_position segment offset [] = rw (eq-eqb offset offset refl) refl
begun_position segment offset (run ∷ runs) =
    elim (run.offset == offset + 1) as (λ b. begun_at offset (if b then record { segment = segment; offset = offset; len = run.len + 1 } ∷ runs else record { segment = segment; offset = offset; len = 1 } ∷ (run ∷ runs)) ≡ 1) [
      | true ↦ rw (eq-eqb offset offset refl) refl
      | false ↦ rw (eq-eqb offset offset refl) refl
    ]

-- after a set position the first stretch goes on
count_both : (segment offset : ℕ) (marks : List Bool) → (length (runs_from segment offset marks) ≡ stretches false marks)
    × (stretches true marks + begun_at offset (runs_from segment offset marks) ≡ stretches false marks)
count_both segment offset [] = (refl, refl)
count_both segment offset (true ∷ marks) =
    let runs : List Range = runs_from segment (offset + 1) marks in
    let behind : (length runs ≡ stretches false marks) × (stretches true marks + begun_at (offset + 1) runs ≡ stretches false marks) = count_both segment (offset + 1) marks in
    let count : length (with_position segment offset runs) + begun_at (offset + 1) runs ≡ length runs + 1 = count_position segment offset runs in (
      by_numbers (length (with_position segment offset runs)) (begun_at (offset + 1) runs) (length runs) (stretches false marks) (stretches true marks) count behind.0 behind.1,
      ap (λ n. stretches true marks + n) (begun_position segment offset runs) ∙ swap (stretches true marks),
    )
  where
    by_numbers : (n b r f t : ℕ) → n + b ≡ r + 1 → r ≡ f → t + b ≡ f → n ≡ 1 + t
    by_numbers n b r f t count one two = omega arith

    swap : (t : ℕ) → t + 1 ≡ 1 + t
    swap t = omega arith
count_both segment offset (false ∷ marks) =
    let runs : List Range = runs_from segment (offset + 1) marks in
    let behind : (length runs ≡ stretches false marks) × (stretches true marks + begun_at (offset + 1) runs ≡ stretches false marks) = count_both segment (offset + 1) marks in
    (behind.0, ap (λ n. stretches false marks + n) (begun_behind segment offset runs (from_runs segment (offset + 1) marks)) ∙ nothing (stretches false marks))
  where
    nothing : (n : ℕ) → n + 0 ≡ n
    nothing n = omega arith

pub count_runs : (segment : ℕ) (marks : List Bool) → length (runs_from segment 0 marks) ≡ stretches false marks
count_runs segment marks = (count_both segment 0 marks).0

-- All segments

-- each of these runs is of this segment or a later one
abbrev pub AreAbove : ℕ → List Range → Type 0
AreAbove segment [] = Unit {0}
AreAbove segment (run ∷ runs) = (segment ≤ run.segment) × AreAbove segment runs

above_weaker : (one other : ℕ) (runs : List Range) → other ≤ one → AreAbove one runs → AreAbove other runs
above_weaker one other [] less are = tt
above_weaker one other (run ∷ runs) less are = (omega (arith, are.0), above_weaker one other runs less are.1)

above_joined : (segment offset : ℕ) (xs ys : List Range) → AreFrom segment offset xs → AreAbove segment ys → AreAbove segment (xs ++ ys)
above_joined segment offset [] ys are above = above
above_joined segment offset (run ∷ runs) ys are above = (omega (arith, are.0), above_joined segment offset runs ys are.3 above)

pub above_runs : (first : ℕ) (segments : Marks) → AreAbove first (runs_of first segments)
above_runs first [] = tt
above_runs first (marks ∷ segments) =
    above_joined first 0 (runs_from first 0 marks) (runs_of (first + 1) segments) (from_runs first 0 marks)
    (above_weaker (first + 1) first (runs_of (first + 1) segments) (omega arith) (above_runs (first + 1) segments))

before_above : (segment : ℕ) (run : Range) (runs : List Range) → run.segment ≡ segment → AreAbove (segment + 1) runs → LiesBefore run runs
before_above segment run [] same above = tt
before_above segment run (next ∷ runs) same above = (inl (omega (arith, above.0, same)), before_above segment run runs same above.1)

before_joined : (run : Range) (xs ys : List Range) → LiesBefore run xs → LiesBefore run ys → LiesBefore run (xs ++ ys)
before_joined run [] ys one two = two
before_joined run (x ∷ xs) ys one two = (one.0, before_joined run xs ys one.1 two)

canonical_joined : (segment offset : ℕ) (xs ys : List Range) → AreFrom segment offset xs → IsCanonical xs → AreAbove (segment + 1) ys → IsCanonical ys → IsCanonical (xs ++ ys)
canonical_joined segment offset [] ys are one above two = two
canonical_joined segment offset (x ∷ xs) ys are one above two =
    (one.0, before_joined x xs ys one.1 (before_above segment x ys are.0 above), canonical_joined segment offset xs ys are.3 one.2 above two)

pub canonical_all : (first : ℕ) (segments : Marks) → IsCanonical (runs_of first segments)
canonical_all first [] = tt
canonical_all first (marks ∷ segments) =
    canonical_joined first 0 (runs_from first 0 marks) (runs_of (first + 1) segments) (from_runs first 0 marks) (canonical_runs first 0 marks)
    (above_runs (first + 1) segments) (canonical_all (first + 1) segments)

has_joined : (xs ys : List Range) (s k : ℕ) → Has (xs ++ ys) s k ↔ (Has xs s k ⊎ Has ys s k)
has_joined xs ys s k = (has_either xs ys s k, (λ has. elim has [ inl one ↦ has_left xs ys s k one | inr two ↦ has_right xs ys s k two ]))

-- a position is marked in the segments that are counted from this one on
abbrev IsMarkedIn : ℕ → Marks → ℕ → ℕ → Type 0
IsMarkedIn first segments s k = (i : ℕ) × (s ≡ first + i) × (all_set k 1 (segment_of (suc i) segments) ≡ true)

has_all : (first s k : ℕ) (segments : Marks) → Has (runs_of first segments) s k ↔ IsMarkedIn first segments s k
has_all first s k [] = ((λ has. absurd has), (λ is. absurd (true≢false (sym is.2 ∙ unmarked k))))
has_all first s k (marks ∷ segments) =
    let front : Has (runs_from first 0 marks) s k ↔ ((s ≡ first) × (all_set k 1 marks ≡ true)) = has_marks first s k marks in
    let behind : Has (runs_of (first + 1) segments) s k ↔ IsMarkedIn (first + 1) segments s k = has_all (first + 1) s k segments in
    let parts : Has (runs_from first 0 marks ++ runs_of (first + 1) segments) s k ↔ (Has (runs_from first 0 marks) s k ⊎ Has (runs_of (first + 1) segments) s k)
    = has_joined (runs_from first 0 marks) (runs_of (first + 1) segments) s k in (
      (λ has. elim (parts.0 has) [
        | inl here ↦ (0, omega (arith, (front.0 here).0), (front.0 here).1)
        | inr later ↦ let is : IsMarkedIn (first + 1) segments s k = behind.0 later in (suc is.0, omega (arith, is.1), is.2)
      ]),
      (λ is. parts.1 (by_index behind.1 is.0 is.1 is.2)),
    )
  where
    by_index : (IsMarkedIn (first + 1) segments s k → Has (runs_of (first + 1) segments) s k) → (i : ℕ) → s ≡ first + i → all_set k 1 (segment_of (suc i) (marks ∷ segments)) ≡ true
        → Has (runs_from first 0 marks) s k ⊎ Has (runs_of (first + 1) segments) s k
    by_index back zero same set = inl ((has_marks first s k marks).1 (omega (arith, same), set))
    by_index back (suc i) same set = inr (back (i, omega (arith, same), set))

pub has_positions : (segments : Marks) (s k : ℕ) → Has (runs_of 1 segments) s k ↔ (all_set k 1 (segment_of s segments) ≡ true)
has_positions segments s k = (to, from s)
  where
    to : Has (runs_of 1 segments) s k → all_set k 1 (segment_of s segments) ≡ true
    to has =
        let is : IsMarkedIn 1 segments s k = (has_all 1 s k segments).0 has in
        let same : s ≡ suc is.0 = omega (arith, is.1) in
        ap (λ n. all_set k 1 (segment_of n segments)) same ∙ is.2

    none_at : (xs : Marks) → segment_of 0 xs ≡ []
    none_at [] = refl
    none_at (x ∷ xs) = refl

    from : (n : ℕ) → all_set k 1 (segment_of n segments) ≡ true → Has (runs_of 1 segments) n k
    from zero set = absurd (true≢false (sym set ∙ ap (all_set k 1) (none_at segments) ∙ unmarked k))
    from (suc i) set = (has_all 1 (suc i) k segments).1 (i, omega arith, set)

pub count_all : (first : ℕ) (segments : Marks) → length (runs_of first segments) ≡ ranges segments
count_all first [] = refl
count_all first (marks ∷ segments) =
    length-append (runs_from first 0 marks) (runs_of (first + 1) segments)
    ∙ ap (λ n. n + length (runs_of (first + 1) segments)) (count_runs first marks)
    ∙ ap (λ n. stretches false marks + n) (count_all (first + 1) segments)

-- a set with the marked positions has the runs of the marks
pub set_is_runs : (set : List Range) (marks : Marks) → IsCanonical set → ((s k : ℕ) → Has set s k ↔ (all_set k 1 (segment_of s marks) ≡ true)) → set ≡ runs_of 1 marks
set_is_runs set marks canonical same = one_canonical set (runs_of 1 marks) canonical (canonical_all 1 marks) (λ s k.
    ((λ has. (has_positions marks s k).1 ((same s k).0 has)), (λ has. (same s k).1 ((has_positions marks s k).0 has))))
