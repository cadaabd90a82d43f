-- The walk over the runs that some positions touch.
use Rattle.std.proofs.Common.{◌≡◌, ℕ, zero, suc, ◌+◌, ◌-◌, ◌<◌, ◌≤◌, true, false, ltb, List, [], ◌∷◌, ◌++◌, length, get_or, drop, refl, sym, ap, subst, ◌∙◌, inl, inr, arith, length-append}
use Rattle.std.specs.Prelude.{Result, Ok, Err, OnOk, OnErr}
use Rattle.std.specs.List.Sorted.{IsPartitionPoint}
use Rattle.std.proofs.lemmas.List.{append_assoc}
use Rattle.std.proofs.lemmas.Bool.{cases_Bool, cases_lt, cond-true, cond-false, and_from, eq-eqb, lt-ltb, ltb-true}
use Rattle.lc_range.specs.RangeSet.{LiesBefore, IsCanonical, EndWithin}
use Rattle.lc_range.specs.Walk.{is_before, piece, is_in_way, parts}
use Rattle.lc_range.specs.Undo.{OldBytes, TakeMemory, bytes_kept, first_bytes}
use Rattle.lc_range.specs.Copies.{with_copies}
use Rattle.lc_range.specs.declared.range.Range.{Range}
use Rattle.lc_range.proofs.RangeLemmas.{before_is, not_before, touch}
use Rattle.lc_range.proofs.PartsLemmas.{in_way}
use Rattle.lc_range.proofs.GrowLemmas.{with_copies-append, first_with_copies, take_more}

-- Pieces

pub full : (s from to : ℕ) → from < to → piece s from to ≡ record { segment = s; offset = from; len = to - from } ∷ []
full s from to less = cond-true (ltb from to) (record { segment = s; offset = from; len = to - from } ∷ []) [] (lt-ltb from to less)

empty : (s from to : ℕ) → to ≤ from → piece s from to ≡ []
empty s from to more = elim (cases_Bool (ltb from to)) [
  | inl e ↦ absurd (omega (arith, more, ltb-true from to e))
  | inr e ↦ cond-false (ltb from to) (record { segment = s; offset = from; len = to - from } ∷ []) [] e
]

-- Runs that are not in the way

way_is_free : (run : Range) (s from to : ℕ) → (run.segment ≡ s → run.offset < to → from < run.offset + run.len → ⊥) → is_in_way run s from to ≡ false
way_is_free run s from to not = elim (cases_Bool (is_in_way run s from to)) [
  | inl e ↦ let w = in_way run s from to e in absurd (not w.0 w.1 w.2)
  | inr e ↦ e
]

-- none of these runs begins before a position of a segment
abbrev AreBeyond : List Range → ℕ → ℕ → Type 0
AreBeyond [] s to = Unit {0}
AreBeyond (run ∷ runs) s to = (run.segment ≡ s → to ≤ run.offset) × AreBeyond runs s to

beyond : (runs : List Range) (s from to : ℕ) → AreBeyond runs s to → parts s from to runs ≡ piece s from to
beyond [] s from to are = refl
beyond (run ∷ runs) s from to are =
    cond-false (is_in_way run s from to) (piece s from run.offset ++ parts s (run.offset + run.len) to runs) (parts s from to runs)
    (way_is_free run s from to (λ same less near. omega (arith, are.0 same, less)))
    ∙ beyond runs s from to are.1

later_beyond : (run : Range) (runs : List Range) (s to : ℕ) → LiesBefore run runs → s ≤ run.segment → (run.segment ≡ s → to ≤ run.offset) → AreBeyond runs s to
later_beyond run [] s to before le at = tt
later_beyond run (next ∷ runs) s to before le at =
    (λ same. elim before.0 [ inl less ↦ absurd (omega (arith, less, same, le)) | inr both ↦ omega (arith, both.1, at (both.0 ∙ same)) ], later_beyond run runs s to before.1 le at)

-- a run after these positions, and all later ones
pub behind_all : (range run : Range) (runs : List Range) (s from to : ℕ) → range.segment ≡ s → range.offset + range.len ≡ to → is_before range run ≡ true → IsCanonical (run ∷ runs) → parts s from to (run ∷ runs) ≡ piece s from to
behind_all range run runs s from to same end e c =
    let at : run.segment ≡ s → to ≤ run.offset = λ here. elim (before_is range run e) [ inl less ↦ absurd (omega (arith, less, here, same)) | inr both ↦ omega (arith, both.1, end) ] in
    let le : s ≤ run.segment = elim (before_is range run e) [ inl less ↦ omega (arith, less, same) | inr both ↦ omega (arith, both.0, same) ] in
    beyond (run ∷ runs) s from to (at, later_beyond run runs s to c.1 le at)

-- the runs that lie before these positions
pub before_all : (range : Range) (runs : List Range) (i s to : ℕ) → range.segment ≡ s → i ≤ length runs → ((k : ℕ) (d : Range) → 0 ≤ k → k < i → is_before (get_or runs k d) range ≡ true)
    → parts s range.offset to runs ≡ parts s range.offset to (drop i runs)
before_all range runs zero s to same within before = refl
before_all range [] (suc i) s to same within before = absurd (omega (arith, within))
before_all range (run ∷ runs) (suc i) s to same within before =
    cond-false (is_in_way run s range.offset to) (piece s range.offset run.offset ++ parts s (run.offset + run.len) to runs) (parts s range.offset to runs)
    (way_is_free run s range.offset to (λ here less near. elim (before_is run range (before 0 run (omega arith) (omega arith))) [ inl earlier ↦ omega (arith, earlier, here, same) | inr both ↦ omega (arith, both.1, near) ]))
    ∙ before_all range runs i s to same (omega (arith, within)) (λ k d low high. before (suc k) d (omega arith) (omega (arith, high)))

-- none of these runs lies before a range
abbrev pub AreFrom : Range → List Range → Type 0
AreFrom range [] = Unit {0}
AreFrom range (run ∷ runs) = (is_before run range ≡ false) × AreFrom range runs

pub from_place : (range : Range) (runs : List Range) (i : ℕ) → ((k : ℕ) (d : Range) → i ≤ k → k < length runs → is_before (get_or runs k d) range ≡ false) → AreFrom range (drop i runs)
from_place range [] zero behind = tt
from_place range [] (suc i) behind = tt
from_place range (run ∷ runs) zero behind = (behind 0 run (omega arith) (omega arith), from_place range runs zero (λ k d low high. behind (suc k) d (omega arith) (omega (arith, high))))
from_place range (run ∷ runs) (suc i) behind = from_place range runs i (λ k d low high. behind (suc k) d (omega (arith, low)) (omega (arith, high)))

-- each of these runs ends at a position of its segment or after that
abbrev pub AreNear : ℕ → ℕ → List Range → Type 0
AreNear s from [] = Unit {0}
AreNear s from (run ∷ runs) = (run.segment ≡ s → from ≤ run.offset + run.len) × AreNear s from runs

near_first : (range : Range) (runs : List Range) → AreFrom range runs → AreNear range.segment range.offset runs
near_first range [] are = tt
near_first range (run ∷ runs) are = (λ same. at_most (run.offset + run.len) range.offset (λ less. not_before run range are.0 (inr (same, less))), near_first range runs are.1)
  where
    at_most : (m n : ℕ) → (m < n → ⊥) → n ≤ m
    at_most m n not = omega (arith, not)

near_next : (run : Range) (runs : List Range) (s : ℕ) → run.segment ≡ s → LiesBefore run runs → AreNear s (run.offset + run.len) runs
near_next run [] s same before = tt
near_next run (next ∷ runs) s same before =
    (λ here. elim before.0 [ inl less ↦ absurd (omega (arith, less, here, same)) | inr both ↦ omega (arith, both.1) ], near_next run runs s same before.1)

-- The walk: what stands in front of these runs is copied

pub record Walked (old now : List OldBytes) (image : List ℕ) (s offset from to : ℕ) (runs rest : List Range) : Type 0 where
  pub done : List Range
  pub grows : now ≡ with_copies old image done
  pub parts_are : done ++ parts s from to rest ≡ parts s offset to runs
  pub near : AreNear s from rest

pub walk_starts : (old : List OldBytes) (image : List ℕ) (range : Range) (to i : ℕ) (runs rest : List Range) → rest ≡ drop i runs → i ≤ length runs
    → IsPartitionPoint (λ run. is_before run range ≡ true) (λ run. is_before run range ≡ false) runs i → Walked old old image range.segment range.offset range.offset to runs rest
walk_starts old image range to i runs rest same within place = record {
  done = [];
  grows = refl;
  parts_are = ap (parts range.segment range.offset to) same ∙ sym (before_all range runs i range.segment to refl within place.0);
  near = subst (λ (l : List Range). AreNear range.segment range.offset l) (sym same) (near_first range (drop i runs) (from_place range runs i place.1));
}

-- one run more
one_more : (range run : Range) (rest : List Range) (from to : ℕ) → range.offset + range.len ≡ to → IsCanonical (run ∷ rest) → is_before run range ≡ false → is_before range run ≡ false
    → (run.segment ≡ range.segment → from ≤ run.offset + run.len) → piece range.segment from run.offset ++ parts range.segment (run.offset + run.len) to rest ≡ parts range.segment from to (run ∷ rest)
one_more range run rest from to end c one two near =
    let s : ℕ = range.segment in
    let t = touch run range (not_before run range one) (not_before range run two) in
    let here : run.segment ≡ s = t.segment in
    let both : List Range = piece s from run.offset ++ parts s (run.offset + run.len) to rest in
    elim (cases_Bool (is_in_way run s from to)) [
      | inl e ↦ sym (cond-true (is_in_way run s from to) both (parts s from to rest) e)
      | inr e ↦ elim (cases_lt run.offset to) [
        | inl less ↦
            let at : run.offset + run.len ≡ from = joins run.offset run.len from (near here) (λ near. in_way_then run s from to here less near e) in
            ap (λ (l : List Range). l ++ parts s (run.offset + run.len) to rest) (empty s from run.offset (omega (arith, at, c.0))) ∙ ap (λ (n : ℕ). parts s n to rest) at
            ∙ sym (cond-false (is_in_way run s from to) both (parts s from to rest) e)
        | inr more ↦
            let at : run.offset ≡ to = same_end run.offset to (range.offset + range.len) end t.this more in
            let are = later_beyond run rest s to c.1 (omega (arith, here)) (λ same. omega (arith, at)) in
            ap (λ (l : List Range). piece s from run.offset ++ l) (beyond rest s (run.offset + run.len) to are ∙ empty s (run.offset + run.len) to (omega (arith, at)))
            ∙ nothing_behind (piece s from run.offset) ∙ ap (piece s from) at ∙ sym (beyond rest s from to are)
            ∙ sym (cond-false (is_in_way run s from to) both (parts s from to rest) e)
      ]
    ]
  where
    joins : (i n from : ℕ) → from ≤ i + n → (from < i + n → ⊥) → i + n ≡ from
    joins i n from le not = omega (arith, not)

    same_end : (i to end : ℕ) → end ≡ to → i ≤ end → to ≤ i → i ≡ to
    same_end i to end e le more = omega arith

    in_way_then : (run : Range) (s from to : ℕ) → run.segment ≡ s → run.offset < to → from < run.offset + run.len → is_in_way run s from to ≡ false → ⊥
    in_way_then run s from to same less near e = differ (sym (and_from _ _ (and_from _ _ (eq-eqb _ _ same) (lt-ltb _ _ less)) (lt-ltb _ _ near)) ∙ e)
      where
        differ : true ≡ false → ⊥
        differ e = absurd cc

    nothing_behind : (l : List Range) → l ++ [] ≡ l
    nothing_behind [] = refl
    nothing_behind (x ∷ xs) = ap (λ (l : List Range). x ∷ l) (nothing_behind xs)

module _ (old now : List OldBytes) (image : List ℕ) (range : Range) (from to : ℕ) (runs : List Range) where
  pub walk_more : (new : List OldBytes) (run : Range) (rest : List Range) → Walked old now image range.segment range.offset from to runs (run ∷ rest) → range.offset + range.len ≡ to → IsCanonical (run ∷ rest)
      → is_before run range ≡ false → is_before range run ≡ false → new ≡ with_copies now image (piece range.segment from run.offset) → Walked old new image range.segment range.offset (run.offset + run.len) to runs rest
  walk_more new run rest walked end c one two grows = record {
    done = walked.done ++ piece range.segment from run.offset;
    grows = grows ∙ ap (λ (l : List OldBytes). with_copies l image (piece range.segment from run.offset)) walked.grows ∙ sym (with_copies-append old image walked.done (piece range.segment from run.offset));
    parts_are =
        append_assoc walked.done (piece range.segment from run.offset) (parts range.segment (run.offset + run.len) to rest)
        ∙ ap (λ (l : List Range). walked.done ++ l) (one_more range run rest from to end c one two walked.near.0) ∙ walked.parts_are;
    near = near_next run rest range.segment (touch run range (not_before run range one) (not_before range run two)).segment c.1;
  }

  -- the last piece
  pub walk_ends : (new : List OldBytes) (rest : List Range) → Walked old now image range.segment range.offset from to runs rest → parts range.segment from to rest ≡ piece range.segment from to
      → new ≡ with_copies now image (piece range.segment from to) → new ≡ with_copies old image (parts range.segment range.offset to runs)
  walk_ends new rest walked last grows =
      grows ∙ ap (λ (l : List OldBytes). with_copies l image (piece range.segment from to)) walked.grows ∙ sym (with_copies-append old image walked.done (piece range.segment from to))
      ∙ ap (with_copies old image) (ap (λ (l : List Range). walked.done ++ l) (sym last) ∙ walked.parts_are)

  -- there is a part
  pub some_part : (run : Range) (rest : List Range) → Walked old now image range.segment range.offset from to runs (run ∷ rest) → range.offset + range.len ≡ to → IsCanonical (run ∷ rest)
      → is_before run range ≡ false → is_before range run ≡ false → from < run.offset → 1 ≤ length (parts range.segment range.offset to runs)
  some_part run rest walked end c one two less =
      let later : List Range = parts range.segment (run.offset + run.len) to rest in
      omega (
        arith,
        ap length walked.parts_are,
        length-append walked.done (parts range.segment from to (run ∷ rest)),
        ap length (one_more range run rest from to end c one two walked.near.0),
        length-append (piece range.segment from run.offset) later,
        ap length (full range.segment from run.offset less),
      )

  pub last_part : (rest : List Range) → Walked old now image range.segment range.offset from to runs rest → parts range.segment from to rest ≡ piece range.segment from to → from < to → 1 ≤ length (parts range.segment range.offset to runs)
  last_part rest walked last less =
      omega (arith, ap length walked.parts_are, length-append walked.done (parts range.segment from to rest), ap length last, ap length (full range.segment from to less))

  -- where the copies up to a piece take memory, all do
  pub takes_part : (run : Range) (rest : List Range) → Walked old now image range.segment range.offset from to runs (run ∷ rest) → range.offset + range.len ≡ to → IsCanonical (run ∷ rest)
      → is_before run range ≡ false → is_before range run ≡ false → TakeMemory (with_copies now image (piece range.segment from run.offset)) → TakeMemory (with_copies old image (parts range.segment range.offset to runs))
  takes_part run rest walked end c one two takes =
      let part : List Range = piece range.segment from run.offset in
      let later : List Range = parts range.segment (run.offset + run.len) to rest in
      let front : List OldBytes = with_copies old image walked.done in
      subst (λ (l : List OldBytes). TakeMemory l)
      (ap (λ (l : List OldBytes). with_copies (with_copies l image part) image later) walked.grows ∙ sym (with_copies-append front image part later)
      ∙ ap (with_copies front image) (one_more range run rest from to end c one two walked.near.0)
      ∙ sym (with_copies-append old image walked.done (parts range.segment from to (run ∷ rest))) ∙ ap (with_copies old image) walked.parts_are)
      (take_more (with_copies now image part) image later takes)

  pub same_front : (rest : List Range) → Walked old now image range.segment range.offset from to runs rest → (n : ℕ) → n ≤ bytes_kept old → first_bytes n now ≡ first_bytes n old
  same_front rest walked n few = ap (first_bytes n) walked.grows ∙ first_with_copies n old image walked.done few

-- Runs from a place on

pub canonical_from : (i : ℕ) (runs : List Range) → IsCanonical runs → IsCanonical (drop i runs)
canonical_from zero runs c = c
canonical_from (suc i) [] c = c
canonical_from (suc i) (run ∷ runs) c = canonical_from i runs c.2

pub ends_from : (i : ℕ) (runs : List Range) (bound : ℕ) → EndWithin runs bound → EndWithin (drop i runs) bound
ends_from zero runs bound ends = ends
ends_from (suc i) [] bound ends = ends
ends_from (suc i) (run ∷ runs) bound ends = ends_from i runs bound ends.1

-- what follows either way
pub either_way : {T E A B C : Type 0} (r : Result T E) → OnOk r A → OnErr r B → (A → C) → (B → C) → C
either_way (Ok x) a b f g = f a
either_way (Err y) a b f g = g b
