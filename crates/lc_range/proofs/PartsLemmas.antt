-- The parts of a range that no run has.
use Rattle.std.proofs.Common.{◌≡◌, ◌⊎◌, ℕ, ◌+◌, ◌-◌, ◌<◌, ◌≤◌, true, false, eqb, ltb, ◌&&◌, List, [], ◌∷◌, ◌++◌, length, refl, sym, ap, subst, ◌∙◌, inl, inr, arith}
use Rattle.std.proofs.lemmas.Bool.{cond_both, and_parts, and_cases, eqb-true, eqb-false, ltb-true, ltb-false, cases_lt}
use Rattle.lc_range.specs.Range.{HasPosition}
use Rattle.lc_range.specs.RangeSet.{Has, LiesBefore, IsCanonical, EndWithin, AreOutside, MissesSome, total_len}
use Rattle.lc_range.specs.Walk.{piece, is_in_way, parts}
use Rattle.lc_range.specs.declared.range.Range.{Range}
use Rattle.lc_range.proofs.SetLemmas.{past}

-- Lists joined end to end

pub has_left : (xs ys : List Range) (s k : ℕ) → Has xs s k → Has (xs ++ ys) s k
has_left [] ys s k has = absurd has
has_left (x ∷ xs) ys s k has = elim has [ inl here ↦ inl here | inr later ↦ inr (has_left xs ys s k later) ]

pub has_right : (xs ys : List Range) (s k : ℕ) → Has ys s k → Has (xs ++ ys) s k
has_right [] ys s k has = has
has_right (x ∷ xs) ys s k has = inr (has_right xs ys s k has)

pub has_either : (xs ys : List Range) (s k : ℕ) → Has (xs ++ ys) s k → Has xs s k ⊎ Has ys s k
has_either [] ys s k has = inr has
has_either (x ∷ xs) ys s k has = elim has [
  | inl here ↦ inl (inl here)
  | inr later ↦ elim (has_either xs ys s k later) [ inl left ↦ inl (inr left) | inr right ↦ inr right ]
]

ends_append : (xs ys : List Range) (bound : ℕ) → EndWithin xs bound → EndWithin ys bound → EndWithin (xs ++ ys) bound
ends_append [] ys bound one two = two
ends_append (x ∷ xs) ys bound one two = (one.0, ends_append xs ys bound one.1 two)

pub total-append : (xs ys : List Range) → total_len (xs ++ ys) ≡ total_len xs + total_len ys
total-append [] ys = omega arith
total-append (x ∷ xs) ys = omega (arith, total-append xs ys)

-- A piece

abbrev the_piece : ℕ → ℕ → ℕ → Range
the_piece s from to = record { segment = s; offset = from; len = to - from }

piece_has : (s from to r k : ℕ) → Has (piece s from to) r k → (r ≡ s) × (from ≤ k) × (k < to)
piece_has s from to r k = cond_both (ltb from to) (the_piece s from to ∷ []) [] (λ (l : List Range). Has l r k → (r ≡ s) × (from ≤ k) × (k < to))
    (λ e h. elim h [ inl here ↦ (here.0, here.1, omega (arith, here.2, here.1, ltb-true _ _ e)) | inr never ↦ absurd never ])
    (λ e h. absurd h)

in_piece : (s from to r k : ℕ) → r ≡ s → from ≤ k → k < to → Has (piece s from to) r k
in_piece s from to r k same low high = cond_both (ltb from to) (the_piece s from to ∷ []) [] (λ (l : List Range). Has l r k)
    (λ e. inl (same, low, omega (arith, low, high)))
    (λ e. absurd (omega (arith, low, high, ltb-false _ _ e)))

piece_ends : (s from to bound : ℕ) → to ≤ bound → EndWithin (piece s from to) bound
piece_ends s from to bound fits = cond_both (ltb from to) (the_piece s from to ∷ []) [] (λ (l : List Range). EndWithin l bound)
    (λ e. (omega (arith, fits, ltb-true _ _ e), tt)) (λ e. tt)

piece_total : (s from to : ℕ) → total_len (piece s from to) ≡ to - from
piece_total s from to = cond_both (ltb from to) (the_piece s from to ∷ []) [] (λ (l : List Range). total_len l ≡ to - from)
    (λ e. omega arith) (λ e. omega (arith, ltb-false _ _ e))

-- A run in the way

pub in_way : (run : Range) (s from to : ℕ) → is_in_way run s from to ≡ true → (run.segment ≡ s) × (run.offset < to) × (from < run.offset + run.len)
in_way run s from to e =
    let p = and_parts (eqb run.segment s && ltb run.offset to) (ltb from (run.offset + run.len)) e in
    let q = and_parts (eqb run.segment s) (ltb run.offset to) p.0 in
    (eqb-true _ _ q.0, ltb-true _ _ q.1, ltb-true _ _ p.1)

out_of_way : (run : Range) (s from to k : ℕ) → is_in_way run s from to ≡ false → from ≤ k → k < to → HasPosition run s k → ⊥
out_of_way run s from to k e low high has = elim (and_cases (eqb run.segment s && ltb run.offset to) (ltb from (run.offset + run.len)) e) [
  | inl one ↦ elim (and_cases (eqb run.segment s) (ltb run.offset to) one) [
    | inl other ↦ eqb-false _ _ other (sym has.0)
    | inr far ↦ omega (arith, ltb-false _ _ far, has.1, high)
  ]
  | inr near ↦ omega (arith, ltb-false _ _ near, has.2, low)
]

-- The parts

abbrev IsOutside : List Range → ℕ → ℕ → ℕ → ℕ → ℕ → Type 0
IsOutside runs s from to r k = (r ≡ s) × (from ≤ k) × (k < to) × (Has runs r k → ⊥)

parts_has : (s from to : ℕ) (runs : List Range) → IsCanonical runs → (r k : ℕ) → Has (parts s from to runs) r k → IsOutside runs s from to r k
parts_has s from to [] c r k = λ has. let p = piece_has s from to r k has in (p.0, p.1, p.2, λ never. never)
parts_has s from to (run ∷ runs) c r k =
    cond_both (is_in_way run s from to) (piece s from run.offset ++ parts s (run.offset + run.len) to runs) (parts s from to runs) (λ (l : List Range). Has l r k → IsOutside (run ∷ runs) s from to r k)
    (λ e has.
    let w = in_way run s from to e in
    elim (has_either (piece s from run.offset) (parts s (run.offset + run.len) to runs) r k has) [
      | inl front ↦
          let p = piece_has s from run.offset r k front in (
            p.0,
            p.1,
            omega (arith, p.2, w.1),
            λ h. elim h [
              | inl here ↦ omega (arith, here.1, p.2)
              | inr later ↦ elim (past run runs r k c.1 later) [ inl less ↦ omega (arith, less, w.0, p.0) | inr both ↦ omega (arith, both.1, p.2) ]
            ],
          )
      | inr back ↦
          let p = parts_has s (run.offset + run.len) to runs c.2 r k back in
          (p.0, omega (arith, p.1, w.2), p.2, λ h. elim h [ inl here ↦ omega (arith, here.2, p.1) | inr later ↦ p.3 later ])
    ])
    (λ e has.
    let p = parts_has s from to runs c.2 r k has in
    (p.0, p.1, p.2, λ h. elim h [ inl here ↦ out_of_way run s from to k e p.1 p.2 (subst (λ (n : ℕ). HasPosition run n k) p.0 here) | inr later ↦ p.3 later ]))

in_parts : (s from to : ℕ) (runs : List Range) (r k : ℕ) → IsOutside runs s from to r k → Has (parts s from to runs) r k
in_parts s from to [] r k is = in_piece s from to r k is.0 is.1 is.2
in_parts s from to (run ∷ runs) r k is =
    cond_both (is_in_way run s from to) (piece s from run.offset ++ parts s (run.offset + run.len) to runs) (parts s from to runs) (λ (l : List Range). Has l r k)
    (λ e.
    let w = in_way run s from to e in
    elim (cases_lt k run.offset) [
      | inl front ↦ has_left (piece s from run.offset) (parts s (run.offset + run.len) to runs) r k (in_piece s from run.offset r k is.0 is.1 front)
      | inr low ↦ elim (cases_lt k (run.offset + run.len)) [
        | inl high ↦ absurd (is.3 (inl (is.0 ∙ sym w.0, low, high)))
        | inr behind ↦ has_right (piece s from run.offset) (parts s (run.offset + run.len) to runs) r k (in_parts s (run.offset + run.len) to runs r k (is.0, behind, is.2, λ h. is.3 (inr h)))
      ]
    ])
    (λ e. in_parts s from to runs r k (is.0, is.1, is.2, λ h. is.3 (inr h)))

pub parts_outside : (runs : List Range) (s offset len : ℕ) → IsCanonical runs → AreOutside runs s offset len (parts s offset (offset + len) runs)
parts_outside runs s offset len c r k = (parts_has s offset (offset + len) runs c r k, in_parts s offset (offset + len) runs r k)

pub parts_end : (s from to : ℕ) (runs : List Range) → EndWithin (parts s from to runs) to
parts_end s from to [] = piece_ends s from to to (omega arith)
parts_end s from to (run ∷ runs) =
    cond_both (is_in_way run s from to) (piece s from run.offset ++ parts s (run.offset + run.len) to runs) (parts s from to runs) (λ (l : List Range). EndWithin l to)
    (λ e. let w = in_way run s from to e in
    ends_append (piece s from run.offset) (parts s (run.offset + run.len) to runs) to (piece_ends s from run.offset to (omega (arith, w.1))) (parts_end s (run.offset + run.len) to runs))
    (λ e. parts_end s from to runs)

pub total-parts : (s from to : ℕ) (runs : List Range) → total_len (parts s from to runs) ≤ to - from
total-parts s from to [] = omega (arith, piece_total s from to)
total-parts s from to (run ∷ runs) =
    cond_both (is_in_way run s from to) (piece s from run.offset ++ parts s (run.offset + run.len) to runs) (parts s from to runs) (λ (l : List Range). total_len l ≤ to - from)
    (λ e. let w = in_way run s from to e in
    omega (arith, w.1, w.2, total-append (piece s from run.offset) (parts s (run.offset + run.len) to runs), piece_total s from run.offset, total-parts s (run.offset + run.len) to runs))
    (λ e. total-parts s from to runs)

-- a range before all of these positions lies before their parts
lies_piece : (x : Range) (s from to : ℕ) (ys : List Range) → x.segment ≡ s → x.offset + x.len < from → LiesBefore x ys → LiesBefore x (piece s from to ++ ys)
lies_piece x s from to ys same gap lies = cond_both (ltb from to) (the_piece s from to ∷ []) [] (λ (l : List Range). LiesBefore x (l ++ ys))
    (λ e. (inr (same, gap), lies)) (λ e. lies)

lies_parts : (x : Range) (s from to : ℕ) (runs : List Range) → x.segment ≡ s → x.offset + x.len < from → LiesBefore x (parts s from to runs)
lies_parts x s from to [] same gap = cond_both (ltb from to) (the_piece s from to ∷ []) [] (λ (l : List Range). LiesBefore x l) (λ e. (inr (same, gap), tt)) (λ e. tt)
lies_parts x s from to (run ∷ runs) same gap =
    cond_both (is_in_way run s from to) (piece s from run.offset ++ parts s (run.offset + run.len) to runs) (parts s from to runs) (λ (l : List Range). LiesBefore x l)
    (λ e. let w = in_way run s from to e in
    lies_piece x s from run.offset (parts s (run.offset + run.len) to runs) same gap (lies_parts x s (run.offset + run.len) to runs same (omega (arith, gap, w.2))))
    (λ e. lies_parts x s from to runs same gap)

pub canonical-parts : (s from to : ℕ) (runs : List Range) → IsCanonical runs → IsCanonical (parts s from to runs)
canonical-parts s from to [] c = cond_both (ltb from to) (the_piece s from to ∷ []) [] (λ (l : List Range). IsCanonical l) (λ e. (omega (arith, ltb-true _ _ e), tt, tt)) (λ e. tt)
canonical-parts s from to (run ∷ runs) c =
    cond_both (is_in_way run s from to) (piece s from run.offset ++ parts s (run.offset + run.len) to runs) (parts s from to runs) (λ (l : List Range). IsCanonical l)
    (λ e.
    let rest : IsCanonical (parts s (run.offset + run.len) to runs) = canonical-parts s (run.offset + run.len) to runs c.2 in
    cond_both (ltb from run.offset) (the_piece s from run.offset ∷ []) [] (λ (l : List Range). IsCanonical (l ++ parts s (run.offset + run.len) to runs))
    (λ less. (omega (arith, ltb-true _ _ less), lies_parts (the_piece s from run.offset) s (run.offset + run.len) to runs refl (omega (arith, c.0, ltb-true _ _ less)), rest))
    (λ less. rest))
    (λ e. canonical-parts s from to runs c.2)

pub ends_weaker : (runs : List Range) (one other : ℕ) → one ≤ other → EndWithin runs one → EndWithin runs other
ends_weaker [] one other le ends = tt
ends_weaker (run ∷ runs) one other le ends = (omega (arith, le, ends.0), ends_weaker runs one other le ends.1)

-- what these parts are
pub record ArePartsOf (runs : List Range) (s offset len bound : ℕ) (xs : List Range) : Type 0 where
  pub outside : AreOutside runs s offset len xs
  pub canonical : IsCanonical xs
  pub ends : EndWithin xs bound
  pub total : total_len xs ≤ len

pub parts_are : (runs slice : List Range) (s offset len bound : ℕ) (xs items : List Range) → slice ≡ runs → IsCanonical runs → offset + len ≤ bound
    → xs ≡ items → items ≡ parts s offset (offset + len) slice → ArePartsOf runs s offset len bound xs
parts_are runs slice s offset len bound xs items same c fits one two =
    subst (λ (l : List Range). ArePartsOf runs s offset len bound l) (sym (one ∙ two ∙ ap (parts s offset (offset + len)) same)) (record {
      outside = parts_outside runs s offset len c;
      canonical = canonical-parts s offset (offset + len) runs c;
      ends = ends_weaker (parts s offset (offset + len) runs) (offset + len) bound fits (parts_end s offset (offset + len) runs);
      total = omega (arith, total-parts s offset (offset + len) runs);
    })

-- the first of these parts begins at a position that is not in the set
pub misses_some : (set xs : List Range) (s offset len : ℕ) → AreOutside set s offset len xs → IsCanonical xs → 1 ≤ length xs → MissesSome set s offset len
misses_some set [] s offset len outside c some = absurd (omega (arith, some))
misses_some set (x ∷ xs) s offset len outside c some =
    let is = (outside x.segment x.offset).0 (inl (refl, omega arith, omega (arith, c.0))) in
    (x.offset, is.1, is.2, subst (λ (n : ℕ). Has set n x.offset → ⊥) is.0 is.3)
