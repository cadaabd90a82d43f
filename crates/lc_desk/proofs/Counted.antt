-- Of a desk: a record that is closed: what it makes of the tokens' numbers, of the node's slots, and of those of the
-- others.
use Rattle.std.proofs.Common.{◌≡◌, ℕ, ◌+◌, ◌<◌, ◌≤◌, Bool, true, List, [], ◌∷◌, sym, inl, inr, arith, true≢false}
use Rattle.std.specs.Prelude.{◌&&◌, ◌==◌, nat_lt}
use Rattle.std.specs.List.{list_any}
use Rattle.std.proofs.lemmas.Bool.{and_from, and_parts, cases_lt, eq-eqb, eqb-true, lt-ltb, ltb-true, or_cases, or_left, or_right}
use Rattle.lc_range.specs.RangeSet.{Has, IsCanonical}
use Rattle.lc_range.specs.declared.range.Range.{Range}

-- the range has a position of the segment from one up to another
abbrev meets : ℕ → ℕ → ℕ → Range → Bool
meets segment from to r = (r.segment == segment) && (nat_lt r.offset to && nat_lt from (r.offset + r.len))

pub meets_has : (segment from to : ℕ) (ranges : List Range) → IsCanonical ranges → from < to → list_any (meets segment from to) ranges ≡ true
    → (k : ℕ) × (from ≤ k) × (k < to) × Has ranges segment k
meets_has segment from to [] canonical some named = absurd (true≢false (sym named))
meets_has segment from to (r ∷ rs) canonical some named = elim (or_cases (meets segment from to r) (list_any (meets segment from to) rs) named) [
  | inl own ↦
      let parts = and_parts (r.segment == segment) (nat_lt r.offset to && nat_lt from (r.offset + r.len)) own in
      let last = and_parts (nat_lt r.offset to) (nat_lt from (r.offset + r.len)) parts.1 in
      let same : segment ≡ r.segment = sym (eqb-true r.segment segment parts.0) in
      let begins : r.offset < to = ltb-true r.offset to last.0 in
      let ends : from < r.offset + r.len = ltb-true from (r.offset + r.len) last.1 in
      elim (cases_lt r.offset from) [
        | inl below ↦ (from, omega arith, some, inl (same, omega (arith, below), ends))
        | inr above ↦ (r.offset, omega (arith, above), begins, inl (same, omega arith, omega (arith, canonical.0)))
      ]
  | inr later ↦ (let behind : (k : ℕ) × (from ≤ k) × (k < to) × Has rs segment k = meets_has segment from to rs canonical.2 some later in (behind.0, behind.1, behind.2, inr behind.3))
]

pub has_meets : (segment from to k : ℕ) (ranges : List Range) → from ≤ k → k < to → Has ranges segment k → list_any (meets segment from to) ranges ≡ true
has_meets segment from to k [] above below has = absurd has
has_meets segment from to k (r ∷ rs) above below (inl own) =
    let begins : r.offset < to = omega (arith, below, own.1) in
    let ends : from < r.offset + r.len = omega (arith, above, own.2) in
    or_left (meets segment from to r) (list_any (meets segment from to) rs)
    (and_from (r.segment == segment) (nat_lt r.offset to && nat_lt from (r.offset + r.len)) (eq-eqb r.segment segment (sym own.0))
    (and_from (nat_lt r.offset to) (nat_lt from (r.offset + r.len)) (lt-ltb r.offset to begins) (lt-ltb from (r.offset + r.len) ends)))
has_meets segment from to k (r ∷ rs) above below (inr later) =
    or_right (meets segment from to r) (list_any (meets segment from to) rs) (has_meets segment from to k rs above below later)
