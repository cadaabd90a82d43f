-- Copies that lie flat, and what is kept of a position.
use Rattle.std.proofs.Common.{◌≡◌, ℕ, zero, suc, ◌+◌, ◌-◌, ◌<◌, ◌≤◌, eqb, leb, ◌&&◌, List, [], ◌∷◌, length, get_or, take, drop, Option, Some, None, unwrap_or, refl, sym, ap, subst, ◌∙◌, arith, length-drop, add-one, inl, inr}
use Rattle.std.specs.Prelude.{slice_index, slice_get, IsSome}
use Rattle.std.proofs.lemmas.List.{at_drop_more, drop-drop, length-take-le}
use Rattle.std.proofs.lemmas.Option.{slice_get-get_or, slice_get_past}
use Rattle.std.proofs.lemmas.Bool.{cond-true, cond-false, and_parts, and_from, eq-eqb, eqb-true, le-leb, leb-true, cases_Bool, cases_lt}
use Rattle.lc_range.specs.RangeSet.{total_len}
use Rattle.lc_range.specs.Undo.{OldBytes, byte_at, first_of, kept, LiesBelow}
use Rattle.lc_range.specs.Copies.{copies_of, AreSome, AreCopies}
use Rattle.lc_range.specs.declared.range.Range.{Range}

-- One copy

pub byte_in : (copy : OldBytes) (s k : ℕ) → copy.segment ≡ s → copy.offset ≤ k → k < copy.offset + length copy.bytes → byte_at copy s k ≡ Some (slice_index copy.bytes (k - copy.offset))
byte_in copy s k same low high =
    cond-true (eqb copy.segment s && leb copy.offset k) (slice_get copy.bytes (k - copy.offset)) None (and_from _ _ (eq-eqb _ _ same) (le-leb _ _ low))
    ∙ slice_get-get_or copy.bytes (k - copy.offset) 0 (omega arith)

pub byte_out : (copy : OldBytes) (s k : ℕ) → (copy.segment ≡ s → copy.offset ≤ k → k < copy.offset + length copy.bytes → ⊥) → byte_at copy s k ≡ None
byte_out copy s k not = elim (cases_Bool (eqb copy.segment s && leb copy.offset k)) [
  | inl e ↦
      let p = and_parts (eqb copy.segment s) (leb copy.offset k) e in
      cond-true (eqb copy.segment s && leb copy.offset k) (slice_get copy.bytes (k - copy.offset)) None e
      ∙ slice_get_past copy.bytes (k - copy.offset) (behind (length copy.bytes) copy.offset k (not (eqb-true _ _ p.0) (leb-true _ _ p.1)))
  | inr e ↦ cond-false (eqb copy.segment s && leb copy.offset k) (slice_get copy.bytes (k - copy.offset)) None e
]
  where
    behind : (n o k : ℕ) → (k < o + n → ⊥) → n ≤ k - o
    behind n o k not = omega (arith, not)

-- the first copy that has a position
first_of-Some : (a : Option ℕ) (b c : ℕ) (d : Option ℕ) → a ≡ Some c → first_of a d ≡ Some c
first_of-Some None b c d e = absurd cc
first_of-Some (Some x) b c d e = e

first_of-None : (a d : Option ℕ) → a ≡ None → first_of a d ≡ d
first_of-None None d e = refl
first_of-None (Some x) d e = absurd cc

-- Copies put back, the last first

-- after one more copy is put back
pub put_one : (old image new : List ℕ) (copy : OldBytes) (copies : List OldBytes) (s : ℕ) → copy.segment ≡ s
    → ((k : ℕ) → copy.offset ≤ k → k < copy.offset + length copy.bytes → slice_index new k ≡ slice_index copy.bytes (k - copy.offset))
    → ((k : ℕ) → k < copy.offset → slice_index new k ≡ slice_index image k)
    → ((k : ℕ) → copy.offset + length copy.bytes ≤ k → slice_index new k ≡ slice_index image k)
    → ((k : ℕ) → slice_index image k ≡ unwrap_or (kept copies s k) (slice_index old k))
    → (k : ℕ) → slice_index new k ≡ unwrap_or (kept (copy ∷ copies) s k) (slice_index old k)
put_one old image new copy copies s same within before behind was k = elim (cases_lt k copy.offset) [
  | inl less ↦ before k less ∙ was k ∙ skipped (λ e low high. omega (arith, less, low))
  | inr low ↦ elim (cases_lt k (copy.offset + length copy.bytes)) [
    | inl high ↦
        within k low high
        ∙ ap (λ (o : Option ℕ). unwrap_or o (slice_index old k)) (sym (first_of-Some (byte_at copy s k) 0 (slice_index copy.bytes (k - copy.offset)) (kept copies s k) (byte_in copy s k same low high)))
    | inr far ↦ behind k far ∙ was k ∙ skipped (λ e low high. omega (arith, far, high))
  ]
]
  where
    skipped : (copy.segment ≡ s → copy.offset ≤ k → k < copy.offset + length copy.bytes → ⊥) → unwrap_or (kept copies s k) (slice_index old k) ≡ unwrap_or (kept (copy ∷ copies) s k) (slice_index old k)
    skipped not = ap (λ (o : Option ℕ). unwrap_or o (slice_index old k)) (sym (first_of-None (byte_at copy s k) (kept copies s k) (byte_out copy s k not)))

-- a copy of another segment
pub put_none : (old image : List ℕ) (copy : OldBytes) (copies : List OldBytes) (s : ℕ) → (copy.segment ≡ s → ⊥)
    → ((k : ℕ) → slice_index image k ≡ unwrap_or (kept copies s k) (slice_index old k))
    → (k : ℕ) → slice_index image k ≡ unwrap_or (kept (copy ∷ copies) s k) (slice_index old k)
put_none old image copy copies s other was k =
    was k ∙ ap (λ (o : Option ℕ). unwrap_or o (slice_index old k)) (sym (first_of-None (byte_at copy s k) (kept copies s k) (byte_out copy s k (λ e low high. other e))))

-- the copy of a range, and those after it
pub copies_more : (ranges : List Range) (bytes : List ℕ) (i j start next : ℕ) (d : Range) → i < length ranges → j ≡ i + 1 → next ≡ start + (get_or ranges i d).len
    → copies_of (drop i ranges) (drop start bytes)
    ≡ record { segment = (get_or ranges i d).segment; offset = (get_or ranges i d).offset; bytes = take (get_or ranges i d).len (drop start bytes) } ∷ copies_of (drop j ranges) (drop next bytes)
copies_more ranges bytes i j start next d within one more =
    let range : Range = get_or ranges i d in
    let copy : OldBytes = record { segment = range.segment; offset = range.offset; bytes = take range.len (drop start bytes) } in
    at_drop_more (λ (l : List Range). copies_of l (drop start bytes)) ranges i d within
    ∙ ap (λ (l : List ℕ). copy ∷ copies_of (drop (i + 1) ranges) l) (drop-drop range.len start bytes ∙ ap (λ (n : ℕ). drop n bytes) (sym more))
    ∙ ap (λ (n : ℕ). copy ∷ copies_of (drop n ranges) (drop next bytes)) (sym one)

pub total_more : (ranges : List Range) (i j : ℕ) (d : Range) → i < length ranges → j ≡ i + 1 → total_len (take j ranges) ≡ total_len (take i ranges) + (get_or ranges i d).len
total_more ranges i j d within one = subst (λ (n : ℕ). total_len (take n ranges) ≡ total_len (take i ranges) + (get_or ranges i d).len) (sym (one ∙ add-one i)) (by_suc ranges i d within)
  where
    by_suc : (ranges : List Range) (i : ℕ) (d : Range) → i < length ranges → total_len (take (suc i) ranges) ≡ total_len (take i ranges) + (get_or ranges i d).len
    by_suc [] i d within = absurd (omega arith)
    by_suc (r ∷ rs) zero d within = omega arith
    by_suc (r ∷ rs) (suc i) d within = omega (arith, by_suc rs i d (omega arith))

-- a position of a range has a byte that is kept
kept_some : (ranges : List Range) (bytes : List ℕ) (i k : ℕ) (d : Range) → length bytes ≡ total_len ranges → i < length ranges
    → (get_or ranges i d).offset ≤ k → k < (get_or ranges i d).offset + (get_or ranges i d).len → IsSome (kept (copies_of ranges bytes) (get_or ranges i d).segment k)
kept_some [] bytes i k d whole within low high = absurd (omega arith)
kept_some (r ∷ rs) bytes zero k d whole within low high =
    let copy : OldBytes = record { segment = r.segment; offset = r.offset; bytes = take r.len bytes } in
    let long : length (take r.len bytes) ≡ r.len = length-take-le r.len bytes (omega (arith, whole)) in
    let here = byte_in copy r.segment k refl low (omega (arith, high, long)) in
    is_some_at (kept (copies_of (r ∷ rs) bytes) r.segment k) _ (first_of-Some (byte_at copy r.segment k) 0 _ (kept (copies_of rs (drop r.len bytes)) r.segment k) here)
  where
    is_some_at : (o : Option ℕ) (x : ℕ) → o ≡ Some x → IsSome o
    is_some_at None x e = absurd cc
    is_some_at (Some y) x e = refl
kept_some (r ∷ rs) bytes (suc i) k d whole within low high =
    later (byte_at (record { segment = r.segment; offset = r.offset; bytes = take r.len bytes }) (get_or rs i d).segment k) (kept (copies_of rs (drop r.len bytes)) (get_or rs i d).segment k)
    (kept_some rs (drop r.len bytes) i k d (omega (arith, whole, length-drop r.len bytes)) (omega arith) low high)
  where
    later : (a b : Option ℕ) → IsSome b → IsSome (first_of a b)
    later None b h = h
    later (Some x) b h = refl

pub some_at : (ranges : List Range) (i : ℕ) (d : Range) → AreSome ranges → i < length ranges → 1 ≤ (get_or ranges i d).len
some_at [] i d some within = absurd (omega arith)
some_at (r ∷ rs) zero d some within = some.0
some_at (r ∷ rs) (suc i) d some within = some_at rs i d some.1 (omega arith)

-- a range of a segment whose kept positions lie below a bound
pub range_below : (ranges : List Range) (bytes : List ℕ) (i s bound : ℕ) (d : Range) → AreCopies ranges bytes → LiesBelow (copies_of ranges bytes) s bound → i < length ranges
    → (get_or ranges i d).segment ≡ s → (get_or ranges i d).offset + (get_or ranges i d).len ≤ bound
range_below ranges bytes i s bound d copies below within same =
    let range : Range = get_or ranges i d in
    let some : 1 ≤ range.len = some_at ranges i d copies.some within in
    let last : ℕ = range.offset + range.len - 1 in
    let is : last < bound = below last (subst (λ (n : ℕ). IsSome (kept (copies_of ranges bytes) n last)) same (kept_some ranges bytes i last d copies.whole within (omega (arith, some)) (omega (arith, some)))) in
    omega (arith, is, some)

-- the length of a part
pub length_part : (bytes : List ℕ) (start len : ℕ) → start + len ≤ length bytes → length (take len (drop start bytes)) ≡ len
length_part bytes start len within = length-take-le len (drop start bytes) (omega (arith, length-drop start bytes))
