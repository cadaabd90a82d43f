-- Sets of positions: one canonical list each, and what a range more makes of it.
use Rattle.std.proofs.Common.{◌≡◌, ◌⊎◌, ℕ, ◌+◌, ◌<◌, ◌≤◌, true, List, [], ◌∷◌, length, refl, sym, ap, subst, ◌∙◌, inl, inr, arith}
use Rattle.std.specs.Prelude.{◌↔◌}
use Rattle.std.proofs.lemmas.Bool.{cond_both, cases_lt, cases_order, or_cases, or_left, or_right}
use Rattle.lc_range.specs.Range.{HasPosition, IsBefore}
use Rattle.lc_range.specs.RangeSet.{Has, LiesBefore, IsCanonical, EndWithin, NeedsRunsAbove}
use Rattle.lc_range.specs.Walk.{is_before, is_holding, joined, absorbed, merged, some_holds}
use Rattle.lc_range.specs.declared.range.Range.{Range}
use Rattle.lc_range.proofs.RangeLemmas.{same_range, before_is, not_before, IsPast, past_before, past_not, past_end, before_before, Touch, touch, in_joined, joined_has, before_joined, joined_before, Holds, holding_is, holding_from}

-- each position of later runs is after this one
pub past : (run : Range) (runs : List Range) (s k : ℕ) → LiesBefore run runs → Has runs s k → IsPast run s k
past run [] s k before has = absurd has
past run (next ∷ runs) s k before has = elim has [
  | inl here ↦ past_before run next s k before.0 here
  | inr later ↦ past run runs s k before.1 later
]

-- One canonical list

-- the first position of either list is one of the other
same_start : (a b : Range) → HasPosition b a.segment a.offset ⊎ IsPast b a.segment a.offset → HasPosition a b.segment b.offset ⊎ IsPast a b.segment b.offset
    → (a.segment ≡ b.segment) × (a.offset ≡ b.offset)
same_start a b one two = by_numbers a.segment a.offset a.len b.segment b.offset b.len one two
  where
    by_numbers : (p i m q j n : ℕ) → ((p ≡ q) × (j ≤ i) × (i < j + n)) ⊎ ((q < p) ⊎ ((q ≡ p) × (j + n < i)))
        → ((q ≡ p) × (i ≤ j) × (j < i + m)) ⊎ ((p < q) ⊎ ((p ≡ q) × (i + m < j))) → (p ≡ q) × (i ≡ j)
    by_numbers p i m q j n one two = (grind arith, grind arith)

first_of_other : (a b : Range) (ys : List Range) → LiesBefore b ys → Has (b ∷ ys) a.segment a.offset → HasPosition b a.segment a.offset ⊎ IsPast b a.segment a.offset
first_of_other a b ys before has = elim has [ inl here ↦ inl here | inr later ↦ inr (past b ys _ _ before later) ]

-- a run of one list is no longer than that of the other
not_longer : (a b : Range) (xs ys : List Range) → LiesBefore a xs → a.segment ≡ b.segment → a.offset ≡ b.offset → 1 ≤ a.len
    → ((s k : ℕ) → Has (b ∷ ys) s k → Has (a ∷ xs) s k) → a.len < b.len → ⊥
not_longer a b xs ys before same start some back less =
    let in_b : HasPosition b a.segment (a.offset + a.len) = (same, omega arith, omega arith) in
    elim (back a.segment (a.offset + a.len) (inl in_b)) [
      | inl here ↦ omega (arith, here.2)
      | inr later ↦ past_end a (past a xs _ _ before later)
    ]

-- the later runs of equal lists
later_has : (a b : Range) (xs ys : List Range) → a ≡ b → LiesBefore a xs → ((s k : ℕ) → Has (a ∷ xs) s k → Has (b ∷ ys) s k) → (s k : ℕ) → Has xs s k → Has ys s k
later_has a b xs ys same before to s k has = elim (to s k (inr has)) [
  | inl here ↦ absurd (past_not a s k (past a xs s k before has) (subst (λ (r : Range). HasPosition r s k) (sym same) here))
  | inr later ↦ later
]

same_lists : (one other : List Range) → IsCanonical one → IsCanonical other → ((s k : ℕ) → Has one s k → Has other s k) → ((s k : ℕ) → Has other s k → Has one s k) → one ≡ other
same_lists [] [] c d to from = refl
same_lists [] (b ∷ ys) c d to from = absurd (from b.segment b.offset (inl (refl, omega arith, omega (arith, d.0))))
same_lists (a ∷ xs) [] c d to from = absurd (to a.segment a.offset (inl (refl, omega arith, omega (arith, c.0))))
same_lists (a ∷ xs) (b ∷ ys) c d to from =
    let start = same_start a b (first_of_other a b ys d.1 (to a.segment a.offset (inl (refl, omega arith, omega (arith, c.0))))) (first_of_other b a xs c.1 (from b.segment b.offset (inl (refl, omega arith, omega (arith, d.0))))) in
    let len : a.len ≡ b.len = elim (cases_order a.len b.len) [
      | inl same ↦ same
      | inr either ↦ elim either [
        | inl less ↦ absurd (not_longer a b xs ys c.1 start.0 start.1 c.0 from less)
        | inr more ↦ absurd (not_longer b a ys xs d.1 (sym start.0) (sym start.1) d.0 to more)
      ]
    ] in
    let same : a ≡ b = same_range a b start.0 start.1 len in
    let rest : xs ≡ ys = same_lists xs ys c.2 d.2 (later_has a b xs ys same c.1 to) (later_has b a ys xs (sym same) d.1 from) in
    ap (λ (r : Range). r ∷ xs) same ∙ ap (λ (l : List Range). b ∷ l) rest

pub one_canonical : (one other : List Range) → IsCanonical one → IsCanonical other → ((s k : ℕ) → Has one s k ↔ Has other s k) → one ≡ other
one_canonical one other c d same = same_lists one other c d (λ s k. (same s k).0) (λ s k. (same s k).1)

-- One range more

-- none of these runs lies before a range
abbrev NoneBefore : List Range → Range → Type 0
NoneBefore [] range = Unit {0}
NoneBefore (run ∷ runs) range = (IsBefore run range → ⊥) × NoneBefore runs range

none_later : (first range : Range) (runs : List Range) → LiesBefore first runs → (IsBefore first range → ⊥) → NoneBefore runs range
none_later first range [] before not = tt
none_later first range (run ∷ runs) before not = (λ h. not (before_before first run range before.0 h), none_later first range runs before.1 not)

none_joined : (run next : Range) (runs : List Range) → NoneBefore runs run → NoneBefore runs (joined run next)
none_joined run next [] none = tt
none_joined run next (r ∷ runs) none = (λ h. none.0 (joined_before r run next h), none_joined run next runs none.1)

lies_later : (a b : Range) (runs : List Range) → IsBefore a b → LiesBefore b runs → LiesBefore a runs
lies_later a b [] before lies = tt
lies_later a b (run ∷ runs) before lies = (before_before a b run before lies.0, lies_later a b runs before lies.1)

abbrev Adds : List Range → Range → List Range → Type 0
Adds old range new = (s k : ℕ) → Has new s k ↔ (Has old s k ⊎ HasPosition range s k)

adds_absorbed : (run : Range) (runs : List Range) → NoneBefore runs run → Adds runs run (absorbed run runs)
adds_absorbed run [] none s k = (λ h. elim h [ inl here ↦ inr here | inr never ↦ absurd never ], λ h. elim h [ inl never ↦ absurd never | inr here ↦ inl here ])
adds_absorbed run (next ∷ runs) none s k =
    cond_both (is_before run next) (run ∷ next ∷ runs) (absorbed (joined run next) runs) (λ (l : List Range). Has l s k ↔ (Has (next ∷ runs) s k ⊎ HasPosition run s k))
    (λ e. (λ h. elim h [ inl here ↦ inr here | inr later ↦ inl later ], λ h. elim h [ inl later ↦ inr later | inr here ↦ inl here ]))
    (λ e.
    let t : Touch run next = touch run next (not_before run next e) none.0 in
    let rest : Has (absorbed (joined run next) runs) s k ↔ (Has runs s k ⊎ HasPosition (joined run next) s k) = adds_absorbed (joined run next) runs (none_joined run next runs none.1) s k in (
      λ h. elim (rest.0 h) [
        | inl later ↦ inl (inr later)
        | inr here ↦ elim (in_joined run next s k t here) [ inl in_next ↦ inl (inl in_next) | inr in_run ↦ inr in_run ]
      ],
      λ h. elim h [
        | inl old ↦ elim old [ inl in_next ↦ rest.1 (inr (joined_has run next s k t (inl in_next))) | inr later ↦ rest.1 (inl later) ]
        | inr in_run ↦ rest.1 (inr (joined_has run next s k t (inr in_run)))
      ],
    ))

lies_absorbed : (x run : Range) (runs : List Range) → NoneBefore runs run → IsBefore x run → LiesBefore x runs → LiesBefore x (absorbed run runs)
lies_absorbed x run [] none before lies = (before, tt)
lies_absorbed x run (next ∷ runs) none before lies =
    cond_both (is_before run next) (run ∷ next ∷ runs) (absorbed (joined run next) runs) (λ (l : List Range). LiesBefore x l)
    (λ e. (before, lies))
    (λ e. lies_absorbed x (joined run next) runs (none_joined run next runs none.1) (before_joined x run next (touch run next (not_before run next e) none.0) before lies.0) lies.1)

canonical_absorbed : (run : Range) (runs : List Range) → NoneBefore runs run → 1 ≤ run.len → IsCanonical runs → IsCanonical (absorbed run runs)
canonical_absorbed run [] none some c = (some, tt, tt)
canonical_absorbed run (next ∷ runs) none some c =
    cond_both (is_before run next) (run ∷ next ∷ runs) (absorbed (joined run next) runs) (λ (l : List Range). IsCanonical l)
    (λ e. let before : IsBefore run next = before_is run next e in (some, (before, lies_later run next runs before c.1), c))
    (λ e. canonical_absorbed (joined run next) runs (none_joined run next runs none.1) (omega (arith, some)) c.2)

ends_absorbed : (run : Range) (runs : List Range) (bound : ℕ) → run.offset + run.len ≤ bound → EndWithin runs bound → EndWithin (absorbed run runs) bound
ends_absorbed run [] bound end ends = (end, tt)
ends_absorbed run (next ∷ runs) bound end ends =
    cond_both (is_before run next) (run ∷ next ∷ runs) (absorbed (joined run next) runs) (λ (l : List Range). EndWithin l bound)
    (λ e. (end, ends))
    (λ e. ends_absorbed (joined run next) runs bound (omega (arith, end, ends.0)) ends.1)

pub adds_merged : (range : Range) (runs : List Range) → IsCanonical runs → Adds runs range (merged range runs)
adds_merged range [] c s k = adds_absorbed range [] tt s k
adds_merged range (run ∷ runs) c s k =
    cond_both (is_before run range) (run ∷ merged range runs) (absorbed range (run ∷ runs)) (λ (l : List Range). Has l s k ↔ (Has (run ∷ runs) s k ⊎ HasPosition range s k))
    (λ e.
    let rest : Has (merged range runs) s k ↔ (Has runs s k ⊎ HasPosition range s k) = adds_merged range runs c.2 s k in (
      λ h. elim h [ inl here ↦ inl (inl here) | inr later ↦ elim (rest.0 later) [ inl old ↦ inl (inr old) | inr new ↦ inr new ] ],
      λ h. elim h [ inl old ↦ elim old [ inl here ↦ inl here | inr later ↦ inr (rest.1 (inl later)) ] | inr new ↦ inr (rest.1 (inr new)) ],
    ))
    (λ e. adds_absorbed range (run ∷ runs) (not_before run range e, none_later run range runs c.1 (not_before run range e)) s k)

lies_merged : (x range : Range) (runs : List Range) → IsCanonical runs → IsBefore x range → LiesBefore x runs → LiesBefore x (merged range runs)
lies_merged x range [] c before lies = (before, tt)
lies_merged x range (run ∷ runs) c before lies =
    cond_both (is_before run range) (run ∷ merged range runs) (absorbed range (run ∷ runs)) (λ (l : List Range). LiesBefore x l)
    (λ e. (lies.0, lies_merged x range runs c.2 before lies.1))
    (λ e. lies_absorbed x range (run ∷ runs) (not_before run range e, none_later run range runs c.1 (not_before run range e)) before lies)

pub canonical_merged : (range : Range) (runs : List Range) → 1 ≤ range.len → IsCanonical runs → IsCanonical (merged range runs)
canonical_merged range [] some c = (some, tt, tt)
canonical_merged range (run ∷ runs) some c =
    cond_both (is_before run range) (run ∷ merged range runs) (absorbed range (run ∷ runs)) (λ (l : List Range). IsCanonical l)
    (λ e. (c.0, lies_merged run range runs c.2 (before_is run range e) c.1, canonical_merged range runs some c.2))
    (λ e. canonical_absorbed range (run ∷ runs) (not_before run range e, none_later run range runs c.1 (not_before run range e)) some c)

pub ends_merged : (range : Range) (runs : List Range) (bound : ℕ) → range.offset + range.len ≤ bound → EndWithin runs bound → EndWithin (merged range runs) bound
ends_merged range [] bound end ends = (end, tt)
ends_merged range (run ∷ runs) bound end ends =
    cond_both (is_before run range) (run ∷ merged range runs) (absorbed range (run ∷ runs)) (λ (l : List Range). EndWithin l bound)
    (λ e. (ends.0, ends_merged range runs bound end ends.1))
    (λ e. ends_absorbed range (run ∷ runs) bound end ends)

-- how many runs would stand
pub needs_above : (n : ℕ) (range : Range) (runs : List Range) → 1 ≤ range.len → IsCanonical runs → n < length (merged range runs) → NeedsRunsAbove n runs range.segment range.offset range.len
needs_above n range runs some c more = (merged range runs, canonical_merged range runs some c, adds_merged range runs c, more)

pub above_needs : (n : ℕ) (range : Range) (runs : List Range) → 1 ≤ range.len → IsCanonical runs → NeedsRunsAbove n runs range.segment range.offset range.len → n < length (merged range runs)
above_needs n range runs some c needs =
    let same : needs.0 ≡ merged range runs = one_canonical needs.0 (merged range runs) needs.1 (canonical_merged range runs some c) (λ s k.
    (λ h. (adds_merged range runs c s k).1 ((needs.2 s k).0 h), λ h. (needs.2 s k).1 ((adds_merged range runs c s k).0 h))) in
    subst (λ (l : List Range). n < length l) same needs.3

-- Positions that are all in a set

pub held : (runs : List Range) (range : Range) → some_holds runs range ≡ true → (k : ℕ) → range.offset ≤ k → k < range.offset + range.len → Has runs range.segment k
held [] range e k low high = absurd (cc)
held (run ∷ runs) range e k low high = elim (or_cases (is_holding run range) (some_holds runs range) e) [
  | inl here ↦ let h : Holds run range = holding_is run range here in inl (sym h.segment, omega (arith, h.start), omega (arith, h.end))
  | inr later ↦ inr (held runs range later k low high)
]

pub holds_from : (runs : List Range) (range : Range) → IsCanonical runs → 1 ≤ range.len → ((k : ℕ) → range.offset ≤ k → k < range.offset + range.len → Has runs range.segment k) → some_holds runs range ≡ true
holds_from [] range c some all = absurd (all range.offset (omega arith) (omega arith))
holds_from (run ∷ runs) range c some all = elim (all range.offset (omega arith) (omega arith)) [
  | inl here ↦ elim (cases_lt (run.offset + run.len) (range.offset + range.len)) [
    | inl short ↦ elim (all (run.offset + run.len) (omega (arith, here.2)) short) [
      | inl again ↦ absurd (omega (arith, again.2))
      | inr later ↦ absurd (past_end run (subst (λ (s : ℕ). IsPast run s (run.offset + run.len)) here.0 (past run runs _ _ c.1 later)))
    ]
    | inr long ↦ or_left _ _ (holding_from run range (sym here.0) here.1 long)
  ]
  | inr later ↦
      let behind : IsPast run range.segment range.offset = past run runs _ _ c.1 later in
      or_right _ _ (holds_from runs range c.2 some (λ k low high. elim (all k low high) [
        | inl here ↦ absurd (past_not run range.segment k (further run range.segment range.offset k low behind) here)
        | inr there ↦ there
      ]))
]
  where
    further : (run : Range) (s j k : ℕ) → j ≤ k → IsPast run s j → IsPast run s k
    further run s j k le behind = elim behind [ inl less ↦ inl less | inr both ↦ inr (both.0, omega (arith, both.1)) ]
