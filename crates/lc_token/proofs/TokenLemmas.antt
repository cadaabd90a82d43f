-- The least number that a dirty page has on the disk, among the first pages.
use Rattle.std.proofs.Common.{◌≡◌, ◌⊎◌, ◌^◌, ℕ, zero, suc, ◌+◌, ◌<◌, ◌≤◌, true, false, Bool, Option, Some, None, List, length, min, refl, sym, subst, inl, inr, arith}
use Rattle.std.proofs.lemmas.Bool.{cases_eq, cases_lt}
use Rattle.lc_page.specs.declared.page_entry.PageEntry.{PageEntry}
use Rattle.lc_page.specs.PageVector.{entry_at, is_dirty}
use Rattle.lc_token.specs.Token.{HasOlder, IsDirtyPage, IsLeastStable, least_with}

abbrev pub OldestBelow : List PageEntry → ℕ → Option ℕ → Type 0
OldestBelow pages end None = (page : ℕ) → page < end → ¬ IsDirtyPage pages page
OldestBelow pages end (Some number) =
    ((page : ℕ) × IsDirtyPage pages page × ((entry_at pages page).stable ≡ number))
    × ((page : ℕ) → page < end → IsDirtyPage pages page → number ≤ (entry_at pages page).stable)

-- a page that is not dirty changes nothing
pub clean_page : (pages : List PageEntry) (end : ℕ) (oldest : Option ℕ) → ¬ IsDirtyPage pages end → OldestBelow pages end oldest → OldestBelow pages (end + 1) oldest
clean_page pages end None clean h = λ page lt. elim (cases_eq page end) [
  | inl same ↦ λ dirty. clean (subst (IsDirtyPage pages) same dirty)
  | inr other ↦ h page (omega (arith, lt, other))
]
clean_page pages end (Some number) clean h = (
  h.0,
  λ page lt dirty. elim (cases_eq page end) [
    | inl same ↦ absurd (clean (subst (IsDirtyPage pages) same dirty))
    | inr other ↦ h.1 page (omega (arith, lt, other)) dirty
  ],
)

pub dirty_page : (pages : List PageEntry) (end : ℕ) (oldest : Option ℕ) → IsDirtyPage pages end → OldestBelow pages end oldest → OldestBelow pages (end + 1) (Some (least_with oldest (entry_at pages end).stable))
dirty_page pages end None is h = (
  (end, is, refl),
  λ page lt dirty. elim (cases_eq page end) [
    | inl same ↦ subst (λ (n : ℕ). (entry_at pages end).stable ≤ (entry_at pages n).stable) (sym same) (omega arith)
    | inr other ↦ absurd (h page (omega (arith, lt, other)) dirty)
  ],
)
dirty_page pages end (Some number) is h = (
  elim (cases_lt number (entry_at pages end).stable) [
    | inl less ↦ (h.0.0, h.0.1, omega (arith, h.0.2, less))
    | inr least ↦ (end, is, omega (arith, least))
  ],
  λ page lt dirty. elim (cases_eq page end) [
    | inl same ↦ subst (λ (n : ℕ). min number (entry_at pages end).stable ≤ (entry_at pages n).stable) (sym same) (omega arith)
    | inr other ↦ omega (arith, h.1 page (omega (arith, lt, other)) dirty)
  ],
)

either : (b : Bool) → (b ≡ true) ⊎ (b ≡ true → ⊥)
either true = inl refl
either false = inr (λ is. absurd cc)

is_dirty_page : (pages : List PageEntry) (page : ℕ) → IsDirtyPage pages page ⊎ ¬ IsDirtyPage pages page
is_dirty_page pages page = elim (cases_lt page (length pages)) [
  | inr behind ↦ inr (λ dirty. omega (arith, behind, dirty.0))
  | inl among ↦ elim (cases_lt page (2 ^ 32)) [
    | inr large ↦ inr (λ dirty. omega (arith, large, dirty.1))
    | inl small ↦ elim (either (is_dirty (entry_at pages page))) [
      | inl dirty ↦ inl (among, small, dirty)
      | inr clean ↦ inr (λ dirty. clean dirty.2)
    ]
  ]
]

oldest_below : (pages : List PageEntry) (end : ℕ) → (oldest : Option ℕ) × OldestBelow pages end oldest
oldest_below pages zero = (None, λ page below dirty. omega (arith, below))
oldest_below pages (suc end) =
    let before = oldest_below pages end in
    let next : end + 1 ≡ suc end = omega arith in
    elim (is_dirty_page pages end) [
      | inl dirty ↦ (Some (least_with before.0 (entry_at pages end).stable), subst (λ (n : ℕ). OldestBelow pages n (Some (least_with before.0 (entry_at pages end).stable))) next (dirty_page pages end before.0 dirty before.1))
      | inr clean ↦ (before.0, subst (λ (n : ℕ). OldestBelow pages n before.0) next (clean_page pages end before.0 clean before.1))
    ]

-- where a page is dirty there is a least number
least_of_all : (pages : List PageEntry) (page : ℕ) → IsDirtyPage pages page → (oldest : Option ℕ) → OldestBelow pages (length pages) oldest
    → (number : ℕ) × IsLeastStable pages number × (number ≤ (entry_at pages page).stable)
least_of_all pages page dirty None h = absurd (h page dirty.0 dirty)
least_of_all pages page dirty (Some number) h = (number, (h.0, λ other is. h.1 other is.0 is), h.1 page dirty.0 dirty)

pub least_stable : (pages : List PageEntry) (number : ℕ) → HasOlder pages number → (least : ℕ) × IsLeastStable pages least × (least ≤ number)
least_stable pages number has =
    let all = oldest_below pages (length pages) in
    let least = least_of_all pages has.0 has.1 all.0 all.1 in
    (least.0, least.1, omega (arith, least.2, has.2))
