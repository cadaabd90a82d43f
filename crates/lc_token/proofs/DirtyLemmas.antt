-- The dirty pages among the first ones.
use Rattle.std.proofs.Common.{ℕ, ◌+◌, ◌<◌, List, [], ◌∷◌, ◌++◌, get_or, Contains, sym, subst, inl, inr, arith}
use Rattle.std.specs.Prelude.{◌↔◌}
use Rattle.std.specs.List.{AllPairs}
use Rattle.std.proofs.lemmas.Bool.{cases_eq}
use Rattle.std.proofs.lemmas.List.Elements.{Contains-push, Contains-push_cases, Contains-append_left, Contains-get_or}
use Rattle.std.proofs.lemmas.List.Quantifiers.{all_pairs_push}
use Rattle.lc_page.specs.declared.page_entry.PageEntry.{PageEntry}
use Rattle.lc_token.specs.Token.{IsDirtyPage}
use Rattle.lc_token.specs.Dirty.{AreDirtyPages}

-- these numbers ascend, and are those of the dirty pages below an end
pub record DirtyBelow (pages : List PageEntry) (end : ℕ) (numbers : List ℕ) : Type 0 where
  pub ascend : AllPairs (λ a b. a < b) numbers
  pub each : (page : ℕ) → Contains numbers page ↔ ((page < end) × IsDirtyPage pages page)

pub dirty_more : (pages : List PageEntry) (end : ℕ) (numbers : List ℕ) → IsDirtyPage pages end → DirtyBelow pages end numbers → DirtyBelow pages (end + 1) (numbers ++ end ∷ [])
dirty_more pages end numbers dirty below = record {
  ascend = all_pairs_push (λ (a b : ℕ). a < b) numbers end below.ascend (λ k d within. ((below.each (get_or numbers k d)).0 (Contains-get_or numbers k d within)).0);
  each = λ page. (
    λ c. elim (Contains-push_cases numbers end page c) [
      | inl before ↦ let its = (below.each page).0 before in (omega (arith, its.0), its.1)
      | inr same ↦ subst (λ (n : ℕ). (n < end + 1) × IsDirtyPage pages n) same (omega arith, dirty)
    ],
    λ its. elim (cases_eq page end) [
      | inl same ↦ subst (λ (n : ℕ). Contains (numbers ++ end ∷ []) n) (sym same) (Contains-push numbers end)
      | inr other ↦ Contains-append_left numbers (end ∷ []) page ((below.each page).1 (omega (arith, its.0, other), its.1))
    ],
  );
}

pub clean_same : (pages : List PageEntry) (end : ℕ) (numbers : List ℕ) → (IsDirtyPage pages end → ⊥) → DirtyBelow pages end numbers → DirtyBelow pages (end + 1) numbers
clean_same pages end numbers clean below = record {
  ascend = below.ascend;
  each = λ page. (
    λ c. let its = (below.each page).0 c in (omega (arith, its.0), its.1),
    λ its. elim (cases_eq page end) [
      | inl same ↦ absurd (clean (subst (IsDirtyPage pages) same its.1))
      | inr other ↦ (below.each page).1 (omega (arith, its.0, other), its.1)
    ],
  );
}

pub dirty_all : (pages : List PageEntry) (end : ℕ) (numbers : List ℕ) → ((page : ℕ) → IsDirtyPage pages page → page < end) → DirtyBelow pages end numbers → AreDirtyPages pages numbers
dirty_all pages end numbers all below = record {
  ascend = below.ascend;
  each = λ page. (λ c. ((below.each page).0 c).1, λ dirty. (below.each page).1 (all page dirty, dirty));
}
