-- The pages that the merged changes are of.
use Rattle.std.proofs.Common.{◌≡◌, ◌≢◌, ℕ, suc, ◌+◌, ◌-◌, ◌*◌, ◌<◌, ◌≤◌, false, Some, List, [], ◌∷◌, map, length, All, Contains, sym, subst, arith, inl, inr, eqb-true}
use Rattle.std.specs.Prelude.{slice_get}
use Rattle.std.specs.List.{IsDistinct}
use Rattle.std.proofs.Math.Dec.{eqb}
use Rattle.std.proofs.Math.Nat.{mul-le-mul_right}
use Rattle.std.proofs.lemmas.Bool.{cases_Bool, cases_lt}
use Rattle.std.proofs.lemmas.List.{length-map}
use Rattle.std.proofs.lemmas.List.Elements.{All-head, All-tail, All-map, All-weaker, All-contains, All-contains_itself, recursion_from_All}
use Rattle.std.proofs.lemmas.Map.Keys.{IsDistinct-cons}
use Rattle.std.proofs.lemmas.Map.Steps.{length-le_from_distinct_below}
use Rattle.std.proofs.lemmas.Map.Views.{Contains-from_any}
use Rattle.std.proofs.lemmas.Option.{slice_get_within}
use Rattle.lc_record.specs.Content.{segment_of}
use Rattle.lc_model.specs.Merge.{Page, StoreText, all_records}
use Rattle.lc_model.specs.Recovered.{IsBehind}
use Rattle.lc_model.proofs.Visible.{in-logs, log-known}
use Rattle.lc_recover.proofs.Images.{in-segment}
use Rattle.lc_recover.proofs.PagesOf.{are_listed, are_ascending, are_different}
use Rattle.lc_recover.proofs.MergedPage.{change_has}
use Rattle.lc_recover.specs.StoreContents.{IsChange, IsMerging}
use Rattle.lc_recover.specs.Page.{pages_of, AreDifferent}
use Rattle.lc_recover.specs.Recovery.{AreBehind}
use Rattle.lc_recover.specs.declared.merged.Merged.{Merged}

abbrev Pair : Type 0
Pair = ℕ × ℕ

module _ (logs : List (List ℕ)) (store : StoreText) (merged : Merged) (merging : IsMerging logs store merged) where
  -- a page that is listed, and the record that is newer
  listed_page : (segment page : ℕ) → Contains (pages_of merged.changes.items) (segment, page)
      → (text : Page) × (slice_get (segment_of segment store.pages) page ≡ Some text) × IsBehind store segment page text
  listed_page segment page has =
      let one = (are_listed merged.changes.items segment page).0 has in
      let its : IsChange logs store one.0 = All-contains (IsChange logs store) merged.changes.items one.0 merging.index.sound one.1 in
      let among : Contains (all_records store) its.changing = in-logs store.logs one.0.log its.changing (log-known store.logs one.0.log its.changing its.among) its.among in
      let behind : (text : Page) × (slice_get (segment_of one.0.segment store.pages) one.0.page ≡ Some text) × IsBehind store one.0.segment one.0.page text
      = (its.text, its.page, (its.changing, among, its.offset, its.on_page, change_has logs store one.0 its)) in
      subst (λ (p : ℕ). (text : Page) × (slice_get (segment_of segment store.pages) p ≡ Some text) × IsBehind store segment p text) one.2.1
      (subst (λ (s : ℕ). (text : Page) × (slice_get (segment_of s store.pages) one.0.page ≡ Some text) × IsBehind store s one.0.page text) one.2.0 behind)

  page_listed : (segment page : ℕ) (text : Page) → slice_get (segment_of segment store.pages) page ≡ Some text → IsBehind store segment page text
      → Contains (pages_of merged.changes.items) (segment, page)
  page_listed segment page text is behind =
      let one = merging.index.whole segment page behind.2 text behind.0 is behind.1 behind.3 behind.4 in
      (are_listed merged.changes.items segment page).1 (one.0, one.1, (one.2, one.3))

-- the pages of the changes are those that some record is newer than, in order
pub pages-behind : (logs : List (List ℕ)) (store : StoreText) (merged : Merged) → IsMerging logs store merged → AreBehind store (pages_of merged.changes.items)
pages-behind logs store merged merging = record {
  ascending = are_ascending merged.changes.items merging.index.ascending;
  all = λ segment page. (
    listed_page logs store merged merging segment page,
    λ its. page_listed logs store merged merging segment page its.0 its.1 its.2,
  );
}

-- How many there are

-- the place of a page among all, of so many in a segment
place_in : ℕ → Pair → ℕ
place_in pages p = (p.0 - 1) * pages + p.1

-- a page of one of so many segments
abbrev LiesIn : ℕ → ℕ → Pair → Type 0
LiesIn segments pages p = (1 ≤ p.0) × (p.0 ≤ segments) × (p.1 < pages)

earlier_row : (a b n p q : ℕ) → p < n → a < b → a * n + p ≢ b * n + q
earlier_row a b n p q within before same =
    let next : suc a * n ≤ b * n = mul-le-mul_right n before in
    omega (arith, next, same, within)

same_row : (a b n p q : ℕ) → p < n → q < n → a * n + p ≡ b * n + q → a ≡ b
same_row a b n p q first second same =
    elim (cases_lt a b) [
      | inl before ↦ absurd (earlier_row a b n p q first before same)
      | inr not_before ↦
          (elim (cases_lt b a) [
            | inl behind ↦ absurd (earlier_row b a n q p second behind (sym same))
            | inr not_behind ↦ omega (arith, not_before, not_behind)
          ])
    ]

same_column : (a b n p q : ℕ) → a ≡ b → a * n + p ≡ b * n + q → p ≡ q
same_column a b n p q row same =
    let here : b * n + p ≡ b * n + q = subst (λ (c : ℕ). c * n + p ≡ b * n + q) row same in
    omega (arith, here)

in_row : (a m n p : ℕ) → p < n → a < m → a * n + p < m * n
in_row a m n p within before =
    let next : suc a * n ≤ m * n = mul-le-mul_right n before in
    omega (arith, next, within)

same_place : (segments pages : ℕ) (p q : Pair) → LiesIn segments pages p → LiesIn segments pages q → place_in pages p ≡ place_in pages q → p ≡ q
unfolding place_in
same_place segments pages p q first second same =
    let row : p.0 - 1 ≡ q.0 - 1 = same_row (p.0 - 1) (q.0 - 1) pages p.1 q.1 first.2 second.2 same in
    let segment : p.0 ≡ q.0 = omega (arith, row, first.0, second.0) in
    let page : p.1 ≡ q.1 = same_column (p.0 - 1) (q.0 - 1) pages p.1 q.1 row same in
    λ i. (segment i, page i)

place_within : (segments pages : ℕ) (p : Pair) → LiesIn segments pages p → place_in pages p < segments * pages
unfolding place_in
place_within segments pages p lies = in_row (p.0 - 1) segments pages p.1 lies.2 (omega (arith, lies.0, lies.1))

different_places : (segments pages : ℕ) (ps : List Pair) → All (LiesIn segments pages) ps → AreDifferent ps → IsDistinct eqb (map (place_in pages) ps)
unfolding IsDistinct
different_places segments pages [] lie differ = tt
different_places segments pages (p ∷ ps) lie differ =
    let behind : All (LiesIn segments pages) ps = All-tail (LiesIn segments pages) p ps lie in
    IsDistinct-cons eqb (place_in pages p) (map (place_in pages) ps)
    (recursion_from_All (λ (n : ℕ). eqb (place_in pages p) n ≡ false) (map (place_in pages) ps)
    (All-map (λ (n : ℕ). eqb (place_in pages p) n ≡ false) (place_in pages) ps
    (All-weaker (Contains ps) (λ (q : Pair). eqb (place_in pages p) (place_in pages q) ≡ false)
    (λ q has.
    elim (cases_Bool (eqb (place_in pages p) (place_in pages q))) [
      | inl same ↦
          absurd (All-contains (λ (r : Pair). p ≢ r) ps q differ.0 has
          (same_place segments pages p q (All-head (LiesIn segments pages) p ps lie) (All-contains (LiesIn segments pages) ps q behind has) (eqb-true (place_in pages p) (place_in pages q) same)))
      | inr other ↦ other
    ])
    ps (All-contains_itself ps))))
    (different_places segments pages ps behind differ.1)

few_pairs : (segments pages : ℕ) (ps : List Pair) → All (LiesIn segments pages) ps → AreDifferent ps → length ps ≤ segments * pages
few_pairs segments pages ps lie differ =
    let below : All (λ (n : ℕ). n < segments * pages) (map (place_in pages) ps) =
    All-map (λ (n : ℕ). n < segments * pages) (place_in pages) ps (All-weaker (LiesIn segments pages) (λ (p : Pair). place_in pages p < segments * pages) (place_within segments pages) ps lie) in
    let few : length (map (place_in pages) ps) ≤ segments * pages =
    length-le_from_distinct_below (map (place_in pages) ps) (segments * pages) (different_places segments pages ps lie differ)
    (λ n found. All-contains (λ (m : ℕ). m < segments * pages) (map (place_in pages) ps) n below (Contains-from_any {eq = eqb} eqb-true n (map (place_in pages) ps) found)) in
    omega (arith, few, length-map ps (place_in pages))

-- there are at most as many as the segments have
pub few-pages : (logs : List (List ℕ)) (store : StoreText) (merged : Merged) (segments pages : ℕ) → IsMerging logs store merged → length store.pages ≡ segments
    → ((segment page : ℕ) (text : Page) → slice_get (segment_of segment store.pages) page ≡ Some text → page < pages) → length (pages_of merged.changes.items) ≤ segments * pages
few-pages logs store merged segments pages merging count within =
    let listed : List Pair = pages_of merged.changes.items in
    few_pairs segments pages listed
    (All-weaker (Contains listed) (LiesIn segments pages)
    (λ p has.
    let its = listed_page logs store merged merging p.0 p.1 has in
    let found = in-segment p.0 p.1 store.pages its.0 its.1 in
    let known : found.before < length store.pages = slice_get_within store.pages found.before found.part found.part_is in
    (omega (arith, found.next), omega (arith, found.next, known, count), within p.0 p.1 its.0 its.1))
    listed (All-contains_itself listed))
    (are_different merged.changes.items)
