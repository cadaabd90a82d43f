-- The pages of a recovered segment, one after another.
use Rattle.std.proofs.Common.{◌≡◌, ℕ, zero, suc, ◌+◌, ◌*◌, ◌<◌, List, [], ◌∷◌, ◌++◌, map, take, drop, length, refl, sym, ap, subst, ◌∙◌, arith, inl, inr}
use Rattle.std.specs.List.{flat_map}
use Rattle.std.proofs.Math.Seq.{drop-append-add}
use Rattle.std.proofs.lemmas.List.{map-append, take-append-le, take_all, length-append, append-nil as append_none}
use Rattle.std.proofs.lemmas.Grind.{flat_map-append}
use Rattle.std.proofs.lemmas.Bool.{cases_eq}
use Rattle.lc_record.specs.Marks.{counting}
use Rattle.lc_record.proofs.ListLemmas.{counting_push_zero as counting_more}
use Rattle.lc_page.specs.PageVector.{entry_at, new_entry}
use Rattle.lc_page.specs.declared.page_text.PageText.{PageText}
use Rattle.lc_segments.specs.Pages.{page_bytes}

-- one more page
pub bytes_more : (f : ℕ → List ℕ) (page : ℕ) (new old items : List ℕ) → new ≡ old ++ items → old ≡ flat_map f (counting 0 page) → items ≡ f page → new ≡ flat_map f (counting 0 (page + 1))
bytes_more f page new old items is before its =
    is ∙ ap (λ (l : List ℕ). l ++ items) before
    ∙ ap (λ (l : List ℕ). flat_map f (counting 0 page) ++ l) (its ∙ sym (append_none (f page)))
    ∙ sym (ap (flat_map f) (counting_more page) ∙ flat_map-append f (counting 0 page) (page ∷ []))

-- one more entry
pub items_more : {A : Type 0} (f : ℕ → A) (page : ℕ) (new old : List A) (item : A) → new ≡ old ++ item ∷ [] → old ≡ map f (counting 0 page) → item ≡ f page → new ≡ map f (counting 0 (page + 1))
items_more {A} f page new old item is before its =
    is ∙ ap (λ (l : List A). l ++ item ∷ []) before ∙ ap (λ (x : A). map f (counting 0 page) ++ x ∷ []) its
    ∙ sym (ap (map f) (counting_more page) ∙ map-append f (counting 0 page) (page ∷ []))

-- those in front of a place have this, and so has the one there
pub below_more : (P : ℕ → Type 0) (n : ℕ) → ((k : ℕ) → k < n → P k) → P n → (k : ℕ) → k < n + 1 → P k
below_more P n before here k less = elim (cases_eq k n) [ inl same ↦ subst P (sym same) here | inr other ↦ before k (omega (arith, less, other)) ]

-- Where each page has 256 bytes

pub bytes_long : (f : ℕ → List ℕ) (from n : ℕ) → ((k : ℕ) → k < n → length (f (from + k)) ≡ 256) → length (flat_map f (counting from n)) ≡ n * 256
bytes_long f from zero long = refl
bytes_long f from (suc n) long =
    let first : length (f from) ≡ 256 = (let same : from + 0 ≡ from = omega arith in ap (λ (k : ℕ). length (f k)) (sym same) ∙ long 0 (omega arith)) in
    let rest : length (flat_map f (counting (from + 1) n)) ≡ n * 256 = bytes_long f (from + 1) n (λ k less. (let same : (from + 1) + k ≡ from + (k + 1) = omega arith in ap (λ (i : ℕ). length (f i)) same ∙ long (k + 1) (omega (arith, less)))) in
    omega (arith, length-append (f from) (flat_map f (counting (from + 1) n)), first, rest)

page_from : (f : ℕ → List ℕ) (from n page : ℕ) → ((k : ℕ) → k < n → length (f (from + k)) ≡ 256) → page < n → take 256 (drop (page * 256) (flat_map f (counting from n))) ≡ f (from + page)
page_from f from zero page long less = absurd (omega (arith, less))
page_from f from (suc n) zero long less =
    let same : from + 0 ≡ from = omega arith in
    let first : length (f from) ≡ 256 = ap (λ (k : ℕ). length (f k)) (sym same) ∙ long 0 (omega arith) in
    take-append-le 256 (f from) (flat_map f (counting (from + 1) n)) (omega (arith, first)) ∙ take_all 256 (f from) (omega (arith, first)) ∙ ap f (sym same)
page_from f from (suc n) (suc page) long less =
    let same : from + 0 ≡ from = omega arith in
    let first : length (f from) ≡ 256 = ap (λ (k : ℕ). length (f k)) (sym same) ∙ long 0 (omega arith) in
    let rest = flat_map f (counting (from + 1) n) in
    let past : suc page * 256 ≡ length (f from) + page * 256 = omega (arith, first) in
    let next : (from + 1) + page ≡ from + suc page = omega arith in
    ap (λ (k : ℕ). take 256 (drop k (f from ++ rest))) past
    ∙ ap (take 256) (drop-append-add (f from) rest (page * 256))
    ∙ page_from f (from + 1) n page (λ k within. (let then : (from + 1) + k ≡ from + (k + 1) = omega arith in ap (λ (i : ℕ). length (f i)) then ∙ long (k + 1) (omega (arith, within)))) (omega (arith, less))
    ∙ ap f next

pub page_there : (f : ℕ → List ℕ) (n page : ℕ) → ((k : ℕ) → k < n → length (f k) ≡ 256) → page < n → page_bytes (flat_map f (counting 0 n)) page ≡ f page
page_there f n page long less =
    let same : 0 + page ≡ page = omega arith in
    page_from f 0 n page (λ k within. (let is : 0 + k ≡ k = omega arith in ap (λ (i : ℕ). length (f i)) is ∙ long k within)) less ∙ ap f same

-- the entry of a page
entry_from : (f : ℕ → PageText) (from n page : ℕ) → page < n → entry_at (map new_entry (map f (counting from n))) page ≡ new_entry (f (from + page))
entry_from f from zero page less = absurd (omega (arith, less))
entry_from f from (suc n) zero less = (let same : from ≡ from + 0 = omega arith in ap (λ (k : ℕ). new_entry (f k)) same)
entry_from f from (suc n) (suc page) less =
    let next : (from + 1) + page ≡ from + suc page = omega arith in
    entry_from f (from + 1) n page (omega (arith, less)) ∙ ap (λ (k : ℕ). new_entry (f k)) next

pub entry_there : (f : ℕ → PageText) (n page : ℕ) → page < n → entry_at (map new_entry (map f (counting 0 n))) page ≡ new_entry (f page)
entry_there f n page less = (let same : 0 + page ≡ page = omega arith in entry_from f 0 n page less ∙ ap (λ (k : ℕ). new_entry (f k)) same)

pub entries_count : (f : ℕ → PageText) (from n : ℕ) → length (map new_entry (map f (counting from n))) ≡ n
entries_count f from zero = refl
entries_count f from (suc n) = ap suc (entries_count f (from + 1) n)
