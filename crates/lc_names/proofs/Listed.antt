-- The names of a table are those of its map, each once.
use Rattle.std.proofs.Common.{◌≡◌, ℕ, zero, suc, ◌<◌, Bool, true, false, cond, List, [], ◌∷◌, length, get_or, map, Option, Some, None, refl, sym, ap, subst, ◌∙◌, inl, inr, arith}
use Rattle.std.specs.Prelude.{◌⊎◌, Contains, IsSome, IsTrue, filter, is_some}
use Rattle.std.specs.List.{IsDistinct}
use Rattle.std.specs.Str.{bytes_eq}
use Rattle.std.proofs.lemmas.Bool.{cases_Bool, false_from_ne_true, true≢false}
use Rattle.std.proofs.lemmas.List.{get_or_default}
use Rattle.std.proofs.lemmas.List.Elements.{recursion_from_All}
use Rattle.std.proofs.lemmas.Map.Keys.{IsDistinct-cons}
use Rattle.std.proofs.lemmas.Slice.Eq.{bytes_eq-Decides}
use Rattle.lc_names.specs.NameEntry.{attributes_of, is_named, is_used, name_of}
use Rattle.lc_names.specs.Table.{IsTable, attributes_among, names_in}
use Rattle.lc_names.proofs.Entries.{named_from, named_is, named_used}
use Rattle.lc_names.proofs.Lookups.{met, none_among, passed}

used_names : (entry : List ℕ) (entries : List (List ℕ)) → is_used entry ≡ true → names_in (entry ∷ entries) ≡ name_of entry ∷ names_in entries
used_names entry entries used = ap (λ (b : Bool). map name_of (cond b (entry ∷ filter is_used entries) (filter is_used entries))) used

unused_names : (entry : List ℕ) (entries : List (List ℕ)) → is_used entry ≡ false → names_in (entry ∷ entries) ≡ names_in entries
unused_names entry entries unused = ap (λ (b : Bool). map name_of (cond b (entry ∷ filter is_used entries) (filter is_used entries))) unused

head_or_behind : (x : List ℕ) (xs : List (List ℕ)) (y : List ℕ) → Contains (x ∷ xs) y → (x ≡ y) ⊎ Contains xs y
head_or_behind x xs y (zero, l, e) = inl e
head_or_behind x xs y (suc k, l, e) = inr (k, omega arith, e)

contains_head : (x : List ℕ) (xs : List (List ℕ)) (y : List ℕ) → x ≡ y → Contains (x ∷ xs) y
contains_head x xs y e = (0, omega arith, e)

contains_behind : (x : List ℕ) (xs : List (List ℕ)) (y : List ℕ) → Contains xs y → Contains (x ∷ xs) y
contains_behind x xs y (k, l, e) = (suc k, omega arith, e)

some_later : (b : Bool) (found : List ℕ) (rest : Option (List ℕ)) → IsSome rest → IsSome (cond b (Some found) rest)
some_later true found rest some = refl
some_later false found rest some = some

pub listed_some : (name : List ℕ) (entries : List (List ℕ)) → Contains (names_in entries) name → IsSome (attributes_among name entries)
listed_some name [] (k, l, e) = absurd (omega arith)
listed_some name (entry ∷ entries) has =
    let rest : Contains (names_in entries) name → IsSome (attributes_among name (entry ∷ entries)) = λ h. some_later (is_named name entry) (attributes_of entry) (attributes_among name entries) (listed_some name entries h) in
    elim (cases_Bool (is_used entry)) [
      | inl used ↦ elim (head_or_behind (name_of entry) (names_in entries) name (subst (λ (l : List (List ℕ)). Contains l name) (used_names entry entries used) has)) [
        | inl same ↦ ap (λ (o : Option (List ℕ)). is_some o) (met name entry (attributes_among name entries) (named_from name entry used same))
        | inr h ↦ rest h
      ]
      | inr unused ↦ rest (subst (λ (l : List (List ℕ)). Contains l name) (unused_names entry entries unused) has)
    ]

pub some_listed : (name : List ℕ) (entries : List (List ℕ)) → IsSome (attributes_among name entries) → Contains (names_in entries) name
some_listed name [] some = absurd (true≢false (sym some))
some_listed name (entry ∷ entries) some = elim (cases_Bool (is_named name entry)) [
  | inl named ↦ subst (λ (l : List (List ℕ)). Contains l name) (sym (used_names entry entries (named_used name entry named))) (contains_head (name_of entry) (names_in entries) name (named_is name entry named))
  | inr other ↦
      let behind : Contains (names_in entries) name = some_listed name entries (subst IsSome (passed name entry (attributes_among name entries) other) some) in
      elim (cases_Bool (is_used entry)) [
        | inl used ↦ subst (λ (l : List (List ℕ)). Contains l name) (sym (used_names entry entries used)) (contains_behind (name_of entry) (names_in entries) name behind)
        | inr unused ↦ subst (λ (l : List (List ℕ)). Contains l name) (sym (unused_names entry entries unused)) behind
      ]
]

-- no name stands in two of these entries
abbrev IsOnceAmong : List (List ℕ) → Type 0
IsOnceAmong entries = (name : List ℕ) (i j : ℕ) → i < length entries → j < length entries → IsTrue (is_named name (get_or entries i [])) → IsTrue (is_named name (get_or entries j [])) → i ≡ j

once_behind : (entry : List ℕ) (entries : List (List ℕ)) → IsOnceAmong (entry ∷ entries) → IsOnceAmong entries
once_behind entry entries once name i j l m one two = let same : suc i ≡ suc j = once name (suc i) (suc j) (omega arith) (omega arith) one two in omega arith

gone_behind : (entry : List ℕ) (entries : List (List ℕ)) → IsOnceAmong (entry ∷ entries) → is_used entry ≡ true → attributes_among (name_of entry) entries ≡ None
gone_behind entry entries once used = none_among (name_of entry) entries (λ k l. false_from_ne_true (is_named (name_of entry) (get_or entries k [])) (λ named.
    (let same : 0 ≡ suc k = once (name_of entry) 0 (suc k) (omega arith) (omega arith) (named_from (name_of entry) entry used refl) named in absurd (omega arith))))

apart_at : (entry : List ℕ) (entries : List (List ℕ)) → IsOnceAmong (entry ∷ entries) → is_used entry ≡ true → (k : ℕ) (d : List ℕ) → k < length (names_in entries) → bytes_eq (name_of entry) (get_or (names_in entries) k d) ≡ false
apart_at entry entries once used k d l = false_from_ne_true (bytes_eq (name_of entry) (get_or (names_in entries) k d)) (λ equal.
    let same : name_of entry ≡ get_or (names_in entries) k d = (bytes_eq-Decides (name_of entry) (get_or (names_in entries) k d)).0 equal in
    let there : get_or (names_in entries) k (name_of entry) ≡ name_of entry = get_or_default (names_in entries) k (name_of entry) d l ∙ sym same in
    let some : IsSome (attributes_among (name_of entry) entries) = listed_some (name_of entry) entries (k, l, there) in
    true≢false (sym some ∙ ap (λ (o : Option (List ℕ)). is_some o) (gone_behind entry entries once used)))

distinct_names : (entries : List (List ℕ)) → IsOnceAmong entries → IsDistinct bytes_eq (names_in entries)
unfolding IsDistinct
distinct_names [] once = tt
distinct_names (entry ∷ entries) once =
    let rest : IsDistinct bytes_eq (names_in entries) = distinct_names entries (once_behind entry entries once) in
    elim (cases_Bool (is_used entry)) [
      | inl used ↦ subst (λ (l : List (List ℕ)). IsDistinct bytes_eq l) (sym (used_names entry entries used)) (IsDistinct-cons bytes_eq (name_of entry) (names_in entries)
          (recursion_from_All (λ y. bytes_eq (name_of entry) y ≡ false) (names_in entries) (λ k d l. apart_at entry entries once used k d l)) rest)
      | inr unused ↦ subst (λ (l : List (List ℕ)). IsDistinct bytes_eq l) (sym (unused_names entry entries unused)) rest
    ]

pub distinct_in : (entries : List (List ℕ)) → IsTable entries → IsDistinct bytes_eq (names_in entries)
distinct_in entries holds = distinct_names entries holds.once
