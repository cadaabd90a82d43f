-- Entries that are sound make a table.
use Rattle.std.proofs.Common.{◌≡◌, ℕ, ◌+◌, get_or, ◌<◌, Bool, true, false, subst, List, length, refl, sym, ap, ◌∙◌, inl, inr, arith, nat_eq, eqb-true, eq-eqb}
use Rattle.std.specs.Prelude.{IsTrue, MatchBool, MatchResult, Result, Ok, Err}
use Rattle.std.specs.Result.{result_eq}
use Rattle.std.specs.List.{AllWithin, HoldsAt, range_with_len}
use Rattle.std.proofs.lemmas.List.FromFn.{get_or-range_with_len, length-range_with_len}
use Rattle.std.proofs.lemmas.Bool.{cases_Bool, cases_order, true≢false}
use Rattle.lc_names.specs.NameEntry.{Fits, is_named, is_used, name_of}
use Rattle.lc_names.specs.Table.{IsPlaceOf, IsSoundAt, IsTable, IsUnplaced, entry_at}
use Rattle.lc_names.specs.declared.name_fault.NameFault.{NameFault}
use Rattle.lc_names.specs.declared.name_fault.NameFault.TheVariants.{BadAttributes, BadName, Exists, Full, NoName, NoTable}
use Rattle.lc_names.proofs.Entries.{named_from, named_is, named_used, text_is_name}

module _ (entries : List (List ℕ)) (place : ℕ) (l : place < length entries) (long : length (entry_at entries place) ≡ 64) (used : is_used (entry_at entries place) ≡ true) (fit : Fits (entry_at entries place)) where
  abbrev own : List ℕ
  own = name_of (entry_at entries place)

  itself : is_named own (entry_at entries place) ≡ true
  itself = named_from own (entry_at entries place) used refl

  is_first : (k : ℕ) → IsPlaceOf own entries k → IsSoundAt entries place → k ≡ place
  is_first k at sound = elim (cases_order k place) [
    | inl same ↦ same
    | inr apart ↦ elim apart [
      | inl front ↦ absurd (true≢false (sym at.named ∙ (sound used).1 k front))
      | inr behind ↦ absurd (true≢false (sym itself ∙ at.first place behind))
    ]
  ]

  -- its name has a place
  placed : (fault : NameFault) → IsUnplaced own entries fault → ⊥
  placed NoTable told = told
  placed BadName told = told (text_is_name (entry_at entries place) long used fit)
  placed NoName told = true≢false (sym itself ∙ told.1 place l)
  placed Exists told = told
  placed BadAttributes told = told
  placed Full told = told

  -- the name's first place is this one where the entry is sound, and nowhere else
  pub sound_where : (same_fault : NameFault → NameFault → Bool) (looked : Result ℕ NameFault) (same : Bool) → MatchResult looked (IsPlaceOf own entries) (IsUnplaced own entries)
      → same ≡ result_eq nat_eq same_fault looked (Ok place) → (IsTrue same → IsSoundAt entries place) × (IsSoundAt entries place → IsTrue same)
  sound_where same_fault (Ok k) same at is = (
    λ true_is. (let here : k ≡ place = eqb-true k place (sym is ∙ true_is) in λ u. (fit, λ other front. at.first other (omega (arith, here, front)))),
    λ sound. is ∙ eq-eqb k place (is_first k at sound),
  )
  sound_where same_fault (Err fault) same told is = absurd (placed fault told)

not_before : (entries : List (List ℕ)) → ((k : ℕ) → k < length entries → IsSoundAt entries k) → (name : List ℕ) (i j : ℕ) → j < length entries
    → is_named name (entry_at entries i) ≡ true → is_named name (entry_at entries j) ≡ true → i < j → ⊥
not_before entries sound name i j l one two front =
    let same : name ≡ name_of (entry_at entries j) = sym (named_is name (entry_at entries j) two) in
    true≢false (sym one ∙ (ap (λ (n : List ℕ). is_named n (entry_at entries i)) same ∙ (sound j l (named_used name (entry_at entries j) two)).1 i front))

pub table_from_sound : (entries : List (List ℕ)) → ((k : ℕ) → k < length entries → IsSoundAt entries k) → IsTable entries
table_from_sound entries sound = record {
  fit = λ place l used. (sound place l used).0;
  once = λ name i j l m one two. elim (cases_order i j) [
    | inl same ↦ same
    | inr apart ↦ elim apart [
      | inl front ↦ absurd (not_before entries sound name i j m one two front)
      | inr behind ↦ absurd (not_before entries sound name j i l two one behind)
    ]
  ];
}

pub sound_from_table : (entries : List (List ℕ)) → IsTable entries → (k : ℕ) → k < length entries → IsSoundAt entries k
sound_from_table entries holds k l used = (
  holds.fit k l used,
  λ other front. elim (cases_Bool (is_named (name_of (entry_at entries k)) (entry_at entries other))) [
    | inl true_is ↦ absurd (omega (arith, front, holds.once (name_of (entry_at entries k)) other k (omega (arith, l, front)) l true_is (named_from (name_of (entry_at entries k)) (entry_at entries k) used refl)))
    | inr none ↦ none
  ],
)

same_place : (entries : List (List ℕ)) (k : ℕ) → k < length entries → get_or (range_with_len 0 (length entries)) k 0 ≡ k
same_place entries k l = get_or-range_with_len 0 (length entries) k 0 l ∙ (let e : 0 + k ≡ k = omega arith in e)

pub table_by_all : (entries : List (List ℕ)) (r : Bool)
    → MatchBool r (AllWithin (λ (k : ℕ). IsSoundAt entries k) (range_with_len 0 (length entries)) 0 (length (range_with_len 0 (length entries))))
    ((k : ℕ) × (k < length (range_with_len 0 (length entries))) × HoldsAt (λ (k : ℕ). IsSoundAt entries k → ⊥) (range_with_len 0 (length entries)) k)
    → (IsTrue r → IsTable entries) × (IsTable entries → IsTrue r)
table_by_all entries true all = (
  λ is. table_from_sound entries (λ k l. subst (λ (i : ℕ). IsSoundAt entries i) (same_place entries k l) (all k 0 (omega arith) (omega (arith, l, length-range_with_len 0 (length entries))))),
  λ holds. refl,
)
table_by_all entries false some = (
  λ is. absurd (true≢false (sym is)),
  λ holds. (
      let within : some.0 < length entries = omega (arith, some.1, length-range_with_len 0 (length entries)) in
      absurd (some.2 0 (subst (λ (i : ℕ). IsSoundAt entries i) (sym (same_place entries some.0 within)) (sound_from_table entries holds some.0 within)))),
)
