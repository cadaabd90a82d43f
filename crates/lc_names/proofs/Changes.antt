-- What a change of one entry makes of a table.
use Rattle.std.proofs.Common.{◌≡◌, ◌≢◌, ℕ, ◌<◌, true, false, List, [], length, get_or, set, arith, Option, Some, None, refl, sym, ap, subst, ◌∙◌, true≢false, inl, inr, get_or-set_other, get_or-set_same}
use Rattle.std.specs.Prelude.{IsSome, MatchOption, Ok, Err, is_some}
use Rattle.std.specs.Option.{ok_or}
use Rattle.std.specs.List.{AllWithin, HoldsAt}
use Rattle.std.specs.Str.{bytes_eq}
use Rattle.std.proofs.lemmas.Bool.{cases_eq, false_from_ne_true}
use Rattle.std.proofs.lemmas.List.{length-set}
use Rattle.lc_names.specs.Answers.{EntryChange, Changes, Creates, IsMissed, IsUnrenamed, Removes, Renames, left_by}
use Rattle.lc_names.specs.declared.name_fault.NameFault.{NameFault}
use Rattle.lc_names.specs.declared.name_fault.NameFault.TheVariants.{BadAttributes, BadName, Exists, Full, NoName, NoTable}
use Rattle.lc_names.specs.NameEntry.{AreAttributes, IsClean, IsName, attributes_of, entry_of, free_entry, is_named, name_of}
use Rattle.lc_names.specs.declared.name_entry.TheConstants.{NAME}
use Rattle.lc_names.specs.Table.{IsAbsent, IsFreePlace, IsFull, IsNowhere, IsPlaceOf, IsTable, IsUnplaced, LeavesClean, attributes_in, entries_in, entry_at}
use Rattle.lc_names.proofs.Cuts.{entries_put}
use Rattle.lc_names.proofs.Entries.{attributes_fit, attributes_of-entry_of, fits_entry, free_unused, length-entry_of, length-free_entry, name_of-entry_of, named_by_text, named_entry, named_entry_is, named_is, named_used, other_by_text, unused_unnamed, used_some, zero_unused}
use Rattle.lc_names.proofs.Lookups.{IsElsewhereNot, elsewhere_not, holds_left, none_among, nowhere_not, set_gone, set_here, set_other, some_among}

-- a change of the entries is one of the bytes
pub changes_table : (table : List ℕ) (Leaves : List (List ℕ) → Type 0) (change : EntryChange) → Changes (entries_in table) Leaves change → Leaves (entries_in (left_by (Some change) table))
changes_table table Leaves change made = subst Leaves (sym (entries_put table change.1 change.0 made.0.1 made.0.0)) made.1

pub place_some : (name : List ℕ) (entries : List (List ℕ)) (place : ℕ) → IsPlaceOf name entries place → attributes_in entries name ≡ Some (attributes_of (entry_at entries place))
place_some name entries place at = some_among name entries place at.within at.named at.first

pub place_is_some : (name : List ℕ) (entries : List (List ℕ)) (place : ℕ) → IsPlaceOf name entries place → IsSome (attributes_in entries name)
place_is_some name entries place at = ap (λ (o : Option (List ℕ)). is_some o) (place_some name entries place at)

-- what a look for a name tells
abbrev pub IsSeen : List ℕ → List (List ℕ) → Option ℕ → Type 0
IsSeen name entries seen = MatchOption seen (IsAbsent name entries) (IsPlaceOf name entries)

pub seen_name : (name : List ℕ) (entries : List (List ℕ)) (seen : Option ℕ) → IsSeen name entries seen → IsName name
seen_name name entries None told = told.0
seen_name name entries (Some place) told = told.is_name

pub seen_some : (name : List ℕ) (entries : List (List ℕ)) (seen : Option ℕ) → IsSeen name entries seen → is_some seen ≡ true → IsSome (attributes_in entries name)
seen_some name entries None told is = absurd (true≢false (sym is))
seen_some name entries (Some place) told is = place_is_some name entries place told

pub seen_none : (name : List ℕ) (entries : List (List ℕ)) (seen : Option ℕ) → IsSeen name entries seen → is_some seen ≡ false → IsNowhere name entries
seen_none name entries None told is = told.1
seen_none name entries (Some place) told is = absurd (true≢false is)

-- where a first entry was looked for, by its text, or by its use
pub seen_by_text : (name : List ℕ) (entries : List (List ℕ)) (r : Option ℕ) → IsName name
    → MatchOption r (AllWithin (λ (y : List ℕ). bytes_eq (name_of y) name ≡ false) entries 0 (length entries)) (λ i. (i < length entries) × HoldsAt (λ (y : List ℕ). bytes_eq (name_of y) name ≡ true) entries i × AllWithin (λ (y : List ℕ). bytes_eq (name_of y) name ≡ false) entries 0 i)
    → IsSeen name entries r
seen_by_text name entries None is never = (is, λ k l. other_by_text name (entry_at entries k) (never k [] (omega arith) l))
seen_by_text name entries (Some i) is told = record {
  is_name = is;
  within = told.0;
  named = named_by_text name (entry_at entries i) is (told.1 []);
  first = λ k l. other_by_text name (entry_at entries k) (told.2 k [] (omega arith) l);
}

pub free_or_full : (entries : List (List ℕ)) (r : Option ℕ)
    → MatchOption r (AllWithin (λ (y : List ℕ). get_or y NAME 0 ≢ 0) entries 0 (length entries)) (λ i. (i < length entries) × HoldsAt (λ (y : List ℕ). get_or y NAME 0 ≡ 0) entries i × AllWithin (λ (y : List ℕ). get_or y NAME 0 ≢ 0) entries 0 i)
    → MatchOption r (IsFull entries) (IsFreePlace entries)
free_or_full entries None never = λ k l. used_some (entry_at entries k) (never k [] (omega arith) l)
free_or_full entries (Some i) told = (told.0, zero_unused (entry_at entries i) (told.1 []))

-- what a place, or a fault in its place, came of
pub some_place : (found : Option ℕ) (place : ℕ) (fault : NameFault) → Ok place ≡ ok_or found fault → found ≡ Some place
some_place None place fault is = absurd cc
some_place (Some k) place fault is = cc

pub no_place : (found : Option ℕ) (met fault : NameFault) → Err met ≡ ok_or found fault → (found ≡ None) × (met ≡ fault)
no_place None met fault is = (refl, cc)
no_place (Some k) met fault is = absurd cc

-- a name that is another is not that of the entry
not_named : (name attributes other : List ℕ) → other ≢ name → is_named other (entry_of name attributes) ≡ false
not_named name attributes other apart = false_from_ne_true (is_named other (entry_of name attributes)) (λ named. apart (named_entry_is name attributes other named))

-- who has a name has no other
not_there : (name : List ℕ) (entries : List (List ℕ)) (other : List ℕ) (place : ℕ) → IsPlaceOf name entries place → other ≢ name → is_named other (entry_at entries place) ≡ false
not_there name entries other place at apart = false_from_ne_true (is_named other (entry_at entries place)) (λ named.
    apart (sym (named_is other (entry_at entries place) named) ∙ named_is name (entry_at entries place) at.named))

apart_from : (name other : List ℕ) (entries : List (List ℕ)) (place : ℕ) → IsPlaceOf name entries place → IsNowhere other entries → name ≢ other
apart_from name other entries place at nowhere same = true≢false (sym at.named ∙ (ap (λ (n : List ℕ). is_named n (entry_at entries place)) same ∙ nowhere place at.within))

-- the entry of a name is clean
clean_entry : (name attributes : List ℕ) → IsName name → IsClean (entry_of name attributes)
clean_entry name attributes is = inr (sym (
    ap (λ (n : List ℕ). entry_of n (attributes_of (entry_of name attributes))) (name_of-entry_of name attributes)
    ∙ ap (λ (a : List ℕ). entry_of name a) (attributes_of-entry_of name attributes is)
    ))

-- all others stay where one becomes clean
leaves_clean : (entries : List (List ℕ)) (place : ℕ) (entry : List ℕ) → place < length entries → IsClean entry → LeavesClean entries (set entries place entry)
leaves_clean entries place entry l clean = record {
  len = length-set entries place entry;
  each = λ k m. elim (cases_eq k place) [
    | inl same ↦ inr (subst IsClean (sym (ap (λ (i : ℕ). get_or (set entries place entry) i []) same ∙ get_or-set_same entries place entry [] l)) clean)
    | inr apart ↦ inl (get_or-set_other entries place k entry [] apart)
  ];
}

module _ (entries : List (List ℕ)) (holds : IsTable entries) where
  pub nowhere_none : (name : List ℕ) → IsNowhere name entries → attributes_in entries name ≡ None
  nowhere_none name nowhere = none_among name entries nowhere

  -- a name that no entry has is put at a place
  module _ (name attributes : List ℕ) (place : ℕ) (is_name : IsName name) (are : AreAttributes attributes) (nowhere : IsNowhere name entries) (l : place < length entries) where
    abbrev entry : List ℕ
    entry = entry_of name attributes

    abbrev left : List (List ℕ)
    left = set entries place (entry_of name attributes)

    alone : (other : List ℕ) → is_named other entry ≡ true → IsElsewhereNot other entries place
    alone other named = subst (λ (n : List ℕ). IsElsewhereNot n entries place) (sym (named_entry_is name attributes other named)) (nowhere_not name entries place (nowhere_none name nowhere))

    holds_new : IsTable left
    holds_new = holds_left entries left place entry l refl holds (λ _. fits_entry name attributes is_name are) alone

    there : attributes_in left name ≡ Some attributes
    there =
        set_here name entries place entry l (named_entry name attributes is_name) (nowhere_not name entries place (nowhere_none name nowhere))
        ∙ ap (λ (a : List ℕ). Some a) (attributes_of-entry_of name attributes is_name)

    others : (other : List ℕ) → other ≢ name → is_named other (entry_at entries place) ≡ false → attributes_in left other ≡ attributes_in entries other
    others other apart old = set_other other entries place entry (not_named name attributes other apart) old

  pub created : (name attributes : List ℕ) (place : ℕ) → IsName name → AreAttributes attributes → IsNowhere name entries → IsFreePlace entries place
      → Changes entries (Creates entries name attributes) (place, entry_of name attributes)
  created name attributes place is_name are nowhere free = (
    (free.0, length-entry_of name attributes is_name are),
    (
      holds,
      holds_new name attributes place is_name are nowhere free.0,
      is_name,
      are,
      record {
        absent = nowhere_none name nowhere;
        there = there name attributes place is_name are nowhere free.0;
        others = λ other apart. others name attributes place is_name are nowhere free.0 other apart (unused_unnamed other (entry_at entries place) free.1);
      },
      leaves_clean entries place (entry_of name attributes) free.0 (clean_entry name attributes is_name),
    ),
  )

  pub fit_there : (name : List ℕ) (place : ℕ) → IsPlaceOf name entries place → AreAttributes (attributes_of (entry_at entries place))
  fit_there name place at = attributes_fit (entry_at entries place) (holds.fit place at.within (named_used name (entry_at entries place) at.named))

  pub renamed : (from to : List ℕ) (place : ℕ) → IsName to → IsPlaceOf from entries place → IsNowhere to entries
      → Changes entries (Renames entries from to) (place, entry_of to (attributes_of (entry_at entries place)))
  renamed from to place is_to at nowhere =
      let attributes : List ℕ = attributes_of (entry_at entries place) in
      let are : AreAttributes attributes = fit_there from place at in (
        (at.within, length-entry_of to attributes is_to are),
        (
          holds,
          holds_new to attributes place is_to are nowhere at.within,
          at.is_name,
          is_to,
          record {
            had = place_is_some from entries place at;
            absent = nowhere_none to nowhere;
            there = there to attributes place is_to are nowhere at.within ∙ sym (place_some from entries place at);
            gone = set_gone from entries place (entry_of to attributes) at.within (not_named to attributes from (apart_from from to entries place at nowhere)) (elsewhere_not entries from place holds at.within at.named);
            others = λ other not_from not_to. others to attributes place is_to are nowhere at.within other not_to (not_there from entries other place at not_from);
          },
          leaves_clean entries place (entry_of to attributes) at.within (clean_entry to attributes is_to),
        ),
      )

  pub removed : (name : List ℕ) (place : ℕ) → IsPlaceOf name entries place → Changes entries (Removes entries name) (place, free_entry)
  removed name place at =
      let free : List ℕ = free_entry in
      let left : List (List ℕ) = set entries place free in
      let unnamed : (other : List ℕ) → is_named other free ≡ false = λ other. unused_unnamed other free free_unused in (
        (at.within, length-free_entry),
        (
          holds,
          holds_left entries left place free at.within refl holds (λ used. absurd (true≢false (sym used ∙ free_unused))) (λ other named. absurd (true≢false (sym named ∙ unnamed other))),
          at.is_name,
          record {
            had = place_is_some name entries place at;
            gone = set_gone name entries place free at.within (unnamed name) (elsewhere_not entries name place holds at.within at.named);
            others = λ other apart. set_other other entries place free (unnamed other) (not_there name entries other place at apart);
          },
          leaves_clean entries place free at.within (inl refl),
        ),
      )

  -- a name that has no place is neither removed nor found
  pub missed : (name : List ℕ) (fault : NameFault) → IsUnplaced name entries fault → IsMissed entries name fault
  missed name NoTable told = absurd told
  missed name BadName told = (holds, told)
  missed name NoName told = (holds, told.0, nowhere_none name told.1)
  missed name Exists told = absurd told
  missed name BadAttributes told = absurd told
  missed name Full told = absurd told

  -- and not renamed
  pub unrenamed : (from to : List ℕ) (fault : NameFault) → IsName to → IsUnplaced from entries fault → IsUnrenamed entries from to fault
  unrenamed from to NoTable is_to told = absurd told
  unrenamed from to BadName is_to told = (holds, λ names. told names.0)
  unrenamed from to NoName is_to told = (holds, told.0, is_to, nowhere_none from told.1)
  unrenamed from to Exists is_to told = absurd told
  unrenamed from to BadAttributes is_to told = absurd told
  unrenamed from to Full is_to told = absurd told
