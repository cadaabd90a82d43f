-- A table of names: whole entries, one after another.
use Rattle.std.specs.Prelude.{◌≡◌, ◌⊎◌, ℕ, ◌/◌, ◌<◌, false, cond, List, [], ◌∷◌, length, map, filter, slice_index_or, Option, Some, None, IsTrue}
use Rattle.std.specs.Simd.{first_chunks}
use Rattle.lc_names.specs.NameEntry.{Fits, IsClean, IsName, attributes_of, is_named, is_used, name_of}
use Rattle.lc_names.specs.declared.name_entry.TheConstants.{ENTRY}
use Rattle.lc_names.specs.declared.name_fault.NameFault.{NameFault}
use Rattle.lc_names.specs.declared.name_fault.NameFault.TheVariants.{BadAttributes, BadName, Exists, Full, NoName, NoTable}

-- the entries in the bytes of a table, from the first on
unfoldable pub entries_in : List ℕ → List (List ℕ)
entries_in table = first_chunks ENTRY (length table / ENTRY) table

abbrev pub entry_at : List (List ℕ) → ℕ → List ℕ
entry_at entries place = slice_index_or entries place []

-- each entry in use has lengths that fit, and no two have one name
pub record IsTable (entries : List (List ℕ)) : Type 0 where
  pub fit : (place : ℕ) → place < length entries → IsTrue (is_used (entry_at entries place)) → Fits (entry_at entries place)
  pub once : (name : List ℕ) (place other : ℕ) → place < length entries → other < length entries
      → IsTrue (is_named name (entry_at entries place)) → IsTrue (is_named name (entry_at entries other)) → place ≡ other

abbrev pub HoldsTable : List ℕ → Type 0
HoldsTable table = IsTable (entries_in table)

-- the attributes of a name among these entries: in the first that is in use under it
abbrev pub attributes_among : List ℕ → List (List ℕ) → Option (List ℕ)
attributes_among name [] = None
attributes_among name (entry ∷ entries) = cond (is_named name entry) (Some (attributes_of entry)) (attributes_among name entries)

-- the map of a table: a name leads to its attributes
abbrev pub attributes_in : List (List ℕ) → List ℕ → Option (List ℕ)
attributes_in entries name = attributes_among name entries

-- the names in use, in the order of the entries
abbrev pub names_in : List (List ℕ) → List (List ℕ)
names_in entries = map name_of (filter is_used entries)

-- each entry is as it was, or is clean: so nothing stands after what is new, and nothing in place of what is gone
pub record LeavesClean (entries left : List (List ℕ)) : Type 0 where
  pub len : length left ≡ length entries
  pub each : (place : ℕ) → place < length entries → (entry_at left place ≡ entry_at entries place) ⊎ IsClean (entry_at left place)

-- some entry is in use
abbrev pub HasNames : List (List ℕ) → Type 0
HasNames entries = (place : ℕ) × (place < length entries) × IsTrue (is_used (entry_at entries place))

-- no entry is free
abbrev pub IsFull : List (List ℕ) → Type 0
IsFull entries = (place : ℕ) → place < length entries → IsTrue (is_used (entry_at entries place))

-- this one is
abbrev pub IsFreePlace : List (List ℕ) → ℕ → Type 0
IsFreePlace entries place = (place < length entries) × (is_used (entry_at entries place) ≡ false)

-- no entry has the name
abbrev pub IsNowhere : List ℕ → List (List ℕ) → Type 0
IsNowhere name entries = (place : ℕ) → place < length entries → is_named name (entry_at entries place) ≡ false

-- this entry has it, and none in front
pub record IsPlaceOf (name : List ℕ) (entries : List (List ℕ)) (place : ℕ) : Type 0 where
  pub is_name : IsName name
  pub within : place < length entries
  pub named : IsTrue (is_named name (entry_at entries place))
  pub first : (other : ℕ) → other < place → is_named name (entry_at entries other) ≡ false

-- the name is none
abbrev pub IsNoName : List ℕ → NameFault → Type 0
IsNoName name fault = (fault ≡ BadName) × (IsName name → ⊥)

-- it is one, and no entry has it
abbrev pub IsAbsent : List ℕ → List (List ℕ) → Type 0
IsAbsent name entries = IsName name × IsNowhere name entries

-- why a name has no place
abbrev pub IsUnplaced : List ℕ → List (List ℕ) → NameFault → Type 0
IsUnplaced name entries BadName = IsName name → ⊥
IsUnplaced name entries NoName = IsAbsent name entries
IsUnplaced name entries NoTable = ⊥
IsUnplaced name entries Exists = ⊥
IsUnplaced name entries BadAttributes = ⊥
IsUnplaced name entries Full = ⊥

-- this entry is free, or has lengths that fit and a name that no entry in front has
abbrev pub IsSoundAt : List (List ℕ) → ℕ → Type 0
IsSoundAt entries place = IsTrue (is_used (entry_at entries place))
    → Fits (entry_at entries place) × ((other : ℕ) → other < place → is_named (name_of (entry_at entries place)) (entry_at entries other) ≡ false)
