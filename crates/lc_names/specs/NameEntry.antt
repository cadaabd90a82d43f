-- An entry of the table: the length of a name, the name, the length of its attributes, and these, each filled up with zeros.
use Rattle.std.specs.Prelude.{◌≡◌, ◌⊎◌, ℕ, ◌+◌, ◌-◌, ◌<◌, ◌≤◌, ◌&&◌, nat_lt, Bool, List, ◌∷◌, ◌++◌, length, take, drop, replicate, slice_index}
use Rattle.std.specs.Str.{bytes_eq}
use Rattle.lc_names.specs.declared.name_entry.TheConstants.{ATTRIBUTES, ENTRY, LONGEST, NAME}

abbrev pub IsName : List ℕ → Type 0
IsName name = (0 < length name) × (length name ≤ LONGEST)

abbrev pub AreAttributes : List ℕ → Type 0
AreAttributes attributes = length attributes ≤ LONGEST

-- the text after its length at a place
unfoldable pub text_at : ℕ → List ℕ → List ℕ
text_at place entry = take (slice_index entry place) (drop (place + 1) entry)

abbrev pub name_of : List ℕ → List ℕ
name_of entry = text_at NAME entry

abbrev pub attributes_of : List ℕ → List ℕ
attributes_of entry = text_at ATTRIBUTES entry

-- it is in use: its name has a length
unfoldable pub is_used : List ℕ → Bool
is_used entry = nat_lt 0 (slice_index entry NAME)

-- it is in use under this name
unfoldable pub is_named : List ℕ → List ℕ → Bool
is_named name entry = is_used entry && bytes_eq (name_of entry) name

-- its lengths are those of a name and of attributes
unfoldable pub Fits : List ℕ → Type 0
Fits entry = (slice_index entry NAME ≤ LONGEST) × (slice_index entry ATTRIBUTES ≤ LONGEST)

-- an entry in no use
unfoldable pub free_entry : List ℕ
free_entry = replicate ENTRY 0

-- the bytes, and zeros up to the most that there may be
unfoldable pub filled : List ℕ → List ℕ
filled bytes = bytes ++ replicate (LONGEST - length bytes) 0

-- the entry of a name with these attributes
unfoldable pub entry_of : List ℕ → List ℕ → List ℕ
entry_of name attributes = (length name ∷ filled name) ++ (length attributes ∷ filled attributes)

-- it is free and has zeros alone, or it is that of its name and its attributes, with zeros after each
abbrev pub IsClean : List ℕ → Type 0
IsClean entry = (entry ≡ free_entry) ⊎ (entry ≡ entry_of (name_of entry) (attributes_of entry))
