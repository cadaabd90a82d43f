-- What a command makes of a table, and what is answered.
use Rattle.std.specs.Prelude.{◌≡◌, ℕ, ◌*◌, ◌<◌, List, length, map, set, Option, Some, None, IsSome, IfSome, Result, Ok, MatchResult}
use Rattle.std.specs.Global.{Vec}
use Rattle.lc_record.specs.Content.{put}
use Rattle.lc_names.specs.NameEntry.{AreAttributes, IsName}
use Rattle.lc_names.specs.Names.{IsCreated, IsRemoved, IsRenamed}
use Rattle.lc_names.specs.Table.{HasNames, HoldsTable, IsFull, IsTable, LeavesClean, attributes_in, entries_in, names_in}
use Rattle.lc_names.specs.declared.name_answer.NameAnswer.{NameAnswer}
use Rattle.lc_names.specs.declared.name_answer.NameAnswer.TheVariants.{Attributes, Done, Names}
use Rattle.lc_names.specs.declared.name_command.NameCommand.{NameCommand}
use Rattle.lc_names.specs.declared.name_command.NameCommand.TheVariants.{Create, Find, List as ListAll, Remove, Rename}
use Rattle.lc_names.specs.declared.name_entry.TheConstants.{ENTRY}
use Rattle.lc_names.specs.declared.name_fault.NameFault.{NameFault}
use Rattle.lc_names.specs.declared.name_fault.NameFault.TheVariants.{BadAttributes, BadName, Exists, Full, NoName, NoTable}

-- the place of an entry that changes, and the bytes that it gets
abbrev pub EntryChange : Type 0
EntryChange = ℕ × List ℕ

-- what a change leaves of the bytes of a table
abbrev pub left_by : Option EntryChange → List ℕ → List ℕ
left_by None table = table
left_by (Some change) table = put (ENTRY * change.0) change.1 table

-- the entry is there, and is a whole one
abbrev pub IsOfEntry : List (List ℕ) → EntryChange → Type 0
IsOfEntry entries change = (change.0 < length entries) × (length change.1 ≡ ENTRY)

-- a change of an entry, which leaves what it is to leave
abbrev pub Changes : List (List ℕ) → (List (List ℕ) → Type 0) → EntryChange → Type 0
Changes entries Leaves change = IsOfEntry entries change × Leaves (set entries change.0 change.1)

-- each command: which entries are left where it is done, and where it is refused

abbrev pub Creates : List (List ℕ) → List ℕ → List ℕ → List (List ℕ) → Type 0
Creates entries name attributes left =
    IsTable entries × IsTable left × IsName name × AreAttributes attributes × IsCreated name attributes (attributes_in entries) (attributes_in left) × LeavesClean entries left

abbrev pub IsUncreated : List (List ℕ) → List ℕ → List ℕ → NameFault → Type 0
IsUncreated entries name attributes NoTable = IsTable entries → ⊥
IsUncreated entries name attributes BadName = IsTable entries × (IsName name → ⊥)
IsUncreated entries name attributes BadAttributes = IsTable entries × IsName name × (AreAttributes attributes → ⊥)
IsUncreated entries name attributes Exists = IsTable entries × IsName name × AreAttributes attributes × IsSome (attributes_in entries name)
IsUncreated entries name attributes Full = IsTable entries × IsName name × AreAttributes attributes × (attributes_in entries name ≡ None) × IsFull entries
IsUncreated entries name attributes NoName = ⊥

abbrev pub Renames : List (List ℕ) → List ℕ → List ℕ → List (List ℕ) → Type 0
Renames entries from to left = IsTable entries × IsTable left × IsName from × IsName to × IsRenamed from to (attributes_in entries) (attributes_in left) × LeavesClean entries left

-- a name is not renamed to itself: it exists
abbrev pub IsUnrenamed : List (List ℕ) → List ℕ → List ℕ → NameFault → Type 0
IsUnrenamed entries from to NoTable = IsTable entries → ⊥
IsUnrenamed entries from to BadName = IsTable entries × (IsName from × IsName to → ⊥)
IsUnrenamed entries from to NoName = IsTable entries × IsName from × IsName to × (attributes_in entries from ≡ None)
IsUnrenamed entries from to Exists = IsTable entries × IsName from × IsName to × IsSome (attributes_in entries from) × IsSome (attributes_in entries to)
IsUnrenamed entries from to BadAttributes = ⊥
IsUnrenamed entries from to Full = ⊥

abbrev pub Removes : List (List ℕ) → List ℕ → List (List ℕ) → Type 0
Removes entries name left = IsTable entries × IsTable left × IsName name × IsRemoved name (attributes_in entries) (attributes_in left) × LeavesClean entries left

-- of a name that is to be removed or found
abbrev pub IsMissed : List (List ℕ) → List ℕ → NameFault → Type 0
IsMissed entries name NoTable = IsTable entries → ⊥
IsMissed entries name BadName = IsTable entries × (IsName name → ⊥)
IsMissed entries name NoName = IsTable entries × IsName name × (attributes_in entries name ≡ None)
IsMissed entries name Exists = ⊥
IsMissed entries name BadAttributes = ⊥
IsMissed entries name Full = ⊥

abbrev pub Finds : List (List ℕ) → List ℕ → List ℕ → Type 0
Finds entries name found = IsTable entries × IsName name × (attributes_in entries name ≡ Some found)

abbrev pub Lists : List (List ℕ) → List (Vec ℕ) → Type 0
Lists entries names = IsTable entries × (map (λ (name : Vec ℕ). name.items) names ≡ names_in entries)

-- the answer, and the bytes that are left of a table
abbrev pub Does : NameCommand → List ℕ → NameAnswer → List ℕ → Type 0
Does (Create name attributes) table Done left = Creates (entries_in table) name.now attributes.now (entries_in left)
Does (Rename from to) table Done left = Renames (entries_in table) from.now to.now (entries_in left)
Does (Remove name) table Done left = Removes (entries_in table) name.now (entries_in left)
Does (Find name) table (Attributes found) left = (left ≡ table) × Finds (entries_in table) name.now found.items
Does ListAll table (Names names) left = (left ≡ table) × Lists (entries_in table) names.items
Does command table answer left = ⊥

abbrev pub Refuses : NameCommand → List ℕ → NameFault → Type 0
Refuses (Create name attributes) table fault = IsUncreated (entries_in table) name.now attributes.now fault
Refuses (Rename from to) table fault = IsUnrenamed (entries_in table) from.now to.now fault
Refuses (Remove name) table fault = IsMissed (entries_in table) name.now fault
Refuses (Find name) table fault = IsMissed (entries_in table) name.now fault
Refuses ListAll table fault = (fault ≡ NoTable) × (HoldsTable table → ⊥)

abbrev pub Answers : NameCommand → List ℕ → Result NameAnswer NameFault → List ℕ → Type 0
Answers command table answer left = MatchResult answer (λ given. Does command table given left) (λ fault. (left ≡ table) × Refuses command table fault)

-- the command changes the table: it is done there, with whatever it leaves
abbrev pub Alters : NameCommand → List ℕ → Type 0
Alters command table = (left : List ℕ) × Does command table Done left

-- what is decided: a change of an entry, if there is one, which is done then, and an answer that says what it leaves
abbrev pub Decides : NameCommand → List ℕ → Option EntryChange × Result NameAnswer NameFault → Type 0
Decides command table decided =
    IfSome decided.0 (λ change. IsOfEntry (entries_in table) change × (decided.1 ≡ Ok Done)) × Answers command table decided.1 (left_by decided.0 table)

-- memory is asked for an answer that is given: the attributes of a name that is there, or names
abbrev pub WantsMemory : NameCommand → List ℕ → Type 0
WantsMemory (Find name) table = HoldsTable table × IsSome (attributes_in (entries_in table) name.now)
WantsMemory ListAll table = HoldsTable table × HasNames (entries_in table)
WantsMemory command table = ⊥
