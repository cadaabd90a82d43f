-- What is decided of a command.
use Rattle.std.proofs.Common.{◌≡◌, ℕ, List, Option, None, Some, refl, sym, subst}
use Rattle.std.specs.Prelude.{MatchResult, Result, Ok, Err}
use Rattle.std.specs.Result.{result_ok}
use Rattle.lc_names.specs.Answers.{EntryChange, Changes, Decides, Does, IsMissed, IsOfEntry, Refuses, Removes, left_by}
use Rattle.lc_names.specs.NameEntry.{free_entry}
use Rattle.lc_names.specs.Table.{IsPlaceOf, IsTable, IsUnplaced, entries_in}
use Rattle.lc_names.specs.declared.name_answer.NameAnswer.{NameAnswer}
use Rattle.lc_names.specs.declared.name_answer.NameAnswer.TheVariants.{Done}
use Rattle.lc_names.specs.declared.name_command.NameCommand.{NameCommand}
use Rattle.lc_names.specs.declared.name_command.NameCommand.TheVariants.{Create, Find, List as ListAll, Remove, Rename}
use Rattle.lc_names.specs.declared.name_fault.NameFault.{NameFault}
use Rattle.lc_names.specs.declared.name_fault.NameFault.TheVariants.{NoTable}
use Rattle.lc_names.proofs.Changes.{changes_table, missed, removed}

pub no_table : (command : NameCommand) (table : List ℕ) → (IsTable (entries_in table) → ⊥) → Refuses command table NoTable
no_table (Create name attributes) table not = not
no_table (Rename from to) table not = not
no_table (Remove name) table not = not
no_table (Find name) table not = not
no_table ListAll table not = (refl, not)

-- a change of the entries, or why there is none, as the bytes have it
pub change_does : (table : List ℕ) (Leaves : List (List ℕ) → Type 0) (Refused : NameFault → Type 0) (r : Result EntryChange NameFault) → MatchResult r (Changes (entries_in table) Leaves) Refused
    → MatchResult r (λ change. IsOfEntry (entries_in table) change × Leaves (entries_in (left_by (Some change) table))) Refused
change_does table Leaves Refused (Ok change) made = (made.0, changes_table table Leaves change made)
change_does table Leaves Refused (Err fault) told = told

-- the change that frees the place of a name
pub removes : (entries : List (List ℕ)) (name : List ℕ) (found : Result ℕ NameFault) (r : Result EntryChange NameFault) → IsTable entries → MatchResult found (IsPlaceOf name entries) (IsUnplaced name entries)
    → MatchResult found (λ place. r ≡ Ok (place, free_entry)) (λ fault. r ≡ Err fault) → MatchResult r (Changes entries (Removes entries name)) (IsMissed entries name)
removes entries name (Ok place) r holds at is = subst (λ (r : Result EntryChange NameFault). MatchResult r (Changes entries (Removes entries name)) (IsMissed entries name)) (sym is) (removed entries holds name place at)
removes entries name (Err fault) r holds told is = subst (λ (r : Result EntryChange NameFault). MatchResult r (Changes entries (Removes entries name)) (IsMissed entries name)) (sym is) (missed entries holds name fault told)

-- what a change, or why there is none, does
abbrev pub IsDoneBy : NameCommand → List ℕ → Result EntryChange NameFault → Type 0
IsDoneBy command table r = MatchResult r (λ change. IsOfEntry (entries_in table) change × Does command table Done (left_by (Some change) table)) (Refuses command table)

pub decides : (command : NameCommand) (table : List ℕ) (r : Result EntryChange NameFault) (change : Option EntryChange) (answer : Result NameAnswer NameFault) → IsDoneBy command table r
    → change ≡ result_ok r → MatchResult r (λ _. answer ≡ Ok Done) (λ fault. answer ≡ Err fault) → Decides command table (change, answer)
decides command table (Ok made) change answer told is given =
    subst (λ (o : Option EntryChange). Decides command table (o, answer)) (sym is) (subst (λ (a : Result NameAnswer NameFault). Decides command table (Some made, a)) (sym given) ((told.0, refl), told.1))
decides command table (Err fault) change answer told is given =
    subst (λ (o : Option EntryChange). Decides command table (o, answer)) (sym is) (subst (λ (a : Result NameAnswer NameFault). Decides command table (None, a)) (sym given) (tt, (refl, told)))

-- the same, of the entries that the table has
pub done_by : (table : List ℕ) (entries : List (List ℕ)) → entries ≡ entries_in table → (Leaves : List (List ℕ) → List (List ℕ) → Type 0) (Refused : List (List ℕ) → NameFault → Type 0)
    (r change : Result EntryChange NameFault) → change ≡ r → MatchResult r (Changes entries (Leaves entries)) (Refused entries)
    → MatchResult change (λ change. IsOfEntry (entries_in table) change × Leaves (entries_in table) (entries_in (left_by (Some change) table))) (Refused (entries_in table))
done_by table entries is Leaves Refused r change same told =
    subst (λ (r : Result EntryChange NameFault). MatchResult r (λ change. IsOfEntry (entries_in table) change × Leaves (entries_in table) (entries_in (left_by (Some change) table))) (Refused (entries_in table))) (sym same)
    (change_does table (Leaves (entries_in table)) (Refused (entries_in table)) r (subst (λ (es : List (List ℕ)). MatchResult r (Changes es (Leaves es)) (Refused es)) is told))
