use Rattle.std.proofs.Common.{rules, ◌≡◌, ◌∙◌, List, ℕ, Some, Ok, Err, Result, ap, refl, subst, sym}
use Rattle.std.specs.Prelude.{IsSome, MatchResult, OnErr}
use Rattle.lc_names.specs.Answers.{EntryChange, Creates, Does, Finds, Lists, IsUncreated, IsUnrenamed, Removes, IsMissed, Renames, WantsMemory}
use Rattle.lc_names.specs.NameEntry.{attributes_of, free_entry}
use Rattle.lc_names.specs.Table.{HasNames, IsPlaceOf, IsTable, IsUnplaced, attributes_in, entries_in, entry_at}
use Rattle.lc_names.specs.declared.name_answer.NameAnswer.TheVariants.{Attributes, Done, Names}
use Rattle.lc_names.specs.declared.name_command.NameCommand.{NameCommand}
use Rattle.lc_names.specs.declared.name_command.NameCommand.TheVariants.{Find}
use Rattle.lc_names.specs.declared.name_fault.NameFault.{NameFault}
use Rattle.lc_names.proofs.Changes.{missed, place_is_some, place_some}
use Rattle.lc_names.proofs.Cuts.{entries_are}
use Rattle.lc_names.proofs.Decided.{IsDoneBy, decides, done_by, no_table, removes}
use Rattle.lc_names.proofs.deciding.decide.Goals as goal
use Rattle.lc_names.proofs.deciding.decide.Goals.{in-Create, in-Rename, in-Remove, in-Find+in-Err}

pub returns-then-not-is_table-clause-decides : goal.returns-then-not-is_table-clause-decides
returns-then-not-is_table-clause-decides c =
    let table = c.args.table.now in
    let is : c.as_chunks.result.0.now ≡ entries_in table = c.as_chunks.ensures.front ∙ entries_are table in
    let not : IsTable c.as_chunks.result.0.now → ⊥ = search rules in
    (tt, (refl, no_table c.args.command.now table (subst (λ (es : List (List ℕ)). IsTable es → ⊥) is not)))

pub returns-in-Ok-clause-decides : goal.returns-in-Ok-clause-decides
returns-in-Ok-clause-decides c =
    let table = c.args.table.now in
    let name = c.in-Find.name.now in
    let is : c.as_chunks.result.0.now ≡ entries_in table = c.as_chunks.ensures.front ∙ entries_are table in
    let holds : IsTable c.as_chunks.result.0.now = search rules in
    let found = c.in_ok-found-in-Ok.found in
    let at : IsPlaceOf name c.as_chunks.result.0.now c.in-Ok.place = c.in-Ok.ensures in
    let text : attributes_of (entry_at c.as_chunks.result.0.now c.in-Ok.place) ≡ found.items = sym (c.in_ok-found-in-Ok.ensures.items ∙ c.text_at.ensures) in
    let finds = subst (λ (es : List (List ℕ)). Finds es name found.items) is (holds, at.is_name, place_some name c.as_chunks.result.0.now c.in-Ok.place at ∙ ap (λ (a : List ℕ). Some a) text) in
    (tt, subst (λ (command : NameCommand). Does command table (Attributes found) table) (sym c.in-Find.is) (refl, finds))

pub returns-in-List-clause-decides : goal.returns-in-List-clause-decides
returns-in-List-clause-decides c =
    let table = c.args.table.now in
    let is : c.as_chunks.result.0.now ≡ entries_in table = c.as_chunks.ensures.front ∙ entries_are table in
    let holds : IsTable c.as_chunks.result.0.now = search rules in
    let names = c.in_ok-names_in-in-List.field-0 in
    let lists = subst (λ (es : List (List ℕ)). Lists es names.items) is (holds, c.in_ok-names_in-in-List.ensures.names) in
    (tt, subst (λ (command : NameCommand). Does command table (Names names) table) (sym c.in-List.is) (refl, lists))

pub returns-clause-decides : goal.returns-clause-decides
unfolding free_entry
returns-clause-decides c =
    let table = c.args.table.now in
    let es : List (List ℕ) = c.as_chunks.result.0.now in
    let is : es ≡ entries_in table = c.as_chunks.ensures.front ∙ entries_are table in
    let holds : IsTable es = search rules in
    let given : MatchResult c.match-command.change (λ _. c.map.result ≡ Ok Done) (λ fault. c.map.result ≡ Err fault) = search rules in
    let change = c.match-command.change in
    decides c.args.command.now table change c.ok.result c.map.result (elim c.match-command.branch [
      | in-Create w ↦
          let name = w.in-Create.name.now in
          let attributes = w.in-Create.attributes.now in
          subst (λ (command : NameCommand). IsDoneBy command table change) (sym w.in-Create.is)
          (done_by table es is (λ es. Creates es name attributes) (λ es. IsUncreated es name attributes) w.create-change.result change w.change-is w.create-change.ensures)
      | in-Rename w ↦
          let from = w.in-Rename.from.now in
          let to = w.in-Rename.to.now in
          subst (λ (command : NameCommand). IsDoneBy command table change) (sym w.in-Rename.is)
          (done_by table es is (λ es. Renames es from to) (λ es. IsUnrenamed es from to) w.rename-change.result change w.change-is w.rename-change.ensures)
      | in-Remove w ↦
          let name = w.in-Remove.name.now in
          let freed : MatchResult w.found.result (λ place. w.map-change.result ≡ Ok (place, free_entry)) (λ fault. w.map-change.result ≡ Err fault) = search rules in
          let told = removes es name w.found.result w.map-change.result holds w.found.ensures freed in
          subst (λ (command : NameCommand). IsDoneBy command table change) (sym w.in-Remove.is)
          (done_by table es is (λ es. Removes es name) (λ es. IsMissed es name) w.map-change.result change w.change-is told)
      | in-Find+in-Err w ↦
          let name = w.in-Find.name.now in
          let told = missed (entries_in table) (subst (λ (es : List (List ℕ)). IsTable es) is holds) name w.in-Err.fault
          (subst (λ (es : List (List ℕ)). IsUnplaced name es w.in-Err.fault) is w.in-Err.ensures) in
          subst (λ (command : NameCommand). IsDoneBy command table change) (sym w.in-Find.is)
          (subst (λ (r : Result EntryChange NameFault). IsDoneBy (Find w.in-Find.name) table r) (sym w.change-is) told)
    ]) c.ok.ensures.value given

-- what holds anyway holds of an error
on_error : {A E : Type 0} (P : Type 0) (r : Result A E) → P → OnErr r P
on_error P (Ok x) told = tt
on_error P (Err e) told = told

pub returns-in_err-found-in-Ok-clause-memory : goal.returns-in_err-found-in-Ok-clause-memory
returns-in_err-found-in-Ok-clause-memory c =
    let table = c.args.table.now in
    let name = c.in-Find.name.now in
    let es : List (List ℕ) = c.as_chunks.result.0.now in
    let is : es ≡ entries_in table = c.as_chunks.ensures.front ∙ entries_are table in
    let holds : IsTable es = search rules in
    let wants = subst (λ (es : List (List ℕ)). IsTable es × IsSome (attributes_in es name)) is (holds, place_is_some name es c.in-Ok.place c.in-Ok.ensures) in
    on_error (WantsMemory c.args.command.now table) c.from_residual.result (subst (λ (command : NameCommand). WantsMemory command table) (sym c.in-Find.is) wants)

pub returns-in_err-names_in-in-List-clause-memory : goal.returns-in_err-names_in-in-List-clause-memory
returns-in_err-names_in-in-List-clause-memory c =
    let table = c.args.table.now in
    let es : List (List ℕ) = c.as_chunks.result.0.now in
    let is : es ≡ entries_in table = c.as_chunks.ensures.front ∙ entries_are table in
    let holds : IsTable es = search rules in
    let wants = subst (λ (es : List (List ℕ)). IsTable es × HasNames es) is (holds, c.in_err-names_in-in-List.ensures.memory) in
    on_error (WantsMemory c.args.command.now table) c.from_residual-in_err-names_in-in-List.result (subst (λ (command : NameCommand). WantsMemory command table) (sym c.in-List.is) wants)
