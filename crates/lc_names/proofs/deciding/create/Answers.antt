use Rattle.std.proofs.Common.{rules, ◌≡◌, List, ℕ, Option, Result, Err, ap, subst, sym, ◌∙◌, get_or}
use Rattle.std.specs.Prelude.{MatchOption, MatchResult, is_some, ◌≢◌}
use Rattle.std.proofs.lemmas.Iterator.{IsFirst-from_position, YieldsList-from_slice}
use borrow.Author.Tests.{tests}
use Rattle.lc_names.specs.Answers.{EntryChange, Changes, Creates, IsUncreated}
use Rattle.lc_names.specs.Table.{IsFreePlace, IsFull}
use Rattle.lc_names.specs.declared.name_entry.TheConstants.{NAME}
use Rattle.lc_names.specs.declared.name_fault.NameFault.{NameFault}
use Rattle.lc_names.specs.declared.name_fault.NameFault.TheVariants.{Full}
use Rattle.lc_names.proofs.Changes.{created, free_or_full, no_place, nowhere_none, seen_name, seen_none, seen_some, some_place}
use Rattle.lc_names.proofs.deciding.create.Goals as goal

pub returns-in-Some : goal.returns-in-Some
returns-in-Some c =
    let entries = c.args.entries.now in
    let name = c.args.name.now in
    let seen = c.in_ok-place_of.field-0 in
    (c.requires, seen_name name entries seen c.in_ok-place_of.ensures, c.if-attributes-gt-LONGEST.false, seen_some name entries seen c.in_ok-place_of.ensures (ap (λ (o : Option ℕ). is_some o) c.in-Some.is))

pub returns-in_err-ok_or-in-None : goal.returns-in_err-ok_or-in-None
returns-in_err-ok_or-in-None c =
    let entries = c.args.entries.now in
    let name = c.args.name.now in
    let attributes = c.args.attributes.now in
    let seen = c.in_ok-place_of.field-0 in
    let told = c.in_ok-place_of.ensures in
    let fault = c.in_err-ok_or-in-None.field-0.0 in
    let none = no_place c.position-free.result fault Full c.in_err-ok_or-in-None.ensures.value in
    let looked = free_or_full entries c.position-free.result
    (IsFirst-from_position _ _ _ (λ (y : List ℕ). get_or y NAME 0 ≡ 0) (λ (y : List ℕ). get_or y NAME 0 ≢ 0) c.position-free.ensures.ran (YieldsList-from_slice entries cc) (λ x q k. search (rules, tests)) (λ x q k. search (rules, tests))) in
    let is : c.from_residual-in_err-ok_or-in-None.result ≡ Err Full = (let one : c.from_residual-in_err-ok_or-in-None.result ≡ Err fault = search rules in one ∙ ap (λ (f : NameFault). Err f) none.1) in
    let nowhere = seen_none name entries seen told (ap (λ (o : Option ℕ). is_some o) c.in-None.is) in
    subst (λ (r : Result EntryChange NameFault). MatchResult r (Changes entries (Creates entries name attributes)) (IsUncreated entries name attributes)) (sym is) (
      c.requires,
      seen_name name entries seen told,
      c.if-attributes-gt-LONGEST.false,
      nowhere_none entries c.requires name nowhere,
      subst (λ (o : Option ℕ). MatchOption o (IsFull entries) (IsFreePlace entries)) none.0 looked,
    )

pub returns-in_ok-ok_or-in-None : goal.returns-in_ok-ok_or-in-None
returns-in_ok-ok_or-in-None c =
    let entries = c.args.entries.now in
    let name = c.args.name.now in
    let attributes = c.args.attributes.now in
    let seen = c.in_ok-place_of.field-0 in
    let told = c.in_ok-place_of.ensures in
    let place = c.in_ok-ok_or-in-None.field-0 in
    let some = some_place c.position-free.result place Full c.in_ok-ok_or-in-None.ensures.value in
    let looked = free_or_full entries c.position-free.result
    (IsFirst-from_position _ _ _ (λ (y : List ℕ). get_or y NAME 0 ≡ 0) (λ (y : List ℕ). get_or y NAME 0 ≢ 0) c.position-free.ensures.ran (YieldsList-from_slice entries cc) (λ x q k. search (rules, tests)) (λ x q k. search (rules, tests))) in
    let nowhere = seen_none name entries seen told (ap (λ (o : Option ℕ). is_some o) c.in-None.is) in
    subst (λ (e : List ℕ). Changes entries (Creates entries name attributes) (place, e)) (sym c.entry_of.ensures)
    (created entries c.requires name attributes place (seen_name name entries seen told) c.if-attributes-gt-LONGEST.false nowhere
    (subst (λ (o : Option ℕ). MatchOption o (IsFull entries) (IsFreePlace entries)) some looked))
