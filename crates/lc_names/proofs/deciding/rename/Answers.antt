use Rattle.std.proofs.Common.{rules, ◌≡◌, List, ℕ, Option, Result, Err, ap, subst, sym, ◌∙◌}
use Rattle.std.specs.Prelude.{MatchResult, is_some}
use Rattle.lc_names.specs.Answers.{EntryChange, Changes, IsUnrenamed, Renames}
use Rattle.lc_names.specs.NameEntry.{AreAttributes, entry_of}
use Rattle.lc_names.specs.declared.name_fault.NameFault.{NameFault}
use Rattle.lc_names.proofs.Changes.{fit_there, place_is_some, renamed, seen_name, seen_none, seen_some, unrenamed}
use Rattle.lc_names.proofs.deciding.rename.Goals as goal

pub returns-in_err-place : goal.returns-in_err-place
returns-in_err-place c =
    let entries = c.args.entries.now in
    let from = c.args.from.now in
    let to = c.args.to.now in
    let fault = c.in_err-place.field-0.0 in
    let is : c.from_residual-in_err-place.result ≡ Err fault = search rules in
    subst (λ (r : Result EntryChange NameFault). MatchResult r (Changes entries (Renames entries from to)) (IsUnrenamed entries from to)) (sym is)
    (unrenamed entries c.requires from to fault (seen_name to entries c.in_ok-place_of.field-0 c.in_ok-place_of.ensures) c.in_err-place.ensures)

pub returns-in-Some-default : goal.returns-in-Some-default
returns-in-Some-default c =
    let entries = c.args.entries.now in
    let to = c.args.to.now in
    let seen = c.in_ok-place_of.field-0 in
    let told = c.in_ok-place_of.ensures in
    let at = c.in_ok-place.ensures in
    (c.requires, at.is_name, seen_name to entries seen told, place_is_some c.args.from.now entries c.in_ok-place.place at, seen_some to entries seen told (ap (λ (o : Option ℕ). is_some o) c.in-Some-default.is-0))

pub entry_of-requires-clause-attributes : goal.entry_of-requires-clause-attributes
entry_of-requires-clause-attributes c =
    subst AreAttributes (sym c.text_at.ensures) (fit_there c.args.entries.now c.requires c.args.from.now c.in_ok-place.place c.in_ok-place.ensures)

pub returns-in-None-default : goal.returns-in-None-default
returns-in-None-default c =
    let entries = c.args.entries.now in
    let from = c.args.from.now in
    let to = c.args.to.now in
    let place = c.in_ok-place.place in
    let seen = c.in_ok-place_of.field-0 in
    let told = c.in_ok-place_of.ensures in
    let entry = c.entry_of.ensures ∙ ap (λ (a : List ℕ). entry_of to a) c.text_at.ensures in
    subst (λ (e : List ℕ). Changes entries (Renames entries from to) (place, e)) (sym entry)
    (renamed entries c.requires from to place (seen_name to entries seen told) c.in_ok-place.ensures (seen_none to entries seen told (ap (λ (o : Option ℕ). is_some o) c.in-None-default.is-0)))
