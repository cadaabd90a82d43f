use Rattle.std.proofs.Common.{rules, ◌≡◌, true, false, List, ℕ}
use Rattle.std.specs.Str.{bytes_eq}
use Rattle.std.proofs.lemmas.Iterator.{IsFirst-from_position, YieldsList-from_slice}
use borrow.Author.Tests.{tests}
use Rattle.lc_names.specs.NameEntry.{IsName, name_of}
use Rattle.lc_names.proofs.Changes.{seen_by_text}
use Rattle.lc_names.proofs.table.place_of.Goals as goal

pub returns : goal.returns
returns c =
    let name : List ℕ = c.args.name.now in
    let is_name : IsName name = search rules in
    seen_by_text name c.args.entries.now c.position.result is_name
    (IsFirst-from_position _ _ _ (λ (y : List ℕ). bytes_eq (name_of y) name ≡ true) (λ (y : List ℕ). bytes_eq (name_of y) name ≡ false) c.position.ensures.ran
    (YieldsList-from_slice c.args.entries.now cc) (λ x q k. search (rules, tests)) (λ x q k. search (rules, tests)))
