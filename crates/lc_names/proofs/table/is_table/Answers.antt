use Rattle.std.proofs.Common.{rules, ℕ, length, refl, ◌-◌, ◌≡◌, arith}
use Rattle.std.proofs.lemmas.Iterator.{YieldsList-from_range, cases_from_all}
use borrow.Author.Tests.{tests}
use Rattle.lc_names.specs.Table.{IsSoundAt}
use Rattle.lc_names.proofs.Sound.{table_by_all}
use Rattle.lc_names.proofs.table.is_table.Goals as goal

pub returns : goal.returns
returns c =
    let entries = c.args.entries.now in
    table_by_all entries c.all.result
    (cases_from_all _ _ _ (λ (k : ℕ). IsSoundAt entries k) (λ (k : ℕ). IsSoundAt entries k → ⊥) c.all.ensures.ran
    (YieldsList-from_range 0 (length entries) (length entries) refl (let e : length entries - 0 ≡ length entries = omega arith in e)) (λ x q k. search (rules, tests)) (λ x q k. search (rules, tests)))
