use Rattle.std.proofs.Common.{rules, ◌≡◌, ℕ, List, false, nat_le, sym, ◌∙◌, arith, eq-eqb, true≢false, subst}
use Rattle.std.specs.Prelude.{MatchResult}
use Rattle.lc_names.specs.NameEntry.{Fits, is_used}
use Rattle.lc_names.specs.Table.{IsPlaceOf, IsUnplaced, entry_at}
use Rattle.lc_names.proofs.Entries.{used_some, zero_unused}
use Rattle.lc_names.proofs.Sound.{sound_where}
use Rattle.lc_names.proofs.table.is_sound_at.Goals as goal

pub returns-then-entry-eq0 : goal.returns-then-entry-eq0
returns-then-entry-eq0 c =
    let unused : is_used (entry_at c.args.entries.now c.args.place) ≡ false = zero_unused (entry_at c.args.entries.now c.args.place) c.if-entry-eq0.true in
    (λ is used. absurd (true≢false (sym used ∙ unused)), λ sound. eq-eqb _ _ c.if-entry-eq0.true)

pub returns-then-from-le-LONGEST : goal.returns-then-from-le-LONGEST
unfolding Fits
returns-then-from-le-LONGEST c =
    let entries : List (List ℕ) = c.args.entries.now in
    let entry : List ℕ = entry_at entries c.args.place in
    let used = used_some entry c.if-entry-eq0.false in
    let fit : Fits entry = (omega arith, omega arith) in
    let looked = subst (λ (n : List ℕ). MatchResult c.found.result (IsPlaceOf n entries) (IsUnplaced n entries)) c.text_at.ensures c.found.ensures in
    sound_where entries c.args.place c.requires (c.told-entries c.args.place c.requires) used fit _ c.found.result c.eq.result looked c.eq.ensures

pub returns-else-from-le-LONGEST : goal.returns-else-from-le-LONGEST
unfolding Fits
returns-else-from-le-LONGEST c =
    let entries : List (List ℕ) = c.args.entries.now in
    let entry : List ℕ = entry_at entries c.args.place in
    let used = used_some entry c.if-entry-eq0.false in
    let unfit : Fits entry → ⊥ = λ fit. (let one = fit.0 in let two = fit.1 in omega arith) in
    let not : nat_le c.from.result 31 ≡ false = search rules in
    (λ is. absurd (true≢false (sym is ∙ not)), λ sound. absurd (unfit (sound used).0))
