use Rattle.std.proofs.Common.{rules, ◌≡◌, ◌+◌, ◌-◌, ◌<◌, ◌∙◌, ℕ, Bool, true, false, List, [], ap, arith, length, replicate, sym, subst}
use Rattle.std.proofs.lemmas.List.{get_or-replicate, length-replicate}
use Rattle.lc_record.specs.declared.record.Record.{Record}
use Rattle.lc_rest.specs.NumbersTest.{AreMarked, AreNumbered, joined_logs}
use Rattle.lc_rest.proofs.Marking.{mark-first}
use Rattle.lc_rest.proofs.numbers_test.keeps_numbers.Goals as goal

pub returns : goal.returns
returns c =
    let count : ℕ = c.args.last - c.args.first in
    let rs : List Record = joined_logs c.args.logs.now in
    let made : c.in_ok-marks.marks.items ≡ replicate count false = search rules in
    let items : c.as_mut_slice.result.now ≡ replicate count false = c.as_mut_slice.ensures.value ∙ made in
    let are : AreMarked c.args.segment c.args.first [] c.as_mut_slice.result.now =
    subst (λ (marks : List Bool). AreMarked c.args.segment c.args.first [] marks) (sym items)
    (mark-first c.args.segment c.args.first (replicate count false) (λ place d less. get_or-replicate count place false d (subst (λ k. place < k) (length-replicate count false) less))) in
    let long = ap length items ∙ length-replicate count false in
    let ends : c.args.first + length c.as_mut_slice.result.now ≡ c.args.last = omega (arith, long, c.requires) in
    subst (λ (n : ℕ). (c.marks_all.result ≡ true → AreNumbered c.args.segment c.args.first n rs) × (AreNumbered c.args.segment c.args.first n rs → c.marks_all.result ≡ true)) ends (c.marks_all.ensures are)
