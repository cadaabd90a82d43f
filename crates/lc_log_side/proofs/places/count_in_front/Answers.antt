use Rattle.std.proofs.Common.{ℕ, arith, subst, sym, ◌+◌}
use Rattle.lc_log_side.proofs.Fronts.{IsPassing, none_passed, one_passed, all_passed}
use Rattle.lc_log_side.proofs.places.count_in_front.Goals as goal

pub loop-at-init : goal.loop-at-init
loop-at-init c = none_passed _ _ c.requires.records

pub overflow_add-count : goal.overflow_add-count
overflow_add-count c = let n = one_passed _ _ _ _ c.requires.within c.loop-at.invariant c.loop-at-test.true in let few = n.2 in omega arith

pub loop-at-smaller : goal.loop-at-smaller
loop-at-smaller c = let n = one_passed _ _ _ _ c.requires.within c.loop-at.invariant c.loop-at-test.true in let some = n.1 in let in_range = n.0.within in let e = c.length.ensures in omega arith

pub loop-at-preserved : goal.loop-at-preserved
loop-at-preserved c = let n = one_passed _ _ _ _ c.requires.within c.loop-at.invariant c.loop-at-test.true in subst (λ (k : ℕ). IsPassing c.args.words.now c.args.place (c.loop-at.at + k) (c.loop-at.count + 1)) (sym c.length.ensures) n.0

pub returns : goal.returns
returns c = all_passed _ _ _ _ c.requires.within c.loop-at.invariant (omega arith)
