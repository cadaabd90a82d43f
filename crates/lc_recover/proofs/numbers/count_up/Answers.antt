use Rattle.std.proofs.Common.{◌≡◌, ◌<◌, ◌-◌, ◌+◌, ◌++◌, [], ◌∷◌, List, ℕ, sym, arith, take, drop, suc, length, get_or, subst, refl}
use Rattle.std.proofs.lemmas.List.{take_all, take_more, get_or_default as same-item}
use Rattle.lc_model.specs.Merge.{IsLeastPair}
use Rattle.lc_recover.specs.Locks.{AreInOrder, IsMissing, count_of}
use Rattle.lc_recover.specs.declared.lock_number.LockNumber.{LockNumber}
use Rattle.lc_recover.proofs.Counts.{AllFilled, filled-same, filled-more, filled-all, first-gap, split-at}
use Rattle.lc_recover.proofs.numbers.count_up.Goals as goal
use Rattle.lc_recover.proofs.numbers.count_up.Goals.{then-number-count+else-number-count-2, else-number-count}

pub returns-then-number-count-2-clause-gap : goal.returns-then-number-count-2-clause-gap
returns-then-number-count-2-clause-gap c =
    let n : LockNumber = get_or c.args.numbers.now c.loop-number.number-index (record { segment = 0; seq = 0 }) in
    let front : List LockNumber = take c.loop-number.number-index c.args.numbers.now in
    let behind : List LockNumber = drop (suc c.loop-number.number-index) c.args.numbers.now in
    let within : c.loop-number.number-index < length c.args.numbers.now = omega arith in
    let split : c.args.numbers.now ≡ front ++ n ∷ behind = split-at c.args.numbers.now c.loop-number.number-index n within (same-item c.args.numbers.now c.loop-number.number-index n (record { segment = 0; seq = 0 }) within) in
    let each = c.requires.each c.loop-number.number-index (record { segment = 0; seq = 0 }) within in
    let least : IsLeastPair (IsMissing c.args.counts.now (front ++ n ∷ behind)) n.segment (count_of c.loop-number.counts n.segment + 1) =
    first-gap c.args.counts.now c.loop-number.counts front n behind (subst AreInOrder split c.requires.order) c.loop-number.invariant each.0 each.1 c.if-number-count-2.true in
    (n.segment, count_of c.loop-number.counts n.segment + 1, refl, subst (λ (l : List LockNumber). IsLeastPair (IsMissing c.args.counts.now l) n.segment (count_of c.loop-number.counts n.segment + 1)) (sym split) least)

pub loop-number-preserved : goal.loop-number-preserved
loop-number-preserved c =
    let n : LockNumber = get_or c.args.numbers.now c.loop-number.number-index (record { segment = 0; seq = 0 }) in
    let front : List LockNumber = take c.loop-number.number-index c.args.numbers.now in
    let within : c.loop-number.number-index < length c.args.numbers.now = omega arith in
    let each = c.requires.each c.loop-number.number-index (record { segment = 0; seq = 0 }) within in
    let more : take (c.loop-number.number-index + 1) c.args.numbers.now ≡ front ++ n ∷ [] = take_more c.args.numbers.now c.loop-number.number-index (record { segment = 0; seq = 0 }) within in
    subst (λ (l : List LockNumber). AllFilled c.args.counts.now l c.if-number-count.counts) (sym more)
    (elim c.if-number-count.branch [
      | then-number-count+else-number-count-2 w ↦
          subst (λ (l : List ℕ). AllFilled c.args.counts.now (front ++ n ∷ []) l) (sym w.counts-is)
          (filled-more c.args.counts.now front n c.loop-number.counts (n.segment - 1) refl each.0 each.1 (omega (arith, w.if-number-count.true, w.if-number-count-2.false)) c.loop-number.invariant)
      | else-number-count w ↦
          subst (λ (l : List ℕ). AllFilled c.args.counts.now (front ++ n ∷ []) l) (sym w.counts-is)
          (filled-same c.args.counts.now front n c.loop-number.counts w.if-number-count.false c.loop-number.invariant)
    ])

pub returns-clause-counted : goal.returns-clause-counted
returns-clause-counted c =
    filled-all c.args.counts.now c.args.numbers.now c.loop-number.counts
    (subst (λ (l : List LockNumber). AllFilled c.args.counts.now l c.loop-number.counts) (take_all c.loop-number.number-index c.args.numbers.now (omega arith)) c.loop-number.invariant)
