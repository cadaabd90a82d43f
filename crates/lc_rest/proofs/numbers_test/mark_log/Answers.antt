use Rattle.std.proofs.Common.{◌+◌, ℕ, List, [], ◌∷◌, ◌++◌, length, take, drop, sym, subst}
use Rattle.std.proofs.lemmas.List.{take_all}
use Rattle.lc_record.specs.declared.record.Record.{Record}
use Rattle.lc_rest.specs.NumbersTest.{AreMarked, AreNumbered}
use Rattle.lc_rest.proofs.Marking.{front-more, front-split}
use Rattle.lc_rest.proofs.numbers_test.mark_log.Goals as goal

pub returns-then-not-mark-clause-refused : goal.returns-then-not-mark-clause-refused
returns-then-not-mark-clause-refused c = λ e rs behind are numbered.
    (let log = c.args.log.now in
    let i = c.loop-whole.whole-index in
    c.mark.ensures.refused c.if-not-mark.true (rs ++ take i log) (drop (i + 1) log ++ behind) (c.loop-whole.invariant rs are)
    (subst (λ (n : ℕ). AreNumbered c.args.segment c.args.first (c.args.first + n) ((rs ++ take i log) ++ c.whole-item.result ∷ (drop (i + 1) log ++ behind))) (sym c.loop-whole.auto.marks)
    (subst (λ (r : Record). AreNumbered c.args.segment c.args.first (c.args.first + length c.args.marks.now) ((rs ++ take i log) ++ r ∷ (drop (i + 1) log ++ behind))) (sym c.whole-item.is)
    (subst (λ (l : List Record). AreNumbered c.args.segment c.args.first (c.args.first + length c.args.marks.now) l) (front-split rs log behind i c.whole-item.result c.loop-whole-test.true) numbered))))

pub loop-whole-preserved : goal.loop-whole-preserved
loop-whole-preserved c = λ rs are.
    (let log = c.args.log.now in
    let i = c.loop-whole.whole-index in
    subst (λ (l : List Record). AreMarked c.args.segment c.args.first l c.mark.new.marks) (front-more rs log i c.whole-item.result c.loop-whole-test.true)
    (subst (λ (r : Record). AreMarked c.args.segment c.args.first ((rs ++ take i log) ++ r ∷ []) c.mark.new.marks) c.whole-item.is (c.mark.ensures.marked c.if-not-mark.false (rs ++ take i log) (c.loop-whole.invariant rs are))))

pub returns-clause-marked : goal.returns-clause-marked
returns-clause-marked c = λ e rs are.
    subst (λ (l : List Record). AreMarked c.args.segment c.args.first (rs ++ l) c.loop-whole.marks) (take_all c.loop-whole.whole-index c.args.log.now c.loop-whole-test.false) (c.loop-whole.invariant rs are)
