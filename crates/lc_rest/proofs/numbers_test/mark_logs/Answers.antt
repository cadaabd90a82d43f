use Rattle.std.proofs.Common.{◌≡◌, ◌+◌, ◌∙◌, ℕ, suc, List, ◌++◌, length, take, drop, ap, sym, subst}
use Rattle.std.specs.Prelude.{slice_index_or}
use Rattle.std.specs.Global.{Vec}
use Rattle.std.proofs.lemmas.List.{take_all}
use Rattle.lc_record.specs.declared.record.Record.{Record}
use Rattle.lc_rest.specs.NumbersTest.{AreMarked, AreNumbered, joined_logs}
use Rattle.lc_rest.proofs.Marking.{joined-more, joined-split}
use Rattle.lc_rest.proofs.numbers_test.mark_logs.Goals as goal

pub returns-then-not-mark_log-clause-refused : goal.returns-then-not-mark_log-clause-refused
returns-then-not-mark_log-clause-refused c = λ e are numbered.
    (let logs = c.args.logs.now in
    let i = c.loop-log.log-index in
    let items : c.as_slice.result.now ≡ (slice_index_or logs i c.log-item.result).items = c.as_slice.ensures.value ∙ ap (λ (l : Vec Record). l.items) c.log-item.is in
    c.mark_log.ensures.refused c.if-not-mark_log.true (joined_logs (take i logs)) (joined_logs (drop (suc i) logs)) (c.loop-log.invariant are)
    (subst (λ (n : ℕ). AreNumbered c.args.segment c.args.first (c.args.first + n) (joined_logs (take i logs) ++ (c.as_slice.result.now ++ joined_logs (drop (suc i) logs)))) (sym c.loop-log.auto.marks)
    (subst (λ (l : List Record). AreNumbered c.args.segment c.args.first (c.args.first + length c.args.marks.now) (joined_logs (take i logs) ++ (l ++ joined_logs (drop (suc i) logs)))) (sym items)
    (subst (λ (l : List Record). AreNumbered c.args.segment c.args.first (c.args.first + length c.args.marks.now) l) (joined-split logs i c.log-item.result c.loop-log-test.true) numbered))))

pub loop-log-preserved : goal.loop-log-preserved
loop-log-preserved c = λ are.
    (let logs = c.args.logs.now in
    let i = c.loop-log.log-index in
    let items : c.as_slice.result.now ≡ (slice_index_or logs i c.log-item.result).items = c.as_slice.ensures.value ∙ ap (λ (l : Vec Record). l.items) c.log-item.is in
    subst (λ (l : List Record). AreMarked c.args.segment c.args.first l c.mark_log.new.marks) (ap (λ l. joined_logs (take i logs) ++ l) items ∙ joined-more logs i c.log-item.result c.loop-log-test.true)
    (c.mark_log.ensures.marked c.if-not-mark_log.false (joined_logs (take i logs)) (c.loop-log.invariant are)))

pub returns-clause-marked : goal.returns-clause-marked
returns-clause-marked c = λ e are.
    subst (λ (l : List (Vec Record)). AreMarked c.args.segment c.args.first (joined_logs l) c.loop-log.marks) (take_all c.loop-log.log-index c.args.logs.now c.loop-log-test.false) (c.loop-log.invariant are)
