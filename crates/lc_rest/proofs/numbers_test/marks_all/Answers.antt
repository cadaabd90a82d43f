use Rattle.std.proofs.Common.{◌≡◌, ◌+◌, ◌∙◌, List, length, ap, sym, true≢false}
use Rattle.lc_record.specs.declared.record.Record.{Record}
use Rattle.lc_rest.specs.NumbersTest.{joined_logs}
use Rattle.lc_rest.proofs.Marking.{all-set, marked-all, numbered-marked, set-all}
use Rattle.lc_rest.proofs.numbers_test.marks_all.Goals as goal

pub returns-then-mark_logs : goal.returns-then-mark_logs
returns-then-mark_logs c = λ are.
    (let marks = c.mark_logs.new.marks in
    let rs : List Record = joined_logs c.args.logs.now in
    let last = c.args.first + length c.args.marks.now in
    let marked = c.mark_logs.ensures.marked c.if-mark_logs.true are in
    let long : c.args.first + length marks ≡ last = ap (λ n. c.args.first + n) c.mark_logs.auto.marks in (
      λ e. marked-all c.args.segment c.args.first last rs marks long (all-set marks (sym c.are_marked.ensures ∙ e)) marked,
      λ numbered. c.are_marked.ensures ∙ set-all marks (numbered-marked c.args.segment c.args.first last rs marks long marked numbered),
    ))

pub returns-else-mark_logs : goal.returns-else-mark_logs
returns-else-mark_logs c = λ are. (
  λ e. absurd (true≢false (sym e ∙ c.if-mark_logs.false)),
  λ numbered. absurd (c.mark_logs.ensures.refused c.if-mark_logs.false are numbered),
)
