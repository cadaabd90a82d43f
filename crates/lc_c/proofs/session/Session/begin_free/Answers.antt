use Rattle.std.proofs.Common.{◌∙◌, sym}
use Rattle.lc_c.proofs.Begins.{answered, next_asked}
use Rattle.lc_c.proofs.session.Session.begin_free.Goals as goal

pub returns-then-not-is_taken-clause-begins : goal.returns-then-not-is_taken-clause-begins
returns-then-not-is_taken-clause-begins c =
    let k = c.loop-thread.thread in let reply = c.begin-reply.result in let mid = c.begin-reply.new.self.stage in
    c.loop-thread.invariant.0 k reply mid
    (answered c.saturating_sub-last.result k c.args.node c.args.writing.now c.args.reading.now c.loop-thread.self.stage mid reply c.loop-thread-test.true c.begin-reply.ensures.steps
    (sym c.is_taken.ensures ∙ c.if-not-is_taken.true))

pub loop-thread-preserved : goal.loop-thread-preserved
loop-thread-preserved c =
    let k = c.loop-thread.thread in let first = c.begin-reply.result in let mid = c.begin-reply.new.self.stage in let same = c.begin-reply.ensures.beside in (
      λ found reply new rest. c.loop-thread.invariant.0 found reply new
          (next_asked c.saturating_sub-last.result k c.args.node c.args.writing.now c.args.reading.now c.loop-thread.self.stage mid first c.loop-thread-test.true c.begin-reply.ensures.steps
          (sym c.is_taken.ensures ∙ c.if-not-is_taken.false) found reply new rest),
      record { truncation = same.truncation ∙ c.loop-thread.invariant.1.truncation },
    )
