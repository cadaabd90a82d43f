use Rattle.std.proofs.Common.{rules, ◌≡◌, ◌<◌, ◌++◌, List, ℕ, length, sym, ap, ◌∙◌, subst, arith}
use Rattle.lc_stage.specs.declared.stage_view.StageView.{StageView}
use Rattle.lc_stage.specs.Seats.{flush_view}
use Rattle.lc_stage.specs.Publishing.{HoldsTaken}
use Rattle.lc_stage.proofs.Flushed.{flush_holds}
use Rattle.lc_tests_threads.proofs.staging.settle.Goals as goal

pub publish-requires-in-Ok-clause-stable : goal.publish-requires-in-Ok-clause-stable
publish-requires-in-Ok-clause-stable g c = let ws : List ℕ = c.take-words.new.group.words in let taken : List ℕ = (flush_view c.args.flusher.now).taken in let some : 0 < length ws = omega (arith, c.take-words.ensures.len, c.if-words-eq0.false) in
    subst (λ (z : List ℕ). HoldsTaken g.D.Area c.in-Ok.log.area c.in-Ok.log.end z) (sym c.take-words.ensures.words)
    (flush_holds g.D.Area c.args.log.area c.in-Ok.log.area c.args.log.end c.in-Ok.log.end taken ws c.requires.log.0 c.take-words.ensures.records some c.in-Ok.ensures.device c.in-Ok.ensures.end c.in-Ok.ensures.flushed)

pub returns-in-Ok-clause-log : goal.returns-in-Ok-clause-log
returns-in-Ok-clause-log g c = let ws : List ℕ = c.take-words.new.group.words in let taken : List ℕ = (flush_view c.args.flusher.now).taken in let some : 0 < length ws = omega (arith, c.take-words.ensures.len, c.if-words-eq0.false) in
    let same : (flush_view c.publish-in-Ok.new.flusher).taken ≡ (flush_view c.take-words.new.flusher).taken = ap (λ (v : StageView). v.taken) c.publish-in-Ok.ensures.published in (
      subst (λ (z : List ℕ). HoldsTaken g.D.Area c.in-Ok.log.area c.in-Ok.log.end z) (sym (same ∙ c.take-words.ensures.words))
          (flush_holds g.D.Area c.args.log.area c.in-Ok.log.area c.args.log.end c.in-Ok.log.end taken ws c.requires.log.0 c.take-words.ensures.records some c.in-Ok.ensures.device c.in-Ok.ensures.end c.in-Ok.ensures.flushed),
      (let fits = c.requires.log.1 in omega (arith, (c.in-Ok.ensures.device).same_length)),
    )
