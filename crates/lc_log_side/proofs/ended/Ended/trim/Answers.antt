use Rattle.std.proofs.Common.{◌≡◌, ℕ, List, ap, sym, subst, ◌∙◌, arith}
use Rattle.lc_log_side.specs.Ended.{EndedWords}
use Rattle.lc_log_side.specs.Trims.{Drops, is_due}
use Rattle.lc_log_side.proofs.FirstRecord.{drops-more, trims-all}
use Rattle.lc_log_side.proofs.ended.Ended.trim.Goals as goal

pub overflow_add-count : goal.overflow_add-count
overflow_add-count c =
    (let small = c.drop_first.ensures.small in
    let few = c.drop_first.ensures.fewer c.loop-count-test.true in
    let less = few.0 in
    let same = few.1 in
    let place = c.loop-count.invariant.1 in
    let count = c.loop-count.invariant.3 in
    omega (arith, small, less, same, place, count))

pub loop-count-preserved : goal.loop-count-preserved
loop-count-preserved c = (
  λ rs whole text. drops-more c.args.applied.now c.args.dropped.now rs c.loop-count.count c.loop-count.self.words c.loop-count.dropped c.drop_first.new.self.words c.drop_first.new.dropped whole
      (c.loop-count.invariant.0 rs whole text) (λ r rest own words. c.loop-count-test.ensures.dropped r rest own words) (c.drop_first.ensures.fewer c.loop-count-test.true).0,
  (let few = c.drop_first.ensures.fewer c.loop-count-test.true in let same = few.1 in let place = c.loop-count.invariant.1 in omega (arith, same, place)),
  (let more = c.drop_first.ensures.room in let old = c.loop-count.invariant.2 in omega (arith, more, old)),
  (let few = c.drop_first.ensures.fewer c.loop-count-test.true in let less = few.0 in let count = c.loop-count.invariant.3 in omega (arith, less, count)),
)

pub returns-clause-trimmed : goal.returns-clause-trimmed
returns-clause-trimmed c = λ rs whole text.
    let same = c.drop_first.ensures.stays c.loop-count-test.false in
    let words_same : c.drop_first.new.self.words ≡ c.loop-count.self.words = ap (λ (e : EndedWords). e.words) same.0 in
    let d : Drops c.args.applied.now c.args.dropped.now rs c.loop-count.count c.loop-count.self.words c.loop-count.dropped = c.loop-count.invariant.0 rs whole text in
    trims-all c.args.applied.now c.args.dropped.now rs c.loop-count.count c.drop_first.new.self.words c.drop_first.new.dropped whole
    (subst (λ (l : List ℕ). Drops c.args.applied.now c.args.dropped.now rs c.loop-count.count l c.drop_first.new.dropped) (sym words_same)
    (subst (λ (l : List ℕ). Drops c.args.applied.now c.args.dropped.now rs c.loop-count.count c.loop-count.self.words l) (sym same.1) d))
    (λ r rest own words. ap (λ (l : List ℕ). is_due c.args.applied.now l r) same.1 ∙ (c.loop-count-test.ensures.dropped r rest own (sym words_same ∙ words)).0)
