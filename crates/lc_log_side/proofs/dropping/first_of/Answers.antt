use Rattle.std.proofs.Common.{◌∙◌, arith}
use Rattle.lc_log_side.proofs.FirstRecord.{first-tells}
use Rattle.lc_log_side.proofs.dropping.first_of.Goals as goal
use Rattle.lc_log_side.proofs.dropping.first_of.Goals.{then-count-eq0-via-then-count-eq0, then-count-eq0-via-else-count-eq0+then-count-words}

pub returns-then-count-eq0-clause-found : goal.returns-then-count-eq0-clause-found
returns-then-count-eq0-clause-found c = λ r rest whole text.
    let t = first-tells r rest c.args.words.now c.length-count.result whole text c.length-count.ensures in
    let some = t.0 in
    let few = t.1 in
    absurd (elim c.then-count-eq0.branch [
      | then-count-eq0-via-then-count-eq0 w ↦ (let none = w.if-count-eq0.true in omega (arith, none, some))
      | then-count-eq0-via-else-count-eq0+then-count-words w ↦ (let many = w.if-count-words.true in omega (arith, many, few))
    ])

pub returns-clause-first : goal.returns-clause-first
returns-clause-first c = λ r rest whole text. c.split_at.ensures.front ∙ (first-tells r rest c.args.words.now c.length-count.result whole text c.length-count.ensures).2
