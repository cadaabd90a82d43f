use Rattle.std.proofs.Common.{ℕ, List, Some, length-drop, drop, sym, ap, subst, ◌∙◌, arith}
use Rattle.std.specs.Prelude.{slice_get}
use Rattle.std.proofs.lemmas.List.{nil_from_length as no_words}
use Rattle.lc_stage.specs.Staging.{AreRecords}
use Rattle.lc_log_side.specs.Published.{records_of}
use Rattle.lc_log_side.proofs.Placed.{one_there, some_word}
use Rattle.lc_log_side.proofs.Published.{first_none, first_there}
use Rattle.lc_log_side.proofs.publishing.first_behind.Goals as goal
use Rattle.lc_log_side.proofs.publishing.first_behind.Goals.{then-count-eq0-via-then-count-eq0, then-count-eq0-via-else-count-eq0+then-count-behind}

pub returns-then-place-words-clause-found : goal.returns-then-place-words-clause-found
returns-then-place-words-clause-found c = λ within records. sym (first_none (drop c.args.place c.args.words.now) (no_words (drop c.args.place c.args.words.now) (let behind = c.if-place-words.true in let long = length-drop c.args.place c.args.words.now in omega arith)))

pub returns-then-count-eq0-clause-found : goal.returns-then-count-eq0-clause-found
returns-then-count-eq0-clause-found c = λ within records.
    let there = first_there c.split_at.result.1.now (subst AreRecords (sym c.split_at.ensures.back) records) (let some = c.if-place-words.false in let long = c.split_at.ensures.back_len in omega arith) c.length-count.result c.length-count.ensures in
    absurd (elim c.then-count-eq0.branch [
      | then-count-eq0-via-then-count-eq0 w ↦ (let none = w.if-count-eq0.true in let some = there.0 in omega arith)
      | then-count-eq0-via-else-count-eq0+then-count-behind w ↦ (let many = w.if-count-behind.true in let few = there.1 in omega arith)
    ])

pub returns-clause-found : goal.returns-clause-found
returns-clause-found c = λ within records.
    let there = first_there c.split_at.result.1.now (subst AreRecords (sym c.split_at.ensures.back) records) (let some = c.if-place-words.false in let long = c.split_at.ensures.back_len in omega arith) c.length-count.result c.length-count.ensures in
    ap (λ (l : List ℕ). Some l) c.split_at-2.ensures.front ∙ (sym there.2 ∙ ap (λ (l : List ℕ). slice_get (records_of l) 0) c.split_at.ensures.back)

pub returns-then-place-words-clause-one : goal.returns-then-place-words-clause-one
returns-then-place-words-clause-one c = λ record_words rest text one.
    absurd (let some = some_word (drop c.args.place c.args.words.now) record_words rest text one in let behind = c.if-place-words.true in let long = length-drop c.args.place c.args.words.now in omega arith)

pub returns-then-count-eq0-clause-one : goal.returns-then-count-eq0-clause-one
returns-then-count-eq0-clause-one c = λ record_words rest text one.
    let there = one_there c.split_at.result.1.now record_words rest (c.split_at.ensures.back ∙ text) one c.length-count.result c.length-count.ensures in
    absurd (elim c.then-count-eq0.branch [
      | then-count-eq0-via-then-count-eq0 w ↦ (let none = w.if-count-eq0.true in let some = there.0 in omega arith)
      | then-count-eq0-via-else-count-eq0+then-count-behind w ↦ (let many = w.if-count-behind.true in let few = there.1 in omega arith)
    ])

pub returns-clause-one : goal.returns-clause-one
returns-clause-one c = λ record_words rest text one.
    let there = one_there c.split_at.result.1.now record_words rest (c.split_at.ensures.back ∙ text) one c.length-count.result c.length-count.ensures in
    ap (λ (l : List ℕ). Some l) (c.split_at-2.ensures.front ∙ there.2)
