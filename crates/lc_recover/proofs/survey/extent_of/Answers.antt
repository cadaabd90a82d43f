use Rattle.std.proofs.Common.{ℕ, List, ◌∷◌, [], ◌∙◌, sym, ap, length, arith}
use Rattle.std.proofs.lemmas.List.{length-append, length-map}
use Rattle.lc_record.specs.declared.record.Record.{Record}
use Rattle.lc_record.proofs.SpellingLemmas.{length-spelling}
use Rattle.lc_log.specs.InPlace.{records_in}
use Rattle.lc_log.specs.LogText.{joined}
use Rattle.lc_recover.proofs.Extents.{its-place, joined-more, records-fit, words-fit}
use Rattle.lc_recover.proofs.Walks.{passed-next, passed-all, placed-records}
use Rattle.lc_recover.specs.Reading.{placed_in}
use Rattle.lc_recover.proofs.survey.extent_of.Goals as goal

pub overflow_add-extent : goal.overflow_add-extent
overflow_add-extent c =
    let passed = c.loop-place.invariant in
    omega (arith, records-fit c.args.words.now passed.seen _ _ (c.in-Some.place, c.in-Some.record) passed.split c.in-Some.ensures.steps, passed.holds.0, c.requires)

pub overflow_add-extent-in-loop-place : goal.overflow_add-extent-in-loop-place
overflow_add-extent-in-loop-place c =
    let passed = c.loop-place.invariant in
    omega (
      arith,
      words-fit c.args.words.now passed.seen _ _ (c.in-Some.place, c.in-Some.record) passed.split c.in-Some.ensures.steps,
      its-place c.args.words.now passed.seen _ _ (c.in-Some.place, c.in-Some.record) passed.split c.in-Some.ensures.steps,
      length-spelling c.in-Some.record,
      c.len.ensures,
    )

pub loop-place-preserved : goal.loop-place-preserved
loop-place-preserved c =
    let passed = c.loop-place.invariant in
    passed-next _ _ _ _ _ _ c.in-Some.ensures.steps passed (λ seen holds. (
      omega (arith, holds.0, length-append seen ((c.in-Some.place, c.in-Some.record) ∷ [])),
      omega (
        arith,
        its-place c.args.words.now passed.seen _ _ (c.in-Some.place, c.in-Some.record) passed.split c.in-Some.ensures.steps,
        passed.holds.1,
        holds.1,
        joined-more seen (c.in-Some.place, c.in-Some.record),
        length-spelling c.in-Some.record,
        c.len.ensures,
      ),
    ))

pub returns-clause-records : goal.returns-clause-records
returns-clause-records c =
    (passed-all _ _ _ c.in-None.ensures.steps.0 c.loop-place.invariant).0
    ∙ sym (length-map (placed_in c.args.words.now) (λ (x : ℕ × Record). x.1)) ∙ ap (λ (l : List Record). length l) (placed-records 0 (records_in c.args.words.now))

pub returns-clause-words : goal.returns-clause-words
returns-clause-words c =
    (passed-all _ _ _ c.in-None.ensures.steps.0 c.loop-place.invariant).1
    ∙ ap (λ (l : List Record). length (joined l)) (placed-records 0 (records_in c.args.words.now))
