use Rattle.std.proofs.Common.{◌≡◌, ◌<◌, length, ◌∙◌, sym, ap, arith}
use Rattle.std.proofs.lemmas.Bool.{eqb-true, eqb-false}
use Rattle.std.specs.Int.{w64, from_le_bytes}
use Rattle.lc_record.proofs.DataLemmas.{pushed, pushed_last, pushed_all}
use Rattle.lc_record.proofs.data.push_data.Goals as goal

pub loop-front-preserved : goal.loop-front-preserved
loop-front-preserved c =
    let cases = c.in-Some.ensures.cases in
    let l = c.loop-front in
    record {
      words = rw (c.push.ensures.items, cases.1) (pushed l.words.items l.rest.now c.args.bytes.now c.args.words.now.items c.from_le_bytes.result (omega (arith, cases.2)) (c.from_le_bytes.ensures ∙ ap (from_le_bytes w64) cases.0) l.invariant.words);
      room = omega (arith, c.push.ensures.len, c.push.ensures.room, l.invariant.room, cases.2);
      kept = omega (arith, c.push.ensures.room, l.invariant.kept);
    }

pub returns-then-not-is_empty-clause-items : goal.returns-then-not-is_empty-clause-items
returns-then-not-is_empty-clause-items c =
    let l = c.loop-front in
    let some : 0 < length l.rest.now = omega (arith, eqb-false (length l.rest.now) 0 (sym c.is_empty.ensures ∙ c.if-not-is_empty.true)) in
    let short : length l.rest.now < 8 = omega (arith, c.in_default.ensures.cases) in
    c.push-then-not-is_empty.ensures.items ∙ pushed_last l.words.items l.rest.now c.args.bytes.now c.args.words.now.items c.word_of.result some short c.word_of.ensures l.invariant.words

pub returns-else-not-is_empty-clause-items : goal.returns-else-not-is_empty-clause-items
returns-else-not-is_empty-clause-items c =
    let l = c.loop-front in
    let none : length l.rest.now ≡ 0 = eqb-true (length l.rest.now) 0 (sym c.is_empty.ensures ∙ c.if-not-is_empty.false) in
    pushed_all l.words.items l.rest.now c.args.bytes.now c.args.words.now.items none l.invariant.words
