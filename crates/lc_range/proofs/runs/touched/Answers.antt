use Rattle.std.proofs.Common.{◌≡◌, ◌∷◌, ◌+◌, ◌-◌, ◌^◌, ap, sym, ◌∙◌, ◌++◌, List, get_or, take, drop, arith}
use Rattle.lc_range.specs.Walk.{absorbed}
use Rattle.lc_range.specs.declared.range.Range.{Range}
use Rattle.lc_range.proofs.WalkLemmas.{end_at, end_joined, absorbed_before, absorbed_last, absorbed_more}
use Rattle.lc_range.proofs.runs.touched.Goals as goal
use Rattle.lc_range.proofs.runs.touched.Goals.{then-loop-end-test+else-not-is_before, else-loop-end-test}

pub joined-run-requires-clause-other_fits : goal.joined-run-requires-clause-other_fits
joined-run-requires-clause-other_fits c =
    omega (arith, end_at c.args.runs.now (2 ^ 32 - 1) c.loop-end.end (record { segment = 0; offset = 0; len = 0 }) c.requires.ends c.loop-end-test.true)

pub loop-end-preserved : goal.loop-end-preserved
loop-end-preserved c =
    let d : Range = record { segment = 0; offset = 0; len = 0 } in
    let within = c.loop-end-test.true in
    record {
      ordered = omega (arith, c.loop-end.invariant.ordered);
      within = omega (arith, within);
      end = end_joined c.loop-end.run (get_or c.args.runs.now c.loop-end.end d) c.joined-run.result (2 ^ 32) c.joined-run.ensures c.loop-end.invariant.end (omega (arith, end_at c.args.runs.now (2 ^ 32 - 1) c.loop-end.end d c.requires.ends within));
      rest =
          ap (λ (r : Range). take c.count_before-start.result c.args.runs.now ++ absorbed r (drop (c.loop-end.end + 1) c.args.runs.now)) c.joined-run.ensures
          ∙ ap (λ (l : List Range). take c.count_before-start.result c.args.runs.now ++ l) (sym (absorbed_more c.loop-end.run c.args.runs.now c.loop-end.end d within (sym c.is_before.ensures ∙ c.if-not-is_before.true)))
          ∙ c.loop-end.invariant.rest;
    }

pub returns-clause-place : goal.returns-clause-place
returns-clause-place c = record {
  ordered = c.loop-end.invariant.ordered;
  within = c.loop-end.invariant.within;
  before = c.count_before-start.ensures.place;
  added =
      let d : Range = record { segment = 0; offset = 0; len = 0 } in
      let runs = c.args.runs.now in
      let placed : absorbed c.loop-end.run (drop c.loop-end.end runs) ≡ c.loop-end.run ∷ drop c.loop-end.end runs =
      elim c.loop-end-test.branch [
        | then-loop-end-test+else-not-is_before w ↦ absorbed_before c.loop-end.run runs c.loop-end.end d w.loop-end-test.true (sym w.is_before.ensures ∙ w.if-not-is_before.false)
        | else-loop-end-test w ↦ absorbed_last c.loop-end.run runs c.loop-end.end w.loop-end-test.false
      ] in
      ap (λ (l : List Range). take c.count_before-start.result runs ++ l) (sym placed) ∙ c.loop-end.invariant.rest;
}
