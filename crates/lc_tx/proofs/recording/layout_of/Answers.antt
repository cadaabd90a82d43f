use Rattle.std.proofs.Common.{◌≡◌, ◌+◌, ◌-◌, ◌^◌, ◌≤◌, min, ℕ, List, length, map, drop, take, sym, ap, ◌∙◌, arith}
use Rattle.std.proofs.lemmas.List.{drop_all, take_all}
use Rattle.lc_range.specs.declared.range.Range.{Range}
use Rattle.lc_record.specs.Layout.{capped, layout_of, layout_len, no_layout}
use Rattle.lc_record.specs.declared.layout.Layout.{Layout}
use Rattle.lc_tx.specs.Prepared.{segments_of}
use Rattle.lc_tx.specs.Walk.{run_span, runs_layout}
use Rattle.lc_tx.proofs.RunLemmas.{others, others_of_none, others_same, others_next, few_others, few_segments_of, layout_fits, short_layout}
use Rattle.lc_tx.proofs.recording.layout_of.Goals as goal
use Rattle.lc_tx.proofs.recording.layout_of.Goals.{then-run-last, else-run-last}

pub loop-run-preserved : goal.loop-run-preserved
loop-run-preserved c =
    let d : Range = record { segment = 0; offset = 0; len = 0 } in
    let runs = c.args.runs.now in
    let i = c.loop-run.run-index in
    let was = c.loop-run.invariant in
    let few : length (others 0 c.args.runs.now) ≤ 64 = omega (arith, few_others 0 c.args.runs.now, c.requires.few) in
    elim c.if-run-last.branch [
      | then-run-last w ↦
          let small : min (c.loop-run.layout.locks + 1) (2 ^ 64 - 1) ≡ c.loop-run.layout.locks + 1 = omega (arith, c.loop-run.invariant.count, few) in
          let laid : c.if-run-last.layout ≡ record no_layout { locks = c.loop-run.layout.locks + 1 } =
          w.layout-is ∙ w.add_lock.ensures
          ∙ ap (λ (x : Layout). record x { locks = min (x.locks + 1) (2 ^ 64 - 1); ranges = min x.ranges (2 ^ 64 - 1); data_words = min x.data_words (2 ^ 64 - 1) }) c.loop-run.invariant.laid
          ∙ ap (λ (n : ℕ). record no_layout { locks = n }) small in
          let locks : c.if-run-last.layout.locks ≡ c.loop-run.layout.locks + 1 = ap (λ (x : Layout). x.locks) laid in
          record {
            laid = laid ∙ ap (λ (n : ℕ). record no_layout { locks = n }) (sym locks);
            count = omega (
              arith,
              was.count,
              locks,
              ap length (others_next c.loop-run.last runs i d c.loop-run-test.true w.if-run-last.true),
              ap (λ (n : ℕ). length (others n (drop (c.loop-run.run-index + 1) c.args.runs.now))) w.last-is,
            );
          }
      | else-run-last w ↦
          let locks : c.if-run-last.layout.locks ≡ c.loop-run.layout.locks = ap (λ (x : Layout). x.locks) w.layout-is in
          record {
            laid = w.layout-is ∙ c.loop-run.invariant.laid ∙ ap (λ (n : ℕ). record no_layout { locks = n }) (sym locks);
            count = omega (
              arith,
              was.count,
              locks,
              ap length (others_same c.loop-run.last runs i d c.loop-run-test.true w.if-run-last.false),
              ap (λ (n : ℕ). length (others n (drop (c.loop-run.run-index + 1) c.args.runs.now))) w.last-is,
            );
          }
    ]

pub loop-run-2-init : goal.loop-run-2-init
loop-run-2-init c =
    let runs = c.args.runs.now in
    let none : length (others c.loop-run.last (drop c.loop-run.run-index c.args.runs.now)) ≡ 0 = ap (λ (l : List Range). length (others c.loop-run.last l)) (drop_all c.loop-run.run-index c.args.runs.now c.loop-run-test.false) in
    let count : c.loop-run.layout.locks ≡ length (segments_of c.args.runs.now) = omega (arith, c.loop-run.invariant.count, none, ap length (others_of_none c.args.runs.now c.requires.numbered)) in
    let small : min (length (segments_of c.args.runs.now)) (2 ^ 64 - 1) ≡ length (segments_of c.args.runs.now) = omega (arith, few_segments_of c.args.runs.now c.requires.numbered, c.requires.few) in
    c.loop-run.invariant.laid ∙ ap (λ (n : ℕ). record no_layout { locks = n }) (count ∙ sym small)

-- the layout that the loops have made
made : (c : goal.After-loop-run-2) → c.loop-run-2.layout ≡ runs_layout c.args.runs.now
made c =
    let all : take c.loop-run-2.run-index c.args.runs.now ≡ c.args.runs.now = take_all c.loop-run-2.run-index c.args.runs.now c.loop-run-2-test.false in
    c.loop-run-2.invariant
    ∙ ap (λ (l : List Range). capped (layout_of (length (segments_of c.args.runs.now)) (map run_span l))) all
    ∙ layout_fits c.args.runs.now (length (segments_of c.args.runs.now)) c.requires.few c.requires.short (omega (arith, few_segments_of c.args.runs.now c.requires.numbered, c.requires.few))

pub returns-clause-laid : goal.returns-clause-laid
returns-clause-laid c = made c

pub returns-clause-fits : goal.returns-clause-fits
returns-clause-fits c = omega (arith, ap layout_len (made c), short_layout c.args.runs.now c.requires.few c.requires.short c.requires.numbered)
