use Rattle.std.proofs.Common.{◌≡◌, ◌+◌, length, map, drop, take}
use Rattle.lc_record.specs.Layout.{capped, layout_of, no_layout}
use Rattle.lc_tx.specs.Prepared.{segments_of}
use Rattle.lc_tx.specs.Walk.{run_span}
use Rattle.lc_tx.proofs.RunLemmas.{others}
use Rattle.lc_tx.proofs.recording.layout_of.Given as goal

abbrev pub invariant-loop-run : goal.invariant-loop-run
invariant-loop-run l = record {
  laid : l.layout ≡ record no_layout { locks = l.layout.locks };
  count : l.layout.locks + length (others l.last (drop l.run-index l.runs)) ≡ length (others 0 l.runs);
}

abbrev pub invariant-loop-run-2 : goal.invariant-loop-run-2
invariant-loop-run-2 l = l.layout ≡ capped (layout_of (length (segments_of l.runs)) (map run_span (take l.run-index l.runs)))
