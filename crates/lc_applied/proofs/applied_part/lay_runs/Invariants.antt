use Rattle.std.proofs.Common.{◌≡◌, ◌≤◌, length, drop}
use Rattle.lc_range.specs.RangeSet.{total_len}
use Rattle.lc_tx.specs.Image.{laid_over}
use Rattle.lc_applied.specs.AppliedPart.{ranges_of}
use Rattle.lc_applied.proofs.applied_part.lay_runs.Given as goal

abbrev pub invariant-loop-run : goal.invariant-loop-run
invariant-loop-run l = record {
  image : laid_over (ranges_of (drop l.run-index l.runs) l.rest) l.image.bytes.items ≡ laid_over (ranges_of l.runs l.bytes) l.initial.image.bytes.items;
  holders : l.image.holders ≡ l.initial.image.holders;
  enough : total_len (drop l.run-index l.runs) ≤ length l.rest;
  rest : drop (total_len (drop l.run-index l.runs)) l.rest ≡ drop (total_len l.runs) l.bytes;
}
