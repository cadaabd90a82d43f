use Rattle.std.proofs.Common.{◌≡◌, ℕ, ◌≤◌, length, drop, take, slice_index, unwrap_or}
use Rattle.lc_range.specs.RangeSet.{total_len}
use Rattle.lc_range.specs.Copies.{copies_of}
use Rattle.lc_range.specs.Undo.{kept}
use Rattle.lc_range.proofs.copies.put_back.Given as goal

abbrev pub invariant-loop-i : goal.invariant-loop-i
invariant-loop-i l = record {
  start : l.start ≡ total_len (take l.i l.ranges);
  within : l.start ≤ length l.bytes;
  len : length l.image ≡ length l.initial.image;
  bytes : (k : ℕ) → slice_index l.image k ≡ unwrap_or (kept (copies_of (drop l.i l.ranges) (drop l.start l.bytes)) l.segment k) (slice_index l.initial.image k);
}
