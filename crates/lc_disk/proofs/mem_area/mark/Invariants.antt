use Rattle.std.proofs.Common.{◌≡◌, ℕ, ◌≤◌, ◌<◌, true, false, slice_index_or}
use Rattle.lc_disk.proofs.mem_area.mark.Given as goal

abbrev pub invariant-loop-position : goal.invariant-loop-position
invariant-loop-position l = record {
  before : (k : ℕ) → k < l.at → slice_index_or l.dirty k false ≡ slice_index_or l.initial.dirty k false;
  within : (k : ℕ) → l.at ≤ k → k < l.position → slice_index_or l.dirty k false ≡ true;
  after : (k : ℕ) → l.position ≤ k → slice_index_or l.dirty k false ≡ slice_index_or l.initial.dirty k false;
}
