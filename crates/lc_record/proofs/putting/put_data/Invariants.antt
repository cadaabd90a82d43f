use Rattle.std.proofs.Common.{◌≡◌, ℕ, ◌+◌, ◌-◌, ◌<◌, ◌≤◌}
use Rattle.std.specs.Prelude.{slice_get}
use Rattle.lc_record.specs.Words.{bytes_of}
use Rattle.lc_record.proofs.putting.put_data.Given as goal

abbrev pub invariant-loop-done : goal.invariant-loop-done
invariant-loop-done l = record {
  within : l.done ≤ l.count;
  put : (k : ℕ) → k < l.done → slice_get l.bytes k ≡ slice_get (bytes_of l.words) (l.skipped + k);
  kept : (k : ℕ) → l.done ≤ k → slice_get l.bytes k ≡ slice_get l.initial.bytes k;
}

abbrev pub decreases-loop-done : goal.decreases-loop-done
decreases-loop-done l = l.count - l.done
