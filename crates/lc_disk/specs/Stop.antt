-- What a stop makes of an area in memory, by a list of choices.
use Rattle.std.specs.Prelude.{ℕ, zero, suc, ◌+◌, ◌-◌, Bool, if◌then◌else◌, List, length, min, slice_index_or}
use Rattle.lc_disk.specs.declared.choice.Choice.{Choice}
use Rattle.lc_disk.specs.declared.choice.Choice.TheVariants.{Keep, Stable, Byte}

-- how many positions below this one are dirty
abbrev pub dirty_below : (ℕ → Bool) → ℕ → ℕ
dirty_below dirty zero = 0
dirty_below dirty (suc k) = dirty_below dirty k + (if dirty k then 1 else 0)

-- the choice for the dirty position that has so many before it: the last holds for the rest, and with none a byte is kept
abbrev pub choice_for : List Choice → ℕ → Choice
choice_for choices before = slice_index_or choices (min before (length choices - 1)) Keep

-- the byte that a choice leaves
abbrev pub chosen : Choice → ℕ → ℕ → ℕ
chosen Keep now stable = now
chosen Stable now stable = stable
chosen (Byte byte) now stable = byte

-- the byte that a stop leaves at this position
abbrev pub left_by_stop : List ℕ → List ℕ → (ℕ → Bool) → List Choice → ℕ → ℕ
left_by_stop now stable dirty choices k =
    if dirty k then chosen (choice_for choices (dirty_below dirty k)) (slice_index_or now k 0) (slice_index_or stable k 0) else slice_index_or now k 0
