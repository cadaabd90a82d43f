-- An area over a file, as contracts see it.
use Rattle.std.specs.Prelude.{ℕ}
use Rattle.lc_disk.specs.declared.file_area.FileArea.{FileArea}
use Rattle.lc_disk.specs.Count.{counted}
use Rattle.lc_disk.specs.Tally.{tallied}

-- its length
abbrev pub file_len : {F W : Type 0} → FileArea F W → ℕ
file_len a = a.len

-- how often it failed
abbrev pub file_failures : {F W : Type 0} → FileArea F W → ℕ
file_failures a = counted a.faults

-- how often it was called to read, write or sync
abbrev pub file_calls : {F W : Type 0} → FileArea F W → ℕ
file_calls a = tallied a.calls
