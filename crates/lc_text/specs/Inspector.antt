-- What an inspection writes: a line for each record of the text that the words are.
use Rattle.std.specs.Prelude.{◌≡◌, ℕ, Bool, List, reverse, Option, if◌then◌else◌}
use Rattle.std.specs.Io.KnownBytes.{Appends}
use Rattle.lc_record.specs.declared.record.Record.{Record}
use Rattle.lc_log.specs.LogText.{IsLogText, placed}
use Rattle.lc_text.specs.Text.{records_text}

-- the first one first, or the last one first
abbrev pub in_direction : Bool → List (ℕ × Record) → List (ℕ × Record)
in_direction backwards found = if backwards then reverse found else found

-- from what the writer held to what it holds, where the last record may come first
abbrev pub Inspects : Bool → List ℕ → Option (List ℕ) → Option (List ℕ) → Type 0
Inspects backwards words old new = (records : List Record) × IsLogText words records × Appends old new (records_text (in_direction backwards (placed 0 records)))

-- these are the words' records, each with its place, in that direction
abbrev pub AreFound : Bool → List ℕ → List (ℕ × Record) → Type 0
AreFound backwards words found = (records : List Record) × IsLogText words records × (found ≡ in_direction backwards (placed 0 records))
