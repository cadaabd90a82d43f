-- Records that are kept from the words of a log.
use Rattle.std.specs.Prelude.{true, List, ◌++◌, map}
use Rattle.lc_record.specs.Record.{spelling}
use Rattle.lc_record.specs.declared.record.Record.{Record}
use Rattle.lc_journal.specs.Records.{KeptRecords, Spelled}

-- a record that is closed
abbrev pub closed_record : Record → Spelled
closed_record r = record { words = spelling r; closed = true }

-- these are kept after those that were
abbrev pub kept_behind : List Record → KeptRecords → KeptRecords
kept_behind rs k = record k { records = k.records ++ map closed_record rs }
