use Rattle.std.proofs.Common.{◌≡◌, take}
use Rattle.lc_record.specs.Record.{IsRecord}
use Rattle.lc_record.specs.declared.record.Record.{Record}
use Rattle.lc_rest.specs.Merge.{counted_by}
use Rattle.lc_log_side.proofs.dropping.count.Given as goal

abbrev pub invariant-loop-index : goal.invariant-loop-index
invariant-loop-index l = (r : Record) → IsRecord r l.words → l.dropped ≡ counted_by (take l.index r.locks) l.initial.dropped
