use Rattle.std.proofs.Common.{◌≡◌, ℕ, ◌<◌, true, Some}
use Rattle.std.specs.Prelude.{slice_get}
use Rattle.lc_record.specs.Record.{IsRecord}
use Rattle.lc_record.specs.declared.record.Lock.{Lock}
use Rattle.lc_record.specs.declared.record.Record.{Record}
use Rattle.lc_log_side.specs.Trims.{is_due_lock}
use Rattle.lc_log_side.proofs.dropping.is_due.Given as goal

abbrev pub invariant-loop-index : goal.invariant-loop-index
invariant-loop-index l = (r : Record) → IsRecord r l.words → (k : ℕ) → k < l.index → (lock : Lock) → slice_get r.locks k ≡ Some lock → is_due_lock l.applied l.dropped lock ≡ true
