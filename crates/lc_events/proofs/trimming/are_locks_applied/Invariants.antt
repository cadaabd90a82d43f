use Rattle.std.proofs.Common.{◌≡◌, ℕ, ◌<◌, true, Some, slice_get}
use Rattle.lc_record.specs.Record.{IsRecord}
use Rattle.lc_record.specs.declared.record.Lock.{Lock}
use Rattle.lc_record.specs.declared.record.Record.{Record}
use Rattle.lc_model.specs.State.{Setting, State}
use Rattle.lc_settled.specs.Numbers.{Numbers, is_applied}
use Rattle.lc_events.specs.Trimming.{AllFit}
use Rattle.lc_journal.specs.Trimming.{AreKnown}
use Rattle.lc_events.proofs.trimming.are_locks_applied.Given as goal

abbrev pub invariant-loop-index : goal.invariant-loop-index
invariant-loop-index g l =
    (m : Setting) (s : State) (x : Numbers) (r : Record) → AllFit g.D.Area m l.nodes s x → IsRecord r l.words → AreKnown m r.locks → (k : ℕ) → k < l.index
    → (lock : Lock) → slice_get r.locks k ≡ Some lock → is_applied m.geometry x lock ≡ true
