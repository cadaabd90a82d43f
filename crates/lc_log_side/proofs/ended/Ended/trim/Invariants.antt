use Rattle.std.proofs.Common.{◌≡◌, ◌≤◌, ◌+◌, List, length, All}
use Rattle.lc_log.specs.LogText.{IsWhole, joined}
use Rattle.lc_record.specs.declared.record.Record.{Record}
use Rattle.lc_log_side.specs.Trims.{Drops}
use Rattle.lc_log_side.proofs.ended.Ended.trim.Given as goal

abbrev pub invariant-loop-count : goal.invariant-loop-count
invariant-loop-count l =
    ((rs : List Record) → All IsWhole rs → l.initial.self.words ≡ joined rs → Drops l.applied l.initial.dropped rs l.count l.self.words l.dropped)
    × (l.self.gone + length l.self.words ≡ l.initial.self.gone + length l.initial.self.words)
    × (l.initial.self.room ≤ l.self.room)
    × (l.count + length l.self.words ≤ length l.initial.self.words)

abbrev pub decreases-loop-count : goal.decreases-loop-count
decreases-loop-count l = length l.self.words
