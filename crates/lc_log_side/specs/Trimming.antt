-- Of a log under its lock: what a log forgets of the rounds that have ended.
use Rattle.std.specs.Prelude.{◌≡◌, ℕ, ◌+◌, ◌≤◌, List, [], length, All}
use Rattle.lc_log_side.specs.Trims.{Trims}
use Rattle.lc_log.specs.LogText.{IsWhole, joined}
use Rattle.lc_record.specs.declared.record.Record.{Record}
use Rattle.lc_log_side.specs.LogView.{LogView}

module _ {D : Type 0} where
  -- other words of the ended rounds are kept, as many as are not gone, and there is not less room; the rest is as it was
  abbrev pub SameButEnded : LogView D → LogView D → Type 0
  SameButEnded old new =
      (new ≡ record old { ended = new.ended; gone = new.gone; ended_room = new.ended_room })
      × (new.gone + length new.ended ≡ old.gone + length old.ended) × (old.ended_room ≤ new.ended_room)

  -- so many records in front were dropped, by these numbers, which are others afterwards
  abbrev pub TrimsLog : List ℕ → List ℕ → LogView D → ℕ → LogView D → List ℕ → Type 0
  TrimsLog applied dropped old count new after =
      SameButEnded old new × ((records : List Record) → All IsWhole records → old.ended ≡ joined records → Trims applied dropped records count new.ended after)

  -- all of them were
  abbrev pub ForgetsEnded : LogView D → LogView D → Type 0
  ForgetsEnded old new = SameButEnded old new × (new.ended ≡ [])
