-- What other threads leave of what an open transaction reads.
use Rattle.std.specs.Prelude.{◌≡◌, ◌≢◌, ℕ, List, Some}
use Rattle.lc_record.specs.Content.{put, segment_of}
use Rattle.lc_record.specs.Marks.{written}
use Rattle.lc_record.specs.Transaction.{Transaction}
use Rattle.lc_model.specs.Machine.{seen}
use Rattle.lc_model.specs.State.{State, Setting, Up, running_of}
use Rattle.lc_model.specs.declared.event.Event.{Event}
use Rattle.lc_model.specs.declared.event.Event.TheVariants.{Begin, SetRange, Write, Read, Abort, Reserve, Close, Stop}

-- another thread than this one
abbrev pub IsOther : ℕ → ℕ → ℕ → ℕ → Type 0
IsOther node thread n k = n ≡ node → k ≡ thread → ⊥

-- an event that is not of this thread, and no stop
abbrev pub IsOfOthers : ℕ → ℕ → Event → Type 0
IsOfOthers node thread (Begin n k segments reading) = IsOther node thread n k
IsOfOthers node thread (SetRange n k segment offset len) = IsOther node thread n k
IsOfOthers node thread (Write n k segment offset bytes) = IsOther node thread n k
IsOfOthers node thread (Read n k segment offset len) = IsOther node thread n k
IsOfOthers node thread (Abort n k) = IsOther node thread n k
IsOfOthers node thread (Reserve n k) = IsOther node thread n k
IsOfOthers node thread (Close n k) = IsOther node thread n k
IsOfOthers node thread (Stop choices) = ⊥
IsOfOthers node thread event = Unit {0}

-- the thread's transaction is open as it was, and would read the same of the segment
pub record SeesSame (m : Setting) (s : State) (node thread segment : ℕ) (t : Transaction) (new : State) : Type 0 where
  pub up : new.phase ≡ Up
  pub runs : running_of node thread new ≡ Some t
  pub sees : segment_of segment (seen m.start new t) ≡ segment_of segment (seen m.start s t)

-- the thread's transaction has this write last: it would read the bytes over those of the segment, and the same of each other segment
pub record Writes (m : Setting) (s : State) (node thread segment offset : ℕ) (bytes : List ℕ) (t : Transaction) (new : State) : Type 0 where
  pub runs : running_of node thread new ≡ Some (written t segment offset bytes)
  pub sees : segment_of segment (seen m.start new (written t segment offset bytes)) ≡ put offset bytes (segment_of segment (seen m.start s t))
  pub others : (other : ℕ) → other ≢ segment → segment_of other (seen m.start new (written t segment offset bytes)) ≡ segment_of other (seen m.start s t)
