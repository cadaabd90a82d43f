-- Of a log under its lock: what a cluster leaves once its threads have ended.
use Rattle.std.specs.Prelude.{◌≡◌, ◌≢◌, ◌<◌, ◌≤◌, ℕ, ◌++◌, List, [], ◌∷◌, false, All}
use Rattle.lc_disk.specs.declared.area.Area.{Ghosts}
use Rattle.lc_stage.specs.Seats.{commit_view, flush_view, IsIdle, IsSeatOf, OnlyTakes, EndsAt}
use Rattle.lc_stage.specs.Staging.{Owns, end_of}
use Rattle.lc_stage.specs.declared.seats.CommitSeat.{CommitSeat}
use Rattle.lc_stage.specs.declared.stage.Stage.{Stage}
use Rattle.lc_stage.specs.declared.stage_view.Reservation.{Reservation}
use Rattle.lc_stage.specs.declared.stage_view.StageView.{StageView}
use Rattle.lc_token.specs.KnownClean.{known as known_of}
use Rattle.lc_token.specs.Reset.{AreKnown}
use Rattle.lc_rest.specs.declared.node_part.NodePart.{NodePart}
use Rattle.lc_log_side.specs.Among.{IsAmong}
use Rattle.lc_log_side.specs.LogView.{LogView}

-- Seats

-- it is a committer's seat of this stage, with nothing open
abbrev pub IsIdleSeatOf : Stage → CommitSeat → Type 0
IsIdleSeatOf stage seat = IsSeatOf stage seat × IsIdle (commit_view seat)

-- where the record of a reservation is, in a round with these stable words: it stands among them, where it was reserved in this
-- round; else it was in an earlier one, and its numbers are known clean
pub record IsReceived (round : ℕ) (stable known : List ℕ) (r : Reservation) : Type 0 where
  pub here : r.round ≡ round → (index : ℕ) × IsAmong stable index r.place r.words
  pub earlier : r.round ≢ round → (r.round < round) × AreKnown r.words (known_of known)

-- each of which one of the seats has a receipt
abbrev pub AreReceived : ℕ → List ℕ → List ℕ → List CommitSeat → Type 0
AreReceived round stable known seats = All (λ (seat : CommitSeat). (r : Reservation) → Owns (commit_view seat).receipts r → IsReceived round stable known r) seats

-- Logs

module _ {D : Type 0} where
  -- these are the words that a take finds staged for the log, and the flusher's view once it has taken them
  pub record IsTake (room : ℕ) (log : LogView D) (taking : StageView) (words : List ℕ) : Type 0 where
    pub takes : OnlyTakes (flush_view log.flusher) taking
    pub words_are : taking.taken ≡ (flush_view log.flusher).taken ++ words
    pub ends : EndsAt room (flush_view log.flusher) taking

  -- the log serves, and these words are all that is staged for it: up to each tail that it has seen
  pub record AreAllStaged (room : ℕ) (log : LogView D) (words : List ℕ) : Type 0 where
    pub serves : log.is_halted ≡ false
    pub taking : StageView
    pub take : IsTake room log taking words
    pub all : (commit_view log.probe).seen ≤ end_of taking

module _ {D : Type 0} (a : Ghosts D) where
  -- Logs

  -- the part has what the log had, and after its stable words all that was closed is staged
  pub record LeavesLog (room : ℕ) (log : LogView D) (part : NodePart D a) : Type 0 where
    pub area : log.area ≡ part.log.area ∷ []
    pub round : part.round ≡ log.round
    pub ended : part.ended.items ≡ log.ended
    pub stable : part.stable.items ≡ log.stable
    pub known : part.known ≡ log.known
    pub staged : AreAllStaged room log part.staged.items
