-- Of a node: the token of a segment leaves it, on a line to a peer.
use Rattle.std.specs.Prelude.{◌≡◌, ◌⊎◌, ◌↔◌, ℕ, ◌+◌, ◌*◌, true, false, None, Ok, Err, OnErr, Result, length}
use Rattle.lc_disk.specs.declared.area.Area.{Ghosts}
use Rattle.lc_stage.specs.Seats.{commit_view}
use Rattle.lc_applied.specs.AppliedParts.{laid_parts}
use Rattle.lc_segments.specs.Journey.{Journey}
use Rattle.lc_segments.specs.Leaving.{HasFailed, IsJourneyFrom, IsServing, IsUnleft, without_token}
use Rattle.lc_segments.specs.Pages.{FitsToken}
use Rattle.lc_segments.specs.SegView.{SegView}
use Rattle.lc_log_side.specs.LogView.{LogView}
use Rattle.lc_node.specs.Logs.{IsLogOf}
use Rattle.lc_node.specs.declared.node.Node.{Node}
use Rattle.lc_segments.specs.declared.node_fault.NodeFault.{NodeFault}
use Rattle.lc_segments.specs.declared.node_fault.NodeFault.TheVariants.{ChannelFull, Halted, Token as OfToken}
use Rattle.lc_token.specs.declared.fault.TokenFault.TheVariants.{NotHere, Unflushed}

-- the tail that was loaded is the end of the stable records
abbrev pub IsStableTo : {D : Type 0} → LogView D → LogView D → Type 0
IsStableTo old new = (commit_view new.probe).seen ≡ old.round * 65536 + length old.stable

-- why the token of this segment does not go to this node
abbrev pub IsUngiven : ℕ → ℕ → NodeFault → Type 0
IsUngiven segment to fault = IsUnleft segment fault ⊎ (fault ≡ ChannelFull to)

-- Below `sent` says of a token that the line has it, and `unsent` that the line refused one

module _ {D : Type 0} (a : Ghosts D) where
  -- it left, with the area of the pages, whose bytes are the segment's, and the line has it
  pub record LeavesOn (from : ℕ) (sent : Journey D → Type 0) (old new : SegView D) : Type 0 where
    pub journey : Journey D
    pub is_from : IsJourneyFrom old journey
    pub left : journey.left ≡ from
    pub fits : FitsToken a old.since journey.area journey.token (laid_parts old.applied old.base)
    pub gone : new ≡ without_token old
    pub is_sent : sent journey

  -- a node parted with the token, or refused to: the answer, and what became of the segment's side and the log. The log's tail was
  -- loaded, where it serves
  pub record PartsWith (from to : ℕ) (sent : Journey D → Type 0) (unsent : Type 0) (answer : Result (Unit {0}) NodeFault) (old : SegView D) (log : LogView D) (new : SegView D)
      (new_log : LogView D) : Type 0 where
    pub same_log : new_log ≡ record log { probe = new_log.probe }
    pub halted : (answer ≡ Err Halted) ↔ ((log.is_halted ≡ true) ⊎ HasFailed old.pages)
    pub not_here : (answer ≡ Err (OfToken (NotHere old.segment))) ↔ ((log.is_halted ≡ false) × (old.standing.token ≡ None))
    pub unflushed : (answer ≡ Err (OfToken Unflushed)) ↔ ((log.is_halted ≡ false) × IsServing old.pages × (IsStableTo log new_log → ⊥))
    pub full : answer ≡ Err (ChannelFull to) → unsent
    pub given : answer ≡ Ok tt → IsStableTo log new_log × LeavesOn from sent old new
    pub refused : OnErr answer (new ≡ old)
    pub same : (new.segment ≡ old.segment) × (new.image ≡ old.image)

  -- so it was with the segment of this number and the log, under their locks
  pub record PartsWithIn (node : Node D) (segment to : ℕ) (sent : Journey D → Type 0) (unsent : Type 0) (answer : Result (Unit {0}) NodeFault) : Type 0 where
    pub side : SegView D
    pub of_segment : side.segment ≡ segment
    pub log : LogView D
    pub own : IsLogOf node log
    pub new_side : SegView D
    pub new_log : LogView D
    pub parts : PartsWith node.number to sent unsent answer side log new_side new_log

module _ {D : Type 0} where
  -- the node has no such segment: so it is answered where its log serves
  pub record LacksToken (node : Node D) (segment : ℕ) (answer : Result (Unit {0}) NodeFault) : Type 0 where
    pub log : LogView D
    pub own : IsLogOf node log
    pub halted : (answer ≡ Err Halted) ↔ (log.is_halted ≡ true)
    pub not_here : (answer ≡ Err (OfToken (NotHere segment))) ↔ (log.is_halted ≡ false)
