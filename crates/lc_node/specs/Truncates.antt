-- Of a node: what a truncation does to the segments that it holds, and to the log.
use Rattle.std.specs.Prelude.{◌≡◌, ◌⊎◌, ℕ, Bool, false, List, All, length, map, take}
use Rattle.lc_disk.specs.declared.area.Area.{Ghosts}
use Rattle.lc_record.specs.Marks.{counting}
use Rattle.lc_tx.specs.Tx.{IsSetOf}
use Rattle.lc_log_side.specs.Halting.{IsUntruncatable}
use Rattle.lc_node.specs.Held.{IsHeldOf}
use Rattle.lc_log_side.specs.LogView.{LogView}
use Rattle.lc_node.specs.Logs.{IsLogOf}
use Rattle.lc_log_side.specs.Receipts.{IsOfDevice}
use Rattle.lc_log_side.specs.Resets.{IsSpent}
use Rattle.lc_node.specs.Trimming.{ForgetsAlone}
use Rattle.lc_segments.specs.declared.held.HeldSide.{HeldSide}
use Rattle.lc_node.specs.declared.node.Node.{Node}
use Rattle.lc_segments.specs.declared.node_fault.NodeFault.{NodeFault}
use Rattle.lc_segments.specs.declared.node_fault.NodeFault.TheVariants.{NoMemory, Lost, RoundsSpent, Unclean}
use Rattle.lc_log_side.specs.Truncates.{IsUntruncatedInRoom, TruncatesInRoom}

module _ {D : Type 0} where
  -- the node's log served, and was not in its last round
  abbrev pub MayTruncate : Node D → Type 0
  MayTruncate node = (log : LogView D) × IsLogOf node log × (log.is_halted ≡ false) × ¬ IsSpent log

  -- these are all segments of the node, held
  abbrev pub AreAllOf : Node D → List (HeldSide D) → Type 0
  AreAllOf node sides = All (IsHeldOf node) sides × IsSetOf (take (length node.segments.items) (counting 1 16)) (map (λ h. h.side.segment) sides)

module _ {D : Type 0} (a : Ghosts D) where
  -- and where the node is alone, its log forgets the records of the rounds that have ended
  abbrev pub TruncatesAlone : Bool → ℕ → LogView D → List (HeldSide D) → ℕ → LogView D → List (HeldSide D) → Type 0
  TruncatesAlone alone room old olds round new news = (emptied : LogView D) × (TruncatesInRoom a) room old olds round emptied news × ForgetsAlone alone emptied new

  -- Who has no lock knows that there was a log, as it was and became, and that there were these sides

  -- the node's log was truncated with these sides held
  abbrev pub TruncatesHeld : Node D → List (HeldSide D) → ℕ → List (HeldSide D) → Type 0
  TruncatesHeld node olds round news = (old : LogView D) × (new : LogView D) × IsLogOf node old × TruncatesAlone node.is_alone node.stage.room old olds round new news

  -- it was not, for want of memory for the writes, or for a reason that its log had
  abbrev pub IsUntruncatedHeld : Node D → List (HeldSide D) → NodeFault → List (HeldSide D) → Type 0
  IsUntruncatedHeld node olds fault news =
      ((fault ≡ NoMemory) × (news ≡ olds))
      ⊎ ((old : LogView D) × (new : LogView D) × IsLogOf node old × (IsUntruncatedInRoom a) node.stage.room old olds fault new news)

  -- all segments of the node were held, and its log was truncated
  pub record HasTruncated (node : Node D) (round : ℕ) : Type 0 where
    pub olds : List (HeldSide D)
    pub news : List (HeldSide D)
    pub all : AreAllOf node olds
    pub truncates : TruncatesHeld node olds round news

  -- its log could not be truncated at all; or it could, and then there was no memory, or it was refused with all segments held
  abbrev pub HasNotTruncated : Node D → NodeFault → Type 0
  HasNotTruncated node fault =
      ((log : LogView D) × IsLogOf node log × IsUntruncatable log fault)
      ⊎ (MayTruncate node × ((fault ≡ NoMemory)
      ⊎ ((olds : List (HeldSide D)) × (news : List (HeldSide D)) × AreAllOf node olds × IsUntruncatedHeld node olds fault news)))

-- why a truncation is refused
abbrev pub IsOfTruncation : NodeFault → Type 0
IsOfTruncation fault =
    (fault ≡ NoMemory)
    ⊎ (IsOfDevice fault ⊎ ((fault ≡ RoundsSpent) ⊎ (((segment : ℕ) × (seq : ℕ) × (fault ≡ Unclean segment seq)) ⊎ ((seen : ℕ) × (fault ≡ Lost seen)))))
