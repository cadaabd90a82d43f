-- Of a log under its lock: what a truncation does to the segments that it holds, and to the log.
use Rattle.std.specs.Prelude.{◌≡◌, ◌⊎◌, ℕ, ◌*◌, ◌<◌, ◌≤◌, true, false, List, [], ◌∷◌, length, Option, Some, None, slice_get}
use Rattle.lc_disk.specs.declared.area.Area.{Ghosts}
use Rattle.lc_token.specs.declared.token.Token.{Token}
use Rattle.lc_token.specs.KnownClean.{Sees}
use Rattle.lc_segments.specs.Each.{Each}
use Rattle.lc_log_side.specs.EndedRoom.{LacksRoom, MakesRoom}
use Rattle.lc_log_side.specs.Flushes.{Flushes, IsUnflushed}
use Rattle.lc_log_side.specs.Halting.{IsUntruncatable}
use Rattle.lc_log_side.specs.LogView.{LogView}
use Rattle.lc_log_side.specs.Resets.{Empties, IsSpent, IsUnemptied}
use Rattle.lc_segments.specs.declared.held.HeldSide.{HeldSide}
use Rattle.lc_segments.specs.declared.node_fault.NodeFault.{NodeFault}
use Rattle.lc_segments.specs.declared.node_fault.NodeFault.TheVariants.{NoMemory}
use Rattle.lc_segments.specs.Truncates.{FailsPages, WritesPages}

-- what the token calls clean is seen, if it is here
abbrev pub SeesToken : List ℕ → Option Token → List ℕ → Type 0
SeesToken old None new = new ≡ old
SeesToken old (Some token) new = Sees old token new

module _ {D : Type 0} where
  -- the same of a held side, whose lock and image stay
  abbrev pub IsSameHeld : HeldSide D → HeldSide D → Type 0
  IsSameHeld h g = (g ≡ record h { side = g.side }) × (g.side.segment ≡ h.side.segment) × (g.side.image ≡ h.side.image)

  -- the pages of the segment fit into so many places
  abbrev pub HasPagesIn : ℕ → HeldSide D → Type 0
  HasPagesIn places h = length h.side.base ≤ places * 256

  -- of each of these segments, one after another
  abbrev pub SeesSides : List ℕ → List (HeldSide D) → List ℕ → Type 0
  SeesSides old [] new = new ≡ old
  SeesSides old (h ∷ hs) new = (next : List ℕ) × SeesToken old h.side.standing.token next × SeesSides next hs new

module _ {D : Type 0} (a : Ghosts D) where
  abbrev pub WritesSide : HeldSide D → HeldSide D → Type 0
  WritesSide h g = (g ≡ record h { side = g.side }) × (WritesPages a) h.side g.side

  -- the pages of one of these segments fail; those in front of it are written, and those after it are as they were
  pub record FailsSides (olds : List (HeldSide D)) (fault : NodeFault) (news : List (HeldSide D)) : Type 0 where
    pub place : ℕ
    pub same_length : length news ≡ length olds
    pub front : (k : ℕ) (h g : HeldSide D) → k < place → slice_get olds k ≡ Some h → slice_get news k ≡ Some g → WritesSide h g
    pub behind : (k : ℕ) → place < k → slice_get news k ≡ slice_get olds k
    pub old : HeldSide D
    pub new : HeldSide D
    pub was : slice_get olds place ≡ Some old
    pub is : slice_get news place ≡ Some new
    pub same : new ≡ record old { side = new.side }
    pub fails : (FailsPages a) old.side fault new.side

  -- the log is flushed, the pages of the segments are written, the log sees what is clean then, and is emptied
  pub record Truncates (room : ℕ) (old : LogView D) (olds : List (HeldSide D)) (round : ℕ) (new : LogView D) (news : List (HeldSide D)) : Type 0 where
    pub count : ℕ
    pub flushed : LogView D
    pub flushes : Flushes room old count flushed
    pub written : Each WritesSide olds news
    pub known : List ℕ
    pub sees : SeesSides flushed.known news known
    pub empties : Empties (record flushed { known = known }) round new

  -- its flush failed, the pages of a segment did, so that it serves no more, or it could not be emptied
  abbrev pub IsUntruncated : ℕ → LogView D → List (HeldSide D) → NodeFault → LogView D → List (HeldSide D) → Type 0
  IsUntruncated room old olds fault new news =
      (IsUnflushed a old fault new × (news ≡ olds))
      ⊎ ((count : ℕ) × (flushed : LogView D) × Flushes room old count flushed
      × ((FailsSides olds fault news × (new ≡ record flushed { is_halted = true }))
      ⊎ ((known : List ℕ) × Each WritesSide olds news × SeesSides flushed.known news known × IsUnemptied (record flushed { known = known }) fault new)))

  -- the same, once there is room for the words of its round
  abbrev pub TruncatesInRoom : ℕ → LogView D → List (HeldSide D) → ℕ → LogView D → List (HeldSide D) → Type 0
  TruncatesInRoom room old olds round new news = (roomy : LogView D) × MakesRoom old roomy × Truncates room roomy olds round new news

  -- it may not be truncated at all, or it may and that room could not be made, and nothing has changed; or it was, and then the
  -- truncation was refused
  abbrev pub IsUntruncatedInRoom : ℕ → LogView D → List (HeldSide D) → NodeFault → LogView D → List (HeldSide D) → Type 0
  IsUntruncatedInRoom room old olds fault new news =
      (IsUntruncatable old fault × (new ≡ old) × (news ≡ olds))
      ⊎ (((fault ≡ NoMemory) × (old.is_halted ≡ false) × (¬ IsSpent old) × LacksRoom old new × (news ≡ olds))
      ⊎ ((roomy : LogView D) × MakesRoom old roomy × IsUntruncated room roomy olds fault new news))
