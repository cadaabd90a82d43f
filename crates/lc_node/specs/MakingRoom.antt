-- A commit that makes room in the log where it has none.
use Rattle.std.specs.Prelude.{◌≡◌, ◌⊎◌, ℕ, ◌≤◌, List, All, length, take, drop, IsTrue, Bool, Result, Err}
use Rattle.lc_disk.specs.declared.area.Area.{Ghosts}
use Rattle.lc_record.specs.Transaction.{is_member}
use Rattle.lc_stage.specs.declared.stage_view.StageView.{StageView}
use Rattle.lc_tx.specs.Tx.{IsSetOf}
use Rattle.lc_node.specs.Commits.{CommitsAmong, CommitsOn, GetsNoLock, segments_in}
use Rattle.lc_node.specs.Held.{HasSegment, IsHeldOf}
use Rattle.lc_segments.specs.Ran.{Tells}
use Rattle.lc_node.specs.Transacting.{EndsIn}
use Rattle.lc_node.specs.Truncates.{IsUntruncatedHeld, TruncatesHeld}
use Rattle.lc_node.specs.declared.commit_kind.Commit.{Commit}
use Rattle.lc_node.specs.declared.commit_kind.Mode.{Mode}
use Rattle.lc_segments.specs.declared.held.HeldSide.{HeldSide}
use Rattle.lc_node.specs.declared.node.Node.{Node}
use Rattle.lc_segments.specs.declared.node_fault.NodeFault.{NodeFault}
use Rattle.lc_segments.specs.declared.node_fault.NodeFault.TheVariants.{Full}

-- the log had no room for the record
abbrev pub IsFull : Result Bool NodeFault → Type 0
IsFull result = (tail : ℕ) × (need : ℕ) × (result ≡ Err (Full tail need))

module _ {D : Type 0} where
  -- all segments of the node are held, and the first so many are those that are asked for
  pub record AllHeld (node : Node D) (segments : List ℕ) (count : ℕ) (sides : List (HeldSide D)) : Type 0 where
    pub held : All (IsHeldOf node) sides
    pub few : count ≤ length sides
    pub asked : IsSetOf segments (segments_in (take count sides))
    pub every : (s : ℕ) → HasSegment node s → IsTrue (is_member s (segments_in sides))

module _ {D : Type 0} (a : Ghosts D) where
  -- a commit is done on the first so many of these, and the others stay
  abbrev pub CommitsFirst : Node D → Tells → ℕ → ℕ → List (HeldSide D) → List (HeldSide D) → StageView → StageView → Result Bool NodeFault → Type 0
  CommitsFirst node tells tries count olds news v w result =
      CommitsOn a node tells tries (take count olds) (take count news) v w result × (drop count news ≡ drop count olds)

-- What a work makes of itself in a run, and what it tells of that, is `ran`

module _ {D W : Type 0} (a : Ghosts D) (node : Node D) (ran : W → W → Tells) (tries : ℕ) where
  -- with all segments held the log is emptied, and then it is tried on the first of them; or the log cannot be emptied
  abbrev pub EmptiesAndCommits : ℕ → List (HeldSide D) → W → W → StageView → StageView → Result Bool NodeFault → Type 0
  EmptiesAndCommits count olds x y v w result =
      ((fault : NodeFault) × (news : List (HeldSide D)) × IsUntruncatedHeld a node olds fault news × (result ≡ Err fault) × (y ≡ x) × (w ≡ v))
      ⊎ ((round : ℕ) × (emptied : List (HeldSide D)) × (news : List (HeldSide D)) × TruncatesHeld a node olds round emptied × CommitsFirst a node (ran x y) tries count emptied news v w result)

  -- with all held it is tried on the first of them; where the log has no room, it is emptied, and it is tried again
  abbrev pub CommitsOrEmpties : ℕ → List (HeldSide D) → W → W → StageView → StageView → Result Bool NodeFault → Type 0
  CommitsOrEmpties count olds x y v w result =
      ((news : List (HeldSide D)) × CommitsFirst a node (ran x y) tries count olds news v w result × ¬ IsFull result)
      ⊎ ((z : W) × (u : StageView) × (full : Result Bool NodeFault) × (between : List (HeldSide D)) × CommitsFirst a node (ran x z) tries count olds between v u full × IsFull full
      × EmptiesAndCommits count between z y u w result)

  -- all segments are held for it, or no lock was got
  abbrev pub CommitsAlone : List ℕ → W → W → StageView → StageView → Result Bool NodeFault → Type 0
  CommitsAlone segments x y v w result =
      GetsNoLock node segments x y v w result
      ⊎ ((count : ℕ) × (sides : List (HeldSide D)) × AllHeld node segments count sides × CommitsOrEmpties count sides x y v w result)

  -- it is tried beside others; where the log has no room, with all segments held
  abbrev pub CommitsInRoom : List ℕ → W → W → StageView → StageView → Result Bool NodeFault → Type 0
  CommitsInRoom segments x y v w result =
      (CommitsAmong a node ran tries segments x y v w result × ¬ IsFull result)
      ⊎ ((z : W) × (u : StageView) × (full : Result Bool NodeFault) × CommitsAmong a node ran tries segments x z v u full × IsFull full × CommitsAlone segments z y u w result)

  -- a seat of the node committed a work on these segments in this mode, with room made in the log
  pub record TransactsInRoom (segments : List ℕ) (mode : Mode) (x y : W) (v w : StageView) (result : Result Commit NodeFault) : Type 0 where
    pub between : StageView
    pub done : Result Bool NodeFault
    pub commits : CommitsInRoom segments x y v between done
    pub ends : EndsIn mode between done w result
