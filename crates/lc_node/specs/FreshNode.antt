-- What the nodes of a recovered store are as they come up, before anything stands behind a lock, and what they are then.
use Rattle.std.specs.Prelude.{◌≡◌, ℕ, true, false, List, [], ◌∷◌, length, Some, slice_get, vec_len}
use Rattle.lc_lock.specs.Loans.{key_of}
use Rattle.lc_log_side.specs.LogView.{LogView}
use Rattle.lc_record.specs.Geometry.{HasNumbers}
use Rattle.lc_recover.specs.Recovered.{RecoveredStore}
use Rattle.lc_stage.specs.Seats.{commit_view, flush_view, IsFlusherOf, IsSeatOf}
use Rattle.lc_stage.specs.Staging.{newcomer, flusher}
use Rattle.lc_stage.specs.declared.seats.CommitSeat.{CommitSeat}
use Rattle.lc_stage.specs.declared.stage.Stage.{Stage}
use Rattle.lc_token.specs.KnownClean.{KnowsNothing}
use Rattle.lc_node.specs.FreshSegment.{IsFreshSegment}
use Rattle.lc_node.specs.declared.fresh_node.FreshNode.{FreshNode}
use Rattle.lc_node.specs.declared.fresh_segment.FreshSegment.{FreshSegment}
use Rattle.lc_node.specs.declared.node.Node.{Node}
use Rattle.lc_node.specs.declared.opening.OpenedNode.{OpenedNode}

module _ {D : Type 0} where
  -- an empty log of a stage on this area: flusher and probe are the stage's and have seen nothing, no record is stable or has ended,
  -- and nothing is known clean
  pub record IsFreshLog (stage : Stage) (area : D) (log : LogView D) : Type 0 where
    pub own_flusher : IsFlusherOf stage log.flusher
    pub own_probe : IsSeatOf stage log.probe
    pub new_flusher : flush_view log.flusher ≡ flusher stage.room
    pub new_probe : commit_view log.probe ≡ newcomer stage.room
    pub on_area : log.area ≡ area ∷ []
    pub runs : log.is_halted ≡ false
    pub none_stable : log.stable ≡ []
    pub none_ended : log.ended ≡ []
    pub none_gone : log.gone ≡ 0
    pub no_room : log.ended_room ≡ 0
    pub first_round : log.round ≡ 0
    pub none_known : KnowsNothing log.known

  -- the node of this number, of so many: a new stage with its first seat, an empty log on the area of that number, and each segment
  pub record IsFreshNode (r : RecoveredStore D) (nodes number : ℕ) (fresh : FreshNode D) : Type 0 where
    pub own_number : fresh.number ≡ number
    pub geometry : fresh.geometry ≡ r.geometry
    pub room : fresh.stage.room ≡ r.geometry.words
    pub own_seat : IsSeatOf fresh.stage fresh.seat
    pub new_seat : commit_view fresh.seat ≡ newcomer r.geometry.words
    pub area : D
    pub area_at : slice_get r.areas number ≡ Some area
    pub log : IsFreshLog fresh.stage area fresh.log
    pub count : vec_len fresh.segments ≡ r.geometry.segments
    pub each : (place : ℕ) (s : FreshSegment D) → slice_get fresh.segments.items place ≡ Some s → IsFreshSegment r nodes number place s

  -- so many nodes, each at the place of its number
  pub record AreFreshNodes (r : RecoveredStore D) (nodes : ℕ) (fresh : List (FreshNode D)) : Type 0 where
    pub count : length fresh ≡ nodes
    pub each : (number : ℕ) (f : FreshNode D) → slice_get fresh number ≡ Some f → IsFreshNode r nodes number f

  -- the parts of a node that is up, and its first seat, are those of the node that was to come up
  pub record HasPartsOf (fresh : FreshNode D) (node : Node D) (seat : CommitSeat) : Type 0 where
    pub number : node.number ≡ fresh.number
    pub stage : node.stage ≡ fresh.stage
    pub own_seat : seat ≡ fresh.seat
    pub of_log : key_of node.log ≡ fresh.stage
    pub count : vec_len node.segments ≡ vec_len fresh.segments

  -- it is up, and may have peers
  pub record ComesUp (fresh : FreshNode D) (made : OpenedNode D) : Type 0 where
    pub parts : HasPartsOf fresh made.node made.seat
    pub geometry : made.node.geometry ≡ fresh.geometry
    pub peers : made.node.is_alone ≡ false

  -- it is up as the one node of its store
  pub record ComesUpAlone (fresh : FreshNode D) (node : Node D) (seat : CommitSeat) : Type 0 where
    pub parts : HasPartsOf fresh node seat
    pub geometry : HasNumbers node.geometry 1 fresh.geometry.threads fresh.geometry.segments fresh.geometry.pages fresh.geometry.words
    pub alone : node.is_alone ≡ true

  -- each comes up at its place
  pub record ComeUp (fresh : List (FreshNode D)) (made : List (OpenedNode D)) : Type 0 where
    pub count : length made ≡ length fresh
    pub each : (place : ℕ) (m : OpenedNode D) → slice_get made place ≡ Some m → (f : FreshNode D) × (slice_get fresh place ≡ Some f) × ComesUp f m
