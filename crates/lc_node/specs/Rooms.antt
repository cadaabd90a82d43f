-- The memory of a node and its segments, before their areas are there.
use Rattle.std.specs.Prelude.{◌≡◌, ◌≢◌, ℕ, ◌+◌, ◌*◌, ◌%◌, ◌≤◌, true, false, List, [], length, Option, Some, IsSome, slice_get, slice_index, vec_capacity, vec_len}
use Rattle.std.specs.Global.{Vec}
use Rattle.lc_disk.specs.declared.area.Area.{Ghosts}
use Rattle.lc_lock.specs.Loans.{key_of}
use Rattle.lc_recover.specs.Recovered.{RecoveredStore, sequence_of}
use Rattle.lc_stage.specs.Seats.{commit_view}
use Rattle.lc_stage.specs.Staging.{newcomer}
use Rattle.lc_node.specs.Fresh.{HasWholePages, fresh_token, segment_bytes, served}
use Rattle.lc_node.specs.Shares.{taken_at}
use Rattle.lc_segments.specs.Fresh.{elsewhere_side}
use Rattle.lc_segments.specs.Pages.{FitsToken}
use Rattle.lc_segments.specs.SegView.{SegView}
use Rattle.lc_applied.specs.AppliedParts.{laid_parts}
use Rattle.lc_node.specs.declared.fresh_segment.FreshSegment.{FreshSegment}
use Rattle.lc_node.specs.declared.node_room.NodeRoom.{NodeRoom}
use Rattle.lc_node.specs.declared.seg_room.SegRoom.{SegRoom}
use Rattle.lc_node.specs.declared.store_room.StoreRoom.{StoreRoom}

module _ {D : Type 0} where
  -- that of a segment of a recovered store: its bytes, twice, its token, and its lock
  pub record IsRoomOf (r : RecoveredStore D) (segment : ℕ) (room : SegRoom D) : Type 0 where
    pub key : key_of room.lock.lock ≡ segment
    pub image : Vec ℕ
    pub base : Vec ℕ
    pub side : room.side ≡ elsewhere_side segment (sequence_of r segment) image base
    pub image_bytes : image.items ≡ segment_bytes r segment
    pub base_bytes : base.items ≡ segment_bytes r segment
    pub token : room.token ≡ fresh_token r segment
    pub whole : HasWholePages r segment

  -- the segment may come up where its token is not
  pub record IsOfSegment (segment : ℕ) (room : SegRoom D) : Type 0 where
    pub key : key_of room.lock.lock ≡ segment
    pub of_side : room.side.segment ≡ segment
    pub here : IsSome room.side.image

  -- so may each, in their order from segment 1 on
  abbrev pub AreOfSegments : List (SegRoom D) → Type 0
  AreOfSegments rooms = (place : ℕ) (room : SegRoom D) → slice_get rooms place ≡ Some room → IsOfSegment (place + 1) room

  -- the segment of this room, with its token on this area, and without both where there is none
  abbrev pub side_on : SegRoom D → Option D → SegView D
  side_on room area = served room.token area room.side

  -- what a node makes of the room and the area at this place
  pub record IsFilledAt (number nodes place : ℕ) (rooms : List (SegRoom D)) (areas : List (Option D)) (s : FreshSegment D) : Type 0 where
    pub room : SegRoom D
    pub area : Option D
    pub room_at : slice_get rooms place ≡ Some room
    pub area_at : slice_get areas place ≡ Some area
    pub side : s.side ≡ side_on room (taken_at number nodes place area)

  -- so it does at each place
  abbrev pub AreFilled : ℕ → ℕ → List (SegRoom D) → List (Option D) → List (FreshSegment D) → Type 0
  AreFilled number nodes rooms areas fresh = (place : ℕ) (s : FreshSegment D) → slice_get fresh place ≡ Some s → IsFilledAt number nodes place rooms areas s

  -- that of a node of a recovered store
  pub record IsRoomFor (r : RecoveredStore D) (room : NodeRoom D) : Type 0 where
    pub words : room.log.stage.room ≡ r.geometry.words
    pub seat : commit_view room.log.seat ≡ newcomer r.geometry.words
    pub count : vec_len room.segments ≡ r.geometry.segments
    pub each : (place : ℕ) (s : SegRoom D) → slice_get room.segments.items place ≡ Some s → IsRoomOf r (place + 1) s
    pub none_filled : room.fresh.items ≡ []
    pub places : r.geometry.segments ≤ vec_capacity room.fresh
    pub empty : room.locks.items ≡ []
    pub space : r.geometry.segments ≤ vec_capacity room.locks

  -- that of each of some nodes
  abbrev pub AreRoomsFor : RecoveredStore D → List (NodeRoom D) → Type 0
  AreRoomsFor r rooms = (node : ℕ) (room : NodeRoom D) → slice_get rooms node ≡ Some room → IsRoomFor r room

  -- that of so many nodes, with a place for the area of each segment
  pub record IsStoreRoom (r : RecoveredStore D) (nodes : ℕ) (room : StoreRoom D) : Type 0 where
    pub count : vec_len room.nodes ≡ nodes
    pub each : AreRoomsFor r room.nodes.items
    pub no_area : room.places.items ≡ []
    pub space : r.geometry.segments ≤ vec_capacity room.places
    pub none_filled : room.fresh.items ≡ []
    pub seats : nodes ≤ vec_capacity room.fresh

module _ {D : Type 0} (a : Ghosts D) where
  -- the segment may come up on this area
  pub record FitsRoom (room : SegRoom D) (area : D) : Type 0 where
    pub of_token : room.token.segment ≡ room.side.segment
    pub number : room.token.seq ≡ room.side.backlog.applied
    pub fits : FitsToken a room.side.since area room.token (laid_parts room.side.applied room.side.base)

  -- whichever area stands at the place of a segment fits its room
  abbrev pub FitRooms : List (SegRoom D) → List (Option D) → Type 0
  FitRooms rooms areas = (place : ℕ) (room : SegRoom D) (area : D) → slice_get rooms place ≡ Some room → slice_get areas place ≡ Some (Some area) → FitsRoom room area

  -- an empty log of so many words may come up on this area
  pub record FitsLog (words : ℕ) (area : D) : Type 0 where
    pub long : 8 * words + 8 ≤ length (a.now area)
    pub closed : a.honest area ≡ true → slice_index (a.now area) 0 % 256 ≢ 165
    pub clean : a.honest area ≡ true → a.dirty area 0 ≡ false
