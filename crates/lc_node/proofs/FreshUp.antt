-- How the nodes of a recovered store come up: what they are before, and what they are then.
use Rattle.std.proofs.Common.{◌≡◌, ℕ, ◌+◌, ◌<◌, All, List, Option, Some, length, sym, ap, ◌∙◌, arith}
use Rattle.std.specs.Prelude.{slice_get}
use Rattle.std.proofs.lemmas.Option.{slice_get_within}
use Rattle.lc_recover.specs.Recovered.{RecoveredStore}
use Rattle.lc_segments.specs.SegView.{SegView}
use Rattle.lc_stage.specs.Seats.{commit_view}
use Rattle.lc_stage.specs.declared.seats.CommitSeat.{CommitSeat}
use Rattle.lc_stage.specs.declared.stage.Stage.{Stage}
use Rattle.lc_token.specs.declared.token.Token.{Token}
use Rattle.lc_node.specs.Fresh.{fresh_token, served}
use Rattle.lc_node.specs.FreshNode.{AreFreshNodes, ComesUp, ComeUp, IsFreshNode}
use Rattle.lc_node.specs.FreshSegment.{area_of, IsFreshSegment}
use Rattle.lc_node.specs.OpenedNode.{IsOpened, StandByNumber}
use Rattle.lc_node.specs.Rooms.{IsFilledAt, IsRoomOf}
use Rattle.lc_node.specs.Shares.{AreRest}
use Rattle.lc_node.specs.declared.fresh_node.FreshNode.{FreshNode}
use Rattle.lc_node.specs.declared.fresh_segment.FreshSegment.{FreshSegment}
use Rattle.lc_node.specs.declared.opening.OpenedNode.{OpenedNode}
use Rattle.lc_node.specs.declared.seg_room.SegRoom.{SegRoom}
use Rattle.lc_node.proofs.Joined.{all_from_each}
use Rattle.lc_node.proofs.Sharing.{takes}

module _ {D : Type 0} (r : RecoveredStore D) (nodes : ℕ) where
  -- the segment that a node makes of its room and its area
  pub fresh_at : (number : ℕ) (pages : List (Option D)) → AreRest r number nodes pages → (rooms : List (SegRoom D))
      → ((place : ℕ) (room : SegRoom D) → slice_get rooms place ≡ Some room → IsRoomOf r (place + 1) room) → length rooms ≡ r.geometry.segments
      → (place : ℕ) (s : FreshSegment D) → IsFilledAt number nodes place rooms pages s → IsFreshSegment r nodes number place s
  fresh_at number pages rest rooms each count place s its =
      let room = each place its.room its.room_at in
      let within : place < r.geometry.segments = omega (arith, slice_get_within rooms place its.room its.room_at, count) in
      record {
        image = room.image;
        base = room.base;
        image_bytes = room.image_bytes;
        base_bytes = room.base_bytes;
        side = its.side
            ∙ ap (λ (o : Option D). served its.room.token o its.room.side) (takes r nodes number pages rest place within its.area its.area_at)
            ∙ ap (λ (t : Token). served t (area_of r nodes number place) its.room.side) room.token
            ∙ ap (λ (v : SegView D). served (fresh_token r (place + 1)) (area_of r nodes number place) v) room.side;
      }

  pub is_opened : (number : ℕ) (fresh : FreshNode D) (made : OpenedNode D) → IsFreshNode r nodes number fresh → ComesUp fresh made → IsOpened r made
  is_opened number fresh made its up = (
    ap (λ (seat : CommitSeat). seat.seat.table_id) up.parts.own_seat ∙ its.own_seat ∙ sym (ap (λ (stage : Stage). stage.table.shared.table_id) up.parts.stage),
    ap commit_view up.parts.own_seat ∙ its.new_seat,
    ap (λ (stage : Stage). stage.room) up.parts.stage ∙ its.room,
    omega (arith, made.node.segments.ok.0, up.parts.count, its.count),
    up.peers,
    up.geometry ∙ its.geometry,
  )

  module _ (fresh : List (FreshNode D)) (all : AreFreshNodes r nodes fresh) (made : List (OpenedNode D)) (up : ComeUp fresh made) where
    pub all_opened : All (IsOpened r) made
    all_opened = all_from_each (IsOpened r) made (λ place m got. (let its = up.each place m got in is_opened place its.0 m (all.each place its.0 its.1) its.2))

    pub numbers_stand : StandByNumber made
    numbers_stand place m got = (let its = up.each place m got in its.2.parts.number ∙ (all.each place its.0 its.1).own_number)
