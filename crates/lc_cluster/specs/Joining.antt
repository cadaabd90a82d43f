-- What a cluster takes of memory before its nodes come up.
use Rattle.std.specs.Prelude.{◌≡◌, ◌≤◌, ℕ, [], All, vec_capacity, vec_len}
use Rattle.lc_cluster.specs.Keys.{AreWiredAs, HasOneKey, wired_in}
use Rattle.lc_cluster.specs.declared.joining.ClusterRoom.{ClusterRoom}

module _ {D : Type 0} where
  -- a post for each node, with a place for each node and each seat
  pub record IsRoomFor (nodes : ℕ) (room : ClusterRoom D) : Type 0 where
    pub few : nodes ≤ 65535
    pub count : vec_len room.posts ≡ nodes
    pub wired : AreWiredAs nodes (wired_in room.posts.items)
    pub one_key : All HasOneKey room.posts.items
    pub no_member : room.members.items ≡ []
    pub members : nodes ≤ vec_capacity room.members
    pub no_seat : room.seats.items ≡ []
    pub seats : nodes ≤ vec_capacity room.seats
