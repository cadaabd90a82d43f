use Rattle.std.proofs.Common.{◌≡◌, ◌≤◌, ℕ, ◌+◌, Some, vec_len, vec_capacity}
use Rattle.std.specs.Prelude.{slice_get}
use Rattle.lc_node.specs.FreshNode.{IsFreshNode}
use Rattle.lc_node.specs.Rooms.{AreRoomsFor}
use Rattle.lc_node.specs.Shares.{AreRest}
use Rattle.lc_node.specs.declared.fresh_node.FreshNode.{FreshNode}
use Rattle.lc_node.proofs.store_room.StoreRoom.fill.Given as goal

abbrev pub invariant-loop-number : goal.invariant-loop-number
invariant-loop-number g l = record {
  rooms_left : vec_len l.rooms + l.number ≡ vec_len l.fn.self.nodes;
  logs_left : vec_len l.logs + l.number ≡ l.fn.recovered.geometry.nodes;
  page_count : vec_len l.pages ≡ l.fn.recovered.geometry.segments;
  up : vec_len l.fresh ≡ l.number;
  space : vec_len l.fn.self.nodes ≤ vec_capacity l.fresh;
  rooms : AreRoomsFor l.fn.recovered l.rooms.items;
  logs : (k : ℕ) (area : g.row.D.Denot) → slice_get l.logs.items k ≡ Some area → slice_get l.fn.recovered.areas (l.number + k) ≡ Some area;
  pages : AreRest l.fn.recovered l.number (vec_len l.fn.self.nodes) l.pages.items;
  each : (number : ℕ) (f : FreshNode g.row.D.Denot) → slice_get l.fresh.items number ≡ Some f → IsFreshNode l.fn.recovered (vec_len l.fn.self.nodes) number f;
}
