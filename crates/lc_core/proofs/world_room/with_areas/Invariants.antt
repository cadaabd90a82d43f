use Rattle.std.proofs.Common.{◌≡◌, ◌+◌, ◌*◌, ◌≤◌, ◌++◌, ℕ, map, length, Some, vec_len, vec_capacity}
use Rattle.std.specs.Prelude.{slice_get}
use Rattle.std.specs.Global.{Vec}
use Rattle.lc_desk.specs.PageState.{AreNamed}
use Rattle.lc_core.specs.Pages.{areas_of}
use Rattle.lc_desk.specs.declared.page_state.PageState.{PageState}
use Rattle.lc_desk.specs.declared.pages.Pages.{Pages}
use Rattle.lc_core.proofs.world_room.with_areas.Given as goal

abbrev pub invariant-loop : goal.invariant-loop
invariant-loop g l = record {
  areas : areas_of g.D.Area l.segments.items ++ l.areas.items ≡ l.fn.areas.items;
  writes : map (λ (pages : Pages g.row.D.Denot g.D.Area). pages.writes) l.segments.items ++ l.writes.items ≡ l.fn.writes.items;
  done : vec_len l.segments ≡ l.counter;
  left : vec_len l.areas + l.counter ≡ vec_len l.fn.areas;
  left_writes : vec_len l.writes + l.counter ≡ vec_len l.fn.writes;
  place : vec_capacity l.segments ≡ vec_capacity l.fn.segments;
  room : vec_capacity l.areas ≡ vec_capacity l.fn.areas;
  long : (k : ℕ) (area : g.row.D.Denot) (states : Vec PageState) → slice_get l.areas.items k ≡ Some area → slice_get l.writes.items k ≡ Some states
      → 2 * 272 * vec_len states ≤ length (g.D.Area.now area);
  named : (k : ℕ) (states : Vec PageState) → slice_get l.writes.items k ≡ Some states → AreNamed states.items;
}
