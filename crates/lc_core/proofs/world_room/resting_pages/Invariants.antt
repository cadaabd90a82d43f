use Rattle.std.proofs.Common.{◌≡◌, vec_len}
use Rattle.std.specs.Prelude.{replicate}
use Rattle.lc_core.specs.PageState.{AreAtRest}
use Rattle.lc_desk.specs.declared.page_state.PageState.TheVariants.{AtRest}
use Rattle.lc_core.proofs.world_room.resting_pages.Given as goal

abbrev pub invariant-loop-2 : goal.invariant-loop-2
invariant-loop-2 l = l.writes.items ≡ replicate l.counter AtRest

abbrev pub invariant-loop : goal.invariant-loop
invariant-loop l = record {
  count : vec_len l.segments ≡ l.counter;
  rest : AreAtRest l.geometry l.segments.items;
}
