use Rattle.std.proofs.Common.{◌≡◌, ◌+◌, ◌++◌, drop, take, vec_capacity, vec_len}
use Rattle.lc_core.specs.Pages.{areas_of}
use Rattle.lc_core.proofs.lives.with_segments.Given as goal

abbrev pub invariant-loop : goal.invariant-loop
invariant-loop g l = record {
  rest : l.segments.items ≡ drop l.counter l.fn.segments.items;
  areas : l.areas.items ≡ l.fn.areas.items ++ take l.counter (areas_of g.D.Area l.fn.segments.items);
  count : vec_len l.areas ≡ vec_len l.fn.areas + l.counter;
  room : vec_capacity l.areas ≡ vec_capacity l.fn.areas;
}
