use Rattle.std.proofs.Common.{◌≡◌, ℕ, ◌+◌, ◌<◌, length, Option, Some, vec_len, vec_capacity}
use Rattle.std.specs.Prelude.{slice_get}
use Rattle.lc_node.proofs.areas.Areas.new.Given as goal

abbrev pub invariant-loop : goal.invariant-loop
invariant-loop g l = record {
  done : vec_len l.pages ≡ l.counter;
  left : vec_len l.logs + l.counter ≡ length l.fn.recovered.areas;
  space : vec_capacity l.pages ≡ vec_capacity l.fn.places;
  logs : (k : ℕ) (area : g.row.D.Denot) → k < l.fn.recovered.geometry.nodes → slice_get l.logs.items k ≡ Some area → slice_get l.fn.recovered.areas k ≡ Some area;
  behind : (k : ℕ) (area : g.row.D.Denot) → slice_get l.logs.items (l.fn.recovered.geometry.nodes + k) ≡ Some area → slice_get l.fn.recovered.areas (l.fn.recovered.geometry.nodes + (l.counter + k)) ≡ Some area;
  pages : (k : ℕ) (area : Option g.row.D.Denot) → slice_get l.pages.items k ≡ Some area → area ≡ slice_get l.fn.recovered.areas (l.fn.recovered.geometry.nodes + k);
}
