use Rattle.std.proofs.Common.{◌≡◌, ℕ, ◌+◌, Some, vec_len, vec_capacity}
use Rattle.std.specs.Prelude.{slice_get}
use Rattle.lc_node.specs.FreshNode.{ComesUp}
use Rattle.lc_node.specs.declared.fresh_node.FreshNode.{FreshNode}
use Rattle.lc_node.specs.declared.opening.OpenedNode.{OpenedNode}
use Rattle.lc_node.proofs.opening.up_all.Given as goal

abbrev pub invariant-loop : goal.invariant-loop
invariant-loop g l = record {
  left : vec_len l.fresh + l.counter ≡ vec_len l.fn.fresh;
  up : vec_len l.opened ≡ l.counter;
  space : vec_capacity l.opened ≡ vec_capacity l.fn.opened;
  rest : (k : ℕ) (f : FreshNode g.row.D.Denot) → slice_get l.fresh.items k ≡ Some f → slice_get l.fn.fresh.items (l.counter + k) ≡ Some f;
  each : (place : ℕ) (m : OpenedNode g.row.D.Denot) → slice_get l.opened.items place ≡ Some m → (f : FreshNode g.row.D.Denot) × (slice_get l.fn.fresh.items place ≡ Some f) × ComesUp f m;
}
