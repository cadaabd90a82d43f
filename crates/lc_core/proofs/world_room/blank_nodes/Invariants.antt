use Rattle.std.proofs.Common.{◌≡◌, vec_len}
use Rattle.lc_core.specs.Blank.{AreBlankNodes}
use Rattle.lc_core.proofs.world_room.blank_nodes.Given as goal

abbrev pub invariant-loop-number : goal.invariant-loop-number
invariant-loop-number g l = record {
  count : vec_len l.nodes ≡ l.number;
  blank : AreBlankNodes g.D.Area l.geometry l.nodes.items;
}
