use Rattle.std.proofs.Common.{◌≡◌, ◌+◌, List, length}
use Rattle.lc_cluster.specs.Closing.{GivesAll, Grows}
use Rattle.lc_cluster.specs.Keys.{AreWiredAs}
use Rattle.lc_cluster.proofs.closing_lines.close_lines.Given as goal

abbrev pub invariant-loop : goal.invariant-loop
invariant-loop g l = record {
  count : length l.all.items + l.counter ≡ length l.fn.all.items;
  wired : AreWiredAs (length l.all.items) l.all.items;
  given : (tokens : List g.row.P.Denot) → Grows l.tokens.items tokens → GivesAll l.all.items tokens → GivesAll l.fn.all.items tokens;
}
