use Rattle.std.proofs.Common.{◌≡◌, ◌-◌, ◌≤◌, ℕ, List, Option, Some, false}
use Rattle.lc_record.specs.declared.geometry.Geometry.{Geometry}
use Rattle.lc_model.specs.State.{Setting, State}
use Rattle.lc_core.specs.Lives.{FitsLife, Life}
use Rattle.lc_settled.specs.Numbers.{Numbers}
use Rattle.lc_core.specs.World.{FitsWorld}
use Rattle.lc_tool.specs.Coming.{lines_left}
use Rattle.lc_tool.specs.Following.{lines_followed, lines_within}
use Rattle.lc_tool.specs.Script.{Follows, front_of}
use Rattle.lc_tool.specs.Tells.{TellsFollowed}
use Rattle.lc_tool.proofs.ScriptLemmas.{SoFar}
use Rattle.lc_tool.proofs.following.follow_lines.Given as goal

abbrev pub invariant-loop-raw : goal.invariant-loop-raw
invariant-loop-raw g l = record {
  count : (1 ≤ l.number) × (l.number ≤ 18446744073709551615);
  read : (script : List ℕ) → lines_left g.R.Read.remaining l.fn.lines ≡ Some script →
      (rest : List ℕ) × (lines_left g.R.Read.remaining l.lines ≡ Some rest)
      × ((h : Geometry) (first : Option Life) → FitsLife g.D.Area h first l.fn.world.phase →
      (at : Option Life) × FitsLife g.D.Area h at l.world.phase
      × SoFar (TellsFollowed (front_of l.fn.numbered) h first 1 false (lines_followed script)) (TellsFollowed (front_of l.fn.numbered) h at l.number l.refused (lines_within (18446744073709551615 - l.number) rest))
      (g.W.Write.contents l.fn.writer) (g.W.Write.contents l.writer))
      × ((m : Setting) (first : State) (start : Numbers) → FitsWorld g.D.Area m l.fn.world first start →
      (s : State) × (x : Numbers) × FitsWorld g.D.Area m l.world s x
      × SoFar (Follows (front_of l.fn.numbered) m first start 1 false (lines_followed script)) (Follows (front_of l.fn.numbered) m s x l.number l.refused (lines_within (18446744073709551615 - l.number) rest))
      (g.W.Write.contents l.fn.writer) (g.W.Write.contents l.writer));
}

abbrev pub decreases-loop-raw : goal.decreases-loop-raw
decreases-loop-raw g l = 18446744073709551615 - l.number
