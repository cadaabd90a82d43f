use Rattle.std.proofs.Common.{◌+◌, ◌≤◌, false, length, Option}
use Rattle.lc_record.specs.declared.geometry.Geometry.{Geometry}
use Rattle.lc_model.specs.State.{Setting, State}
use Rattle.lc_core.specs.Lives.{FitsLife, Life}
use Rattle.lc_settled.specs.Numbers.{Numbers}
use Rattle.lc_core.specs.World.{FitsWorld}
use Rattle.lc_text.specs.Lines.{script_lines}
use Rattle.lc_tool.specs.Script.{Runs, front_of}
use Rattle.lc_tool.specs.Tells.{TellsLines}
use Rattle.lc_tool.proofs.ScriptLemmas.{SoFar}
use Rattle.lc_tool.proofs.scripts.run_lines.Given as goal

abbrev pub invariant-loop-rest : goal.invariant-loop-rest
invariant-loop-rest g l = record {
  count : l.number + length l.rest ≤ length l.fn.script + 1;
  told : (h : Geometry) (first : Option Life) → FitsLife g.D.Area h first l.fn.world.phase →
      (at : Option Life) × FitsLife g.D.Area h at l.world.phase
      × SoFar (TellsLines (front_of l.fn.numbered) h first 1 false (script_lines l.fn.script)) (TellsLines (front_of l.fn.numbered) h at l.number l.refused (script_lines l.rest)) (g.W.Write.contents l.fn.writer) (g.W.Write.contents l.writer);
  runs : (m : Setting) (first : State) (start : Numbers) → FitsWorld g.D.Area m l.fn.world first start →
      (s : State) × (x : Numbers) × FitsWorld g.D.Area m l.world s x
      × SoFar (Runs (front_of l.fn.numbered) m first start 1 false (script_lines l.fn.script)) (Runs (front_of l.fn.numbered) m s x l.number l.refused (script_lines l.rest)) (g.W.Write.contents l.fn.writer) (g.W.Write.contents l.writer);
}

abbrev pub decreases-loop-rest : goal.decreases-loop-rest
decreases-loop-rest g l = length l.rest
