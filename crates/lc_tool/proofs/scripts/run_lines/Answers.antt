use Rattle.std.proofs.Common.{◌≡◌, ℕ, ◌+◌, ◌||◌, ◌==◌, Bool, true, false, List, [], ◌∷◌, ◌++◌, length, Option, refl, sym, arith, eqb-true}
use Rattle.lc_model.specs.State.{State}
use Rattle.lc_core.specs.Lives.{Life}
use Rattle.lc_settled.specs.Numbers.{Numbers}
use Rattle.lc_text.specs.Lines.{script_lines}
use Rattle.lc_tool.specs.Outcome.{fronted}
use Rattle.lc_tool.specs.Script.{Runs, front_of}
use Rattle.lc_tool.specs.Tells.{TellsLines}
use Rattle.lc_tool.proofs.ScriptLemmas.{at_first, breaks_now, further, over, passes_next, runs_end, tells_next, tells_now, to_end}
use Rattle.lc_tool.proofs.scripts.run_lines.Goals as goal

empty_of : (xs : List ℕ) → true ≡ (length xs == 0) → xs ≡ []
empty_of [] e = refl
empty_of (x ∷ xs) e = absurd omega (arith, eqb-true (length (x ∷ xs)) 0 (sym e))

pub loop-rest-init : goal.loop-rest-init
loop-rest-init g c = record {
  count = omega arith;
  told = λ h first fits. (first, fits, at_first (TellsLines (front_of c.args.numbered) h first 1 false (script_lines c.args.script.now)) (g.W.Write.contents c.args.writer.now));
  runs = λ m first start fits. (first, start, fits, at_first (Runs (front_of c.args.numbered) m first start 1 false (script_lines c.args.script.now)) (g.W.Write.contents c.args.writer.now));
}

pub returns-in-Ends-clause-runs : goal.returns-in-Ends-clause-runs
returns-in-Ends-clause-runs g c = λ m first start h.
    let before = c.loop-rest.invariant.runs m first start h in
    let s = before.0 in
    let x = before.1 in
    let ends = (rw c.in-Ends.is at c.in_ok-was.ensures.leaves).1 m s x before.2 in
    let number = c.loop-rest.number in
    let all = Runs (front_of c.args.numbered) m first start 1 false (script_lines c.args.script.now) in
    let lines = script_lines c.first_line.result.1.now in
    let next = λ (after : State) (later : Numbers) (was : Bool) (rest : List ℕ) (end : ℕ). Runs (front_of c.args.numbered) m after later (number + 1) was lines rest end in
    let here = breaks_now (front_of c.args.numbered) m s x number c.loop-rest.refused next c.first_line.result.0.now ends.0 c.in-Ends.status ends.1 in
    to_end all (g.W.Write.contents c.args.writer.now) (Runs (front_of c.args.numbered) m s x c.loop-rest.number c.loop-rest.refused (script_lines c.loop-rest.rest.now)) (g.W.Write.contents c.loop-rest.writer) (g.W.Write.contents c.run_line.new.writer)
    before.3 (front_of c.args.numbered number ++ ends.0) ends.2 c.in-Ends.status (rw c.first_line.ensures.lines here)

pub returns-in-Ends-clause-tells : goal.returns-in-Ends-clause-tells
returns-in-Ends-clause-tells g c = λ h first fits.
    let before = c.loop-rest.invariant.told h first fits in
    let told = c.in_ok-was.ensures.tells h before.0 before.1 in
    let ends = (rw c.in-Ends.is at told) in
    let next = λ (after : Option Life) (was : Bool) (rest : List ℕ) (end : ℕ). TellsLines (front_of c.args.numbered) h after (c.loop-rest.number + 1) was (script_lines c.first_line.result.1.now) rest end in
    let here = tells_now (front_of c.args.numbered) h before.0 c.loop-rest.number c.loop-rest.refused next c.first_line.result.0.now ends.2.0 c.in-Ends.status ends.0 ends.2.1 in
    to_end (TellsLines (front_of c.args.numbered) h first 1 false (script_lines c.args.script.now)) (g.W.Write.contents c.args.writer.now)
    (TellsLines (front_of c.args.numbered) h before.0 c.loop-rest.number c.loop-rest.refused (script_lines c.loop-rest.rest.now))
    (g.W.Write.contents c.loop-rest.writer) (g.W.Write.contents c.run_line.new.writer) before.2 ends.2.0 ends.2.2 c.in-Ends.status (rw c.first_line.ensures.lines here)

pub loop-rest-preserved : goal.loop-rest-preserved
loop-rest-preserved g c =
    let held = g.W.Write.contents c.args.writer.now in
    let mid = g.W.Write.contents c.loop-rest.writer in
    let holds = g.W.Write.contents c.run_line.new.writer in
    let line = c.first_line.result.0.now in
    let lines = script_lines c.first_line.result.1.now in
    let number = c.loop-rest.number in
    let refused = c.loop-rest.refused in
    let was = c.in-Goes.was in record {
      count = omega (arith, c.loop-rest.invariant.count, c.first_line.ensures.shorter);
      told = λ h first fits.
          let before = c.loop-rest.invariant.told h first fits in
          let told = c.in_ok-was.ensures.tells h before.0 before.1 in
          let goes = rw c.in-Goes.is at told in (
            goes.0,
            goes.1,
            further (TellsLines (front_of c.args.numbered) h first 1 false (script_lines c.args.script.now)) held (TellsLines (front_of c.args.numbered) h before.0 number refused (script_lines c.loop-rest.rest.now)) mid holds before.2
                goes.2.0 goes.2.2 (TellsLines (front_of c.args.numbered) h goes.0 (number + 1) (refused || was) lines)
                (λ after status run. rw c.first_line.ensures.lines
                (tells_next (front_of c.args.numbered) h before.0 number refused (λ later was rest end. TellsLines (front_of c.args.numbered) h later (number + 1) was lines rest end) line goes.2.0 was goes.0 after status goes.2.1 run)),
          );
      runs = λ m first start h.
          let before = c.loop-rest.invariant.runs m first start h in
          let s = before.0 in
          let x = before.1 in
          let goes = (rw c.in-Goes.is at c.in_ok-was.ensures.leaves) m s x before.2 in (
            goes.0,
            goes.1,
            goes.3,
            further (Runs (front_of c.args.numbered) m first start 1 false (script_lines c.args.script.now)) held (Runs (front_of c.args.numbered) m s x number refused (script_lines c.loop-rest.rest.now)) mid holds before.3
                (fronted (front_of c.args.numbered) number line ++ goes.2.0) goes.2.2
                (Runs (front_of c.args.numbered) m goes.0 goes.1 (number + 1) (refused || was) lines)
                (λ after status run. rw c.first_line.ensures.lines
                (passes_next (front_of c.args.numbered) m s x number refused (λ after later was rest end. Runs (front_of c.args.numbered) m after later (number + 1) was lines rest end) line goes.2.0 was goes.0 goes.1 after status goes.2.1 run)),
          );
    }

pub returns-clause-runs : goal.returns-clause-runs
returns-clause-runs g c = λ m first start h.
    let before = c.loop-rest.invariant.runs m first start h in
    let none : c.loop-rest.rest.now ≡ [] = empty_of c.loop-rest.rest.now (c.loop-rest-test.ensures) in
    over (Runs (front_of c.args.numbered) m first start 1 false (script_lines c.args.script.now)) (g.W.Write.contents c.args.writer.now)
    (Runs (front_of c.args.numbered) m before.0 before.1 c.loop-rest.number c.loop-rest.refused (script_lines c.loop-rest.rest.now)) (g.W.Write.contents c.loop-rest.writer) c.status_of.result before.3
    (rw none (runs_end (front_of c.args.numbered) m before.0 before.1 c.loop-rest.number c.loop-rest.refused c.status_of.result c.status_of.ensures))

pub returns-clause-tells : goal.returns-clause-tells
returns-clause-tells g c = λ h first fits.
    let before = c.loop-rest.invariant.told h first fits in
    let none : c.loop-rest.rest.now ≡ [] = empty_of c.loop-rest.rest.now (c.loop-rest-test.ensures) in
    over (TellsLines (front_of c.args.numbered) h first 1 false (script_lines c.args.script.now)) (g.W.Write.contents c.args.writer.now)
    (TellsLines (front_of c.args.numbered) h before.0 c.loop-rest.number c.loop-rest.refused (script_lines c.loop-rest.rest.now))
    (g.W.Write.contents c.loop-rest.writer) c.status_of.result before.2 (rw none (refl, c.status_of.ensures))
