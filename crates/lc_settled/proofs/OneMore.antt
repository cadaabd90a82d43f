-- Of state and numbers: a run of several events: with a step after it, and as a run of the plain machine.
use Rattle.std.proofs.Common.{List, [], ◌∷◌}
use Rattle.lc_model.specs.Machine.{Run}
use Rattle.lc_model.specs.State.{Setting, State}
use Rattle.lc_model.specs.declared.event.Event.{Event}
use Rattle.lc_model.specs.declared.reply.Reply.{Reply}
use Rattle.lc_settled.specs.Numbers.{Numbers}
use Rattle.lc_settled.specs.Runs.{RunsOn}

-- the replies are those of a run of the plain machine
pub run_of : (m : Setting) (s : State) (x : Numbers) (events : List Event) (replies : List Reply) (after : State) (next : Numbers) → RunsOn m s x events replies after next → Run m s events replies after
run_of m s x [] [] after next run = run.0
run_of m s x [] (reply ∷ replies) after next run = absurd run
run_of m s x (event ∷ events) [] after next run = absurd run
run_of m s x (event ∷ events) (reply ∷ replies) after next run = (run.0, run.2, run_of m run.0 run.1 events replies after next run.5)
