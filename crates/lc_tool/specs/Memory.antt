-- Which lines of a script ask for memory.
use Rattle.std.specs.Prelude.{◌≡◌, ◌⊎◌, ℕ, true, false, IsTrue, List}
use Rattle.lc_model.specs.Refusals.{is_node, is_up}
use Rattle.lc_model.specs.State.{State, Setting}
use Rattle.lc_model.specs.declared.event.Event.TheVariants.{Reserve}
use Rattle.lc_core.specs.Asks.{EventAsks}
use Rattle.lc_settled.specs.Numbers.{Numbers}
use Rattle.lc_text.specs.Line.{line_of, words, is_open_ended}
use Rattle.lc_text.specs.declared.command.Command.{Command}
use Rattle.lc_text.specs.declared.command.Command.TheVariants.{Step as Asks, End, Flush, Truncate, Recover, Log, Inspect, Show}
use Rattle.lc_text.specs.declared.command.Line.TheVariants.{Command as Commanded}

-- a command does where its event does; so do a recovery, and what reads the area of a log
abbrev pub AsksMemory : Setting → State → Numbers → Command → Type 0
AsksMemory m s x (Asks event) = EventAsks m s x event
AsksMemory m s x (End node thread) = EventAsks m s x (Reserve node thread)
AsksMemory m s x (Flush node) = ⊥
AsksMemory m s x (Truncate node) = ⊥
AsksMemory m s x Recover = is_up s.phase ≡ false
AsksMemory m s x (Log node) = is_node m.geometry node ≡ true
AsksMemory m s x (Inspect node) = is_node m.geometry node ≡ true
AsksMemory m s x (Show node segment page) = ⊥

-- the line does: its fields, or its command
abbrev pub LineAsksMemory : Setting → State → Numbers → List ℕ → Type 0
LineAsksMemory m s x line =
    IsTrue (is_open_ended (words line)) ⊎ ((command : Command) × (line_of line ≡ Commanded command) × AsksMemory m s x command)
