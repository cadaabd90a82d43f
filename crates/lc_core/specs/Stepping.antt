-- Of the store: what it is that a running store follows the machine and the numbers, step by step.
use Rattle.std.specs.Prelude.{Bool, is_some}
use Rattle.lc_model.specs.Refusals.{named}
use Rattle.lc_model.specs.declared.event.Event.{Event}

-- the event is of a node, and so for a store that is up
abbrev pub works_up : Event → Bool
works_up event = is_some (named event)
