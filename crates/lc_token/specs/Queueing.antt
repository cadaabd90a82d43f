-- How the parts that are due are kept: the first by itself, and the others after it.
use Rattle.std.specs.Prelude.{◌≡◌, ◌+◌, Option, Some, None, List, []}
use Rattle.std.specs.VecDeque.{deque_capacity}
use Rattle.lc_record.specs.declared.part.Part.{Part}
use Rattle.lc_token.specs.Backlog.{led_by}
use Rattle.lc_token.specs.Queue.{Queue}
use Rattle.lc_token.specs.declared.due.Due.TheInside.{Inside}

abbrev pub queue_of : Inside → Queue
queue_of due = record { parts = led_by due.first due.behind.items; room = deque_capacity due.behind + 1 }

-- there are no others where there is no first
abbrev pub HasFirst : Option Part → List Part → Type 0
HasFirst None behind = behind ≡ []
HasFirst (Some part) behind = Unit {0}

abbrev pub IsQueue : Inside → Type 0
IsQueue due = HasFirst due.first due.behind.items
