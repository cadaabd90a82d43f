use Rattle.std.proofs.Common.{map, take}
use Rattle.lc_recover.specs.Pages.{kept_pages}
use Rattle.lc_recover.specs.Changes.{AreOf, seats_from}
use Rattle.lc_recover.proofs.index.changes_of.Given as goal

abbrev pub invariant-loop-log : goal.invariant-loop-log
invariant-loop-log l = AreOf (map kept_pages l.segments) (seats_from 0 (take l.log l.logs)) l.changes.items
