-- How a hold-back keeps its parts.
use Rattle.lc_token.specs.Backlog.{Backlog, Ascends}
use Rattle.lc_token.specs.declared.hold_back.HoldBack.TheInside.{Inside}

abbrev pub backlog_of : Inside → Backlog
backlog_of h = record { segment = h.segment; applied = h.applied; due = h.due.parts; kept = h.kept }

-- what is kept ascends, above what was applied
abbrev pub IsBacklog : Inside → Type 0
IsBacklog h = Ascends h.applied h.kept
