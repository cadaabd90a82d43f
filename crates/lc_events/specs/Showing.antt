-- Of nodes that run: what a node's image of a segment shows.
use Rattle.std.specs.Prelude.{ℕ, find, Option, None, Some}
use Rattle.lc_record.specs.Content.{Content}
use Rattle.lc_record.specs.Transaction.{Transaction, locks}
use Rattle.lc_model.specs.History.{value}
use Rattle.lc_model.specs.Machine.{seen}
use Rattle.lc_model.specs.State.{Setting, State}

-- the open transaction that has locked the segment for writing
abbrev pub open_writer : ℕ → State → Option Transaction
open_writer segment s = find (λ t. locks t segment) s.running

-- the content of the history, with the writes of this transaction on top
abbrev pub content_with : Setting → State → Option Transaction → Content
content_with m s None = value m.start s.earlier s.history
content_with m s (Some t) = seen m.start s t
