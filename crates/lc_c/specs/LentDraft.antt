-- A handle whose draft is lent out.
use Rattle.std.specs.Borrow.{Lends, MutBor, Fml}
use Rattle.lc_changes.specs.declared.draft.Draft.{Draft}
use Rattle.lc_changes.specs.contracts.draft.Draft.{the_row as draft_row}
use Rattle.lc_c.specs.declared.draft_handle.DraftHandle.{DraftHandle}
use Rattle.lc_c.specs.contracts.draft_handle.DraftHandle.{the_row}

-- the handle with this draft in it
abbrev pub with_draft : DraftHandle → Draft → DraftHandle
with_draft h s = record h { value = s }

abbrev pub LendsDraft : MutBor DraftHandle → MutBor Draft → Fml
LendsDraft h r = Lends the_row draft_row h r (with_draft h.now)
