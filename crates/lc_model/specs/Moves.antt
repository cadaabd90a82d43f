-- What the moves of a store make of its disks.
use Rattle.std.specs.Prelude.{ℕ, true, false, Some, None}
use Rattle.lc_record.specs.Transaction.{effects}
use Rattle.lc_model.specs.History.{transactions}
use Rattle.lc_model.specs.State.{State, Setting, update}
use Rattle.lc_model.specs.Merging.{counted_all}
use Rattle.lc_model.specs.Merge.{Page}
use Rattle.lc_model.specs.Stored.{Disks, base, page_bytes}

-- the table of a table with one entry changed
abbrev pub update_at : {A : Type 0} → (ℕ → ℕ → A) → ℕ → ℕ → A → ℕ → ℕ → A
update_at table segment page item = update table segment (update (table segment) page item)

-- a page write has begun
abbrev pub with_begun : Disks → ℕ → ℕ → Page → Disks
with_begun d segment page text = record d { begun = update_at d.begun segment page (Some text) }

-- it has opened its slot, or tried to
abbrev pub with_opened : Disks → ℕ → ℕ → Page → Disks
with_opened d segment page text = record d { opened = update_at d.opened segment page (Some text) }

-- it is stable
abbrev pub with_settled : Disks → ℕ → ℕ → Page → Disks
with_settled d segment page text = record d {
  page = update_at d.page segment page text;
  begun = update_at d.begun segment page None;
  opened = update_at d.opened segment page None;
}

-- a reset has begun
abbrev pub with_reset : Disks → ℕ → Disks
with_reset d node = record d { resetting = update d.resetting node true }

-- it has ended
abbrev pub with_dropped : Disks → ℕ → ℕ → Disks
with_dropped d node count = record d { dropped = update d.dropped node count; resetting = update d.resetting node false }

-- the page as it is now, under the segment's number
abbrev pub page_now : Setting → State → Disks → ℕ → ℕ → Page
page_now m s d segment page = record {
  sequence = counted_all d.numbers (transactions s.history) segment;
  bytes = page_bytes segment page (effects (transactions s.history) (base m s));
}
