-- What is kept of each page, and how it changes.
use Rattle.std.specs.Prelude.{ℕ, ◌+◌, ◌-◌, Bool, true, false, max, nat_lt, Some, None, List, [], ◌∷◌, slice_index_or, slice_set}
use Rattle.lc_page.specs.declared.page_text.PageText.{PageText}
use Rattle.lc_page.specs.declared.page_entry.PageEntry.{PageEntry}
use Rattle.lc_page.specs.declared.slot.Slot.{Slot}
use Rattle.lc_page.specs.Slot.{number_of, next_slot}

-- what the disk says of a page
abbrev pub entry_text : PageEntry → PageText
entry_text e = record { seq = e.stable; slot = e.slot; gates = e.gates }

-- the entry of a page that the disk says this of
abbrev pub new_entry : PageText → PageEntry
new_entry text = record { uncommitted = 0; touched = text.seq; stable = text.seq; slot = text.slot; gates = text.gates }

-- the entry of a page that no area has
abbrev pub no_entry : PageEntry
no_entry = record { uncommitted = 0; touched = 0; stable = 0; slot = None; gates = false ∷ false ∷ [] }

-- the entry of this page
abbrev pub entry_at : List PageEntry → ℕ → PageEntry
entry_at entries page = slice_index_or entries page no_entry

-- the page is dirty: it was changed under a greater number than the one on the disk
abbrev pub is_dirty : PageEntry → Bool
is_dirty e = nat_lt e.stable e.touched

-- one more uncommitted reference
abbrev pub held : PageEntry → PageEntry
held e = record e { uncommitted = e.uncommitted + 1 }

-- one less
abbrev pub released : PageEntry → PageEntry
released e = record e { uncommitted = e.uncommitted - 1 }

-- changed under this number too
abbrev pub touched_at : PageEntry → ℕ → PageEntry
touched_at e seq = record e { touched = max e.touched seq }

-- the gate of this slot reads as open
abbrev pub gate_of : PageText → Slot → Bool
gate_of text slot = slice_index_or text.gates (number_of slot) false

-- what the disk says of a page once the next one is written under this number: the slot is turned, and its gate is open
abbrev pub settled_text : PageText → ℕ → PageText
settled_text text seq = record { seq = seq; slot = Some (next_slot text.slot); gates = slice_set text.gates (number_of (next_slot text.slot)) true }

-- the entry once the page is written under this number
abbrev pub settled : PageEntry → ℕ → PageEntry
settled e seq = record e { stable = seq; slot = (settled_text (entry_text e) seq).slot; gates = (settled_text (entry_text e) seq).gates }
