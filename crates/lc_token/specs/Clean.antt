-- What a segment's token says of the segment's pages.
use Rattle.std.specs.Prelude.{◌≡◌, ℕ, ◌+◌, ◌*◌, ◌^◌, ◌<◌, ◌≤◌, List, length, map, filter, All, IsTrue, is_some}
use Rattle.lc_record.specs.Transaction.{Transaction}
use Rattle.lc_record.specs.Recorded.{records_from}
use Rattle.lc_record.specs.declared.record.Record.{Record}
use Rattle.lc_record.specs.declared.geometry.Geometry.{Geometry}
use Rattle.lc_page.specs.declared.page_entry.PageEntry.{PageEntry}
use Rattle.lc_page.specs.PageVector.{entry_at}
use Rattle.lc_model.specs.History.{History, transactions}
use Rattle.lc_model.specs.State.{State, Setting}
use Rattle.lc_record.specs.Newest.{number_or_zero, byte_of}
use Rattle.lc_model.specs.Merge.{Page}
use Rattle.lc_model.specs.Stored.{Disks, Shows, base}

-- the records since the last recovery
abbrev pub all_of : Setting → State → Disks → List Record
all_of m s d = records_from d.numbers (base m s) (transactions s.history)

-- the record has a byte on the page
abbrev pub HasByteOn : Geometry → ℕ → ℕ → Record → Type 0
HasByteOn g segment page r = (offset : ℕ) × (offset < 256) × IsTrue (is_some (byte_of segment (page * 256 + offset) r.ranges))

-- under a number up to this one, its bytes of the segment are on pages that stand for it in every image
abbrev pub IsCleanTo : Geometry → Disks → ℕ → ℕ → Record → Type 0
IsCleanTo g d segment clean r =
    number_or_zero segment r.locks ≤ clean → (page : ℕ) (text : Page) → page < g.pages → HasByteOn g segment page r →
    Shows d segment page text → number_or_zero segment r.locks ≤ text.sequence

-- under a number up to the token's, the pages of its bytes are touched
abbrev pub IsTouched : Geometry → ℕ → ℕ → List PageEntry → Record → Type 0
IsTouched g segment seq pages r =
    number_or_zero segment r.locks ≤ seq → (page : ℕ) → page < g.pages → HasByteOn g segment page r →
    number_or_zero segment r.locks ≤ (entry_at pages page).touched

pub record TokenFits (m : Setting) (s : State) (d : Disks) (segment seq clean : ℕ) (pages : List PageEntry) : Type 0 where
  pub count : length pages ≡ m.geometry.pages
  pub few : m.geometry.pages ≤ 2 ^ 32
  -- no page of the disk is behind its entry, in any image, and no entry ahead of the token
  pub stable : (page : ℕ) (text : Page) → page < m.geometry.pages → Shows d segment page text → (entry_at pages page).stable ≤ text.sequence
  pub within : (page : ℕ) → page < m.geometry.pages → (entry_at pages page).stable ≤ seq
  pub touched : All (IsTouched m.geometry segment seq pages) (all_of m s d)
  pub cleaned : All (IsCleanTo m.geometry d segment clean) (all_of m s d)

-- the transactions whose records are closed
abbrev pub closed_of : History → List Transaction
closed_of history = map (λ e. e.transaction) (filter (λ e. e.closed) history)
