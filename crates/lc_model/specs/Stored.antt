-- What the disks of a store hold that is up, and what a stop may leave of them.
use Rattle.std.specs.Prelude.{◌≡◌, ℕ, ◌+◌, ◌-◌, ◌*◌, ◌<◌, ◌≤◌, Bool, ◌⊎◌, List, [], map, length, filter, take, drop, replicate, Option, Some, All, IsTrue, is_some, slice_get, slice_index, slice_index_or}
use Rattle.lc_record.specs.Content.{Content, segment_of}
use Rattle.lc_record.specs.Transaction.{Transaction, effects}
use Rattle.lc_record.specs.Marks.{counting}
use Rattle.lc_record.specs.Geometry.{segment_len}
use Rattle.lc_record.specs.Recorded.{records_from}
use Rattle.lc_record.specs.declared.record.Record.{Record}
use Rattle.lc_record.specs.declared.geometry.Geometry.{Geometry}
use Rattle.lc_model.specs.History.{Cut, transactions, kept}
use Rattle.lc_model.specs.State.{State, Setting}
use Rattle.lc_record.specs.Newest.{number_or_zero, byte_of}
use Rattle.lc_model.specs.Merging.{sets, counted_all, is_from}
use Rattle.lc_model.specs.Sound.{Sound}
use Rattle.lc_model.specs.Stops.{MayCutAt}
use Rattle.lc_model.specs.Merge.{Page, StoreText}

-- what the disks hold beside the records of the history
pub record Disks : Type 0 where
  -- each segment's number at the last recovery
  pub numbers : ℕ → ℕ
  -- how many of a node's records its resets have dropped since
  pub dropped : ℕ → ℕ
  -- a reset of the node's log is under way
  pub resetting : ℕ → Bool
  -- by segment and page: the page, the one that a write under way is to put in its place, and the one that a write has
  -- opened and that may not be stable
  pub page : ℕ → ℕ → Page
  pub begun : ℕ → ℕ → Option Page
  pub opened : ℕ → ℕ → Option Page

-- some image of its area has this page
abbrev pub Shows : Disks → ℕ → ℕ → Page → Type 0
Shows d segment page text = (text ≡ d.page segment page) ⊎ (d.opened segment page ≡ Some text)

-- the content at the last recovery
abbrev pub base : Setting → State → Content
base m s = effects s.earlier m.start

-- the records of a node since the last recovery, in the order of its log
abbrev pub records_of : Setting → State → Disks → ℕ → List Record
records_of m s d node = filter (is_from node) (records_from d.numbers (base m s) (transactions s.history))

-- the transactions of a segment with a number up to this one
abbrev pub up_to : Disks → State → ℕ → ℕ → List Transaction
up_to d s segment seq = take (seq - d.numbers segment) (filter (sets segment) (transactions s.history))

-- a page's part of a content
abbrev pub page_bytes : ℕ → ℕ → Content → List ℕ
page_bytes segment page content = take 256 (drop (page * 256) (segment_of segment content))

-- what is acknowledged, as a cut
abbrev pub acked : Geometry → State → Cut
acked g s = map s.ack (counting 0 g.nodes)

-- the segment's number up to which all is acknowledged
abbrev pub stable_number : Geometry → State → Disks → ℕ → ℕ
stable_number g s d segment = counted_all d.numbers (kept s.history (acked g s)) segment

-- the page has all of the segment's transactions up to its sequence and nothing else, and all of them are acknowledged
pub record Stands (m : Setting) (s : State) (d : Disks) (segment page : ℕ) (text : Page) : Type 0 where
  pub within : text.sequence ≤ stable_number m.geometry s d segment
  pub bytes : text.bytes ≡ page_bytes segment page (effects (up_to d s segment text.sequence) (base m s))

-- each byte of the record is on a page, which in every image stands for the record
abbrev pub IsOnPages : Geometry → Disks → Record → Type 0
IsOnPages g d r =
    (segment page offset : ℕ) (text : Page) → 1 ≤ segment → segment ≤ g.segments → page < g.pages → offset < 256 →
    IsTrue (is_some (byte_of segment (page * 256 + offset) r.ranges)) → Shows d segment page text →
    number_or_zero segment r.locks ≤ text.sequence

-- the disks fit the machine's state
pub record Fits (m : Setting) (s : State) (d : Disks) : Type 0 where
  pub sound : Sound m.geometry s
  pub shape : map length (base m s) ≡ replicate m.geometry.segments (segment_len m.geometry)
  pub stands : (segment page : ℕ) (text : Page) → 1 ≤ segment → segment ≤ m.geometry.segments → page < m.geometry.pages →
      Shows d segment page text → Stands m s d segment page text
  -- some page of each segment has come to the segment's number at the last recovery
  pub reached : (segment : ℕ) → 1 ≤ segment → segment ≤ m.geometry.segments →
      (page : ℕ) × (page < m.geometry.pages) × ((text : Page) → Shows d segment page text → d.numbers segment ≤ text.sequence)
  -- what resets have dropped is on the pages, and so is what one drops that is under way
  pub dropped : (node : ℕ) → node < m.geometry.nodes →
      All (IsOnPages m.geometry d) (take (d.dropped node) (records_of m s d node))
  pub resetting : (node : ℕ) → node < m.geometry.nodes → IsTrue (d.resetting node) →
      All (IsOnPages m.geometry d) (take (s.ack node) (records_of m s d node))
  -- for the moves that come: what a write has begun with stands, and is not below the page before
  pub begun : (segment page : ℕ) (text : Page) → 1 ≤ segment → segment ≤ m.geometry.segments → page < m.geometry.pages →
      d.begun segment page ≡ Some text → Stands m s d segment page text × ((d.page segment page).sequence ≤ text.sequence)
  -- what was dropped was acknowledged, and while a reset is under way all is
  pub dropped_acked : (node : ℕ) → node < m.geometry.nodes → d.dropped node ≤ s.ack node
  pub sealed : (node : ℕ) → node < m.geometry.nodes → IsTrue (d.resetting node) → length (records_of m s d node) ≤ s.ack node

-- the records that are read of a node's log where the stop cut its records at this number: those after the dropped
-- ones, or none where a reset is under way
abbrev pub IsLog : Setting → State → Disks → ℕ → ℕ → List Record → Type 0
IsLog m s d node number log =
    (log ≡ drop (d.dropped node) (take number (records_of m s d node)))
    ⊎ (IsTrue (d.resetting node) × (number ≡ s.ack node) × (log ≡ []))

-- images of all areas, which cut the history so
pub record IsImage (m : Setting) (s : State) (d : Disks) (cut : Cut) (store : StoreText) : Type 0 where
  pub nodes : length cut ≡ m.geometry.nodes
  pub cuts : (node : ℕ) → node < m.geometry.nodes → MayCutAt s node (slice_index cut node)
  pub count : length store.logs ≡ m.geometry.nodes
  pub logs : (node : ℕ) → node < m.geometry.nodes → IsLog m s d node (slice_index cut node) (slice_index_or store.logs node [])
  pub shape : map length store.pages ≡ replicate m.geometry.segments m.geometry.pages
  pub pages : (segment page : ℕ) (text : Page) → slice_get (segment_of segment store.pages) page ≡ Some text →
      Shows d segment page text
