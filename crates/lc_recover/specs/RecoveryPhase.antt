-- What a recovery knows in each of its parts, of what it keeps and of the areas.
use Rattle.std.specs.Prelude.{◌≡◌, ◌≢◌, ℕ, ◌+◌, ◌-◌, ◌*◌, ◌^◌, ◌%◌, ◌<◌, ◌≤◌, ◌⊎◌, Bool, true, false, List, [], length, Some, None, slice_get, slice_index, slice_index_or, slice_set, if◌then◌else◌}
use Rattle.lc_disk.specs.Area.{IsClean, overlaid}
use Rattle.lc_disk.specs.declared.area.Area.{Ghosts}
use Rattle.lc_record.specs.Content.{Content, segment_of}
use Rattle.lc_record.specs.Words.{words_of}
use Rattle.lc_record.specs.declared.geometry.Geometry.{Geometry}
use Rattle.lc_record.specs.declared.record.Record.{Record}
use Rattle.lc_log.specs.LogText.{IsLogText}
use Rattle.lc_log.specs.NodeLog.{IsShut}
use Rattle.lc_log.specs.OneCall.{IsOneCall}
use Rattle.lc_page.specs.Page.{page_in}
use Rattle.lc_page.specs.PageVector.{entry_at, entry_text, settled}
use Rattle.lc_page.specs.PageWrite.{IsSettled}
use Rattle.lc_page.specs.Writing.{draft_of, IsUnderWay}
use Rattle.lc_page.specs.declared.draft.Draft.{Draft}
use Rattle.lc_page.specs.declared.page_entry.PageEntry.{PageEntry}
use Rattle.lc_page.specs.declared.writing.Writing.{Writing}
use Rattle.lc_model.specs.Merge.{Page, StoreText, MergesTo}
use Rattle.lc_model.specs.Recovered.{IsBehind}
use Rattle.lc_model.specs.Stored.{page_bytes}
use Rattle.lc_recover.specs.StoreContents.{IsMerging}
use Rattle.lc_recover.specs.KeptAreas.{AreFirst, IsRead, IsCounted}
use Rattle.lc_recover.specs.Pages.{AreKept, bytes_of_page}
use Rattle.lc_recover.specs.Position.{HasChange, IsBetween}
use Rattle.lc_recover.specs.Reads.{area_count, area_len}
use Rattle.lc_recover.specs.declared.redo_range.RedoRange.{RedoRange}
use Rattle.lc_recover.specs.declared.log_resets.LogResets.{LogResets}
use Rattle.lc_recover.specs.declared.page_writes.PageWrites.{PageWrites}
use Rattle.lc_recover.specs.declared.segment_pages.SegmentPages.{SegmentPages}
use Rattle.lc_recover.specs.declared.recovery_phase.RecoveryPhase.{RecoveryPhase}
use Rattle.lc_recover.specs.declared.recovery_phase.RecoveryPhase.TheVariants.{Syncing, Reading, Writing as WritingPages, Resetting, Done}

-- The pages that are kept

-- nothing refers to the page, and it is as it was read
pub record IsOld (text : Page) (entry : PageEntry) (bytes : List ℕ) : Type 0 where
  pub free : entry.uncommitted ≡ 0
  pub sequence : entry.stable ≡ text.sequence
  pub same : bytes ≡ text.bytes

-- nothing refers to the page, and it is its part of the result, under the segment's number
pub record IsNew (content : Content) (numbers : ℕ → ℕ) (segment page : ℕ) (entry : PageEntry) (bytes : List ℕ) : Type 0 where
  pub free : entry.uncommitted ≡ 0
  pub sequence : entry.stable ≡ numbers segment
  pub same : bytes ≡ page_bytes segment page content

-- all pages are kept, and each is such; segment 1 stands first
pub record EachPage (g : Geometry) (store : StoreText) (segments : List SegmentPages) (Such : ℕ → ℕ → Page → PageEntry → List ℕ → Type 0) : Type 0 where
  pub count : length segments ≡ g.segments
  pub entries : (s : ℕ) (pages : SegmentPages) → slice_get segments s ≡ Some pages → length pages.texts ≡ g.pages
  pub bytes : (s : ℕ) (pages : SegmentPages) → slice_get segments s ≡ Some pages → length pages.bytes.items ≡ g.pages * 256
  pub shape : length store.pages ≡ g.segments
  pub shapes : (s : ℕ) → s < g.segments → length (segment_of (s + 1) store.pages) ≡ g.pages
  pub each : (s page : ℕ) (pages : SegmentPages) (text : Page) → slice_get segments s ≡ Some pages →
      slice_get (segment_of (s + 1) store.pages) page ≡ Some text →
      Such (s + 1) page text (entry_at pages.texts page) (bytes_of_page pages page)

-- the words are those of the store's logs, of each node its own
pub record AreTexts (g : Geometry) (logs : List (List ℕ)) (store : StoreText) : Type 0 where
  pub count : length logs ≡ g.nodes
  pub same_count : length store.logs ≡ g.nodes
  pub texts : (log : ℕ) → log < g.nodes → IsLogText (slice_index_or logs log []) (slice_index_or store.logs log [])

-- the store that was read merges to this, each of its pages has 256 bytes, and these are the numbers of its segments,
-- each at most 2^60
pub record IsResult (g : Geometry) (store : StoreText) (content : Content) (numbers : ℕ → ℕ) (known : List ℕ) : Type 0 where
  pub merges : MergesTo store content numbers
  pub long : (segment page : ℕ) (text : Page) → slice_get (segment_of segment store.pages) page ≡ Some text → length text.bytes ≡ 256
  pub count : length known ≡ g.segments
  pub numbers_are : (s : ℕ) → s < g.segments → slice_get known s ≡ Some (numbers (s + 1))
  pub small : (s : ℕ) → s < g.segments → numbers (s + 1) ≤ 2 ^ 60

-- The parts

-- a page that no record is newer than is as it was read, one of the pages that are written is new, the others are old
abbrev pub AsFarAs : List RedoRange → Content → (ℕ → ℕ) → ℕ → ℕ → Page → PageEntry → List ℕ → Type 0
AsFarAs done content numbers segment page text entry bytes =
    (HasChange done segment page × IsNew content numbers segment page entry bytes)
    ⊎ ((HasChange done segment page → ⊥) × IsOld text entry bytes)

-- what is drafted is the page of this change, with its part of the result, under the segment's number
pub record IsDraft (content : Content) (numbers : ℕ → ℕ) (c : RedoRange) (draft : Draft) : Type 0 where
  pub page : draft.page ≡ c.page
  pub seq : draft.seq ≡ numbers c.segment
  pub bytes : draft.bytes ≡ page_bytes c.segment c.page content

-- pages are being written: what is kept
pub record IsWriting (g : Geometry) (w : PageWrites) : Type 0 where
  pub store : StoreText
  pub content : Content
  pub numbers : ℕ → ℕ
  pub texts : AreTexts g w.kept.logs.items store
  pub merging : IsMerging w.kept.logs.items store w.merged
  pub result : IsResult g store content numbers w.merged.numbers.items
  pub between : IsBetween w.merged.changes.items w.next
  pub few : w.written ≤ w.next
  pub pages : EachPage g store w.kept.segments.items (AsFarAs between.front content numbers)
  pub drafts : (write : Writing) → w.current ≡ Some write →
      (c : RedoRange) × (slice_get w.merged.changes.items w.next ≡ Some c) × IsDraft content numbers c (draft_of write)

-- all pages are written: what is kept
pub record IsWhole (g : Geometry) (segments : List SegmentPages) (known : List ℕ) (store : StoreText) : Type 0 where
  pub content : Content
  pub numbers : ℕ → ℕ
  pub result : IsResult g store content numbers known
  pub pages : EachPage g store segments (λ segment page text entry bytes.
      (IsBehind store segment page text × IsNew content numbers segment page entry bytes)
      ⊎ ((IsBehind store segment page text → ⊥) × IsOld text entry bytes))

-- logs are being emptied: what is kept
pub record IsResetting (g : Geometry) (r : LogResets) : Type 0 where
  pub store : StoreText
  pub texts : AreTexts g r.logs.items store
  pub whole : IsWhole g r.segments.items r.numbers.items store
  pub next : r.next ≤ g.nodes

-- what is kept in a part
abbrev pub IsSound : Geometry → RecoveryPhase → Type 0
IsSound g (Syncing synced) = synced < area_count g
IsSound g (Reading r) = (areas : List (List ℕ)) × AreFirst g areas × IsRead g areas r.kept × IsCounted r
IsSound g (WritingPages w) = IsWriting g w
IsSound g (Resetting r) = IsResetting g r
IsSound g (Done f) = (store : StoreText) × (logs : List (List ℕ)) × AreTexts g logs store × IsWhole g f.segments.items f.numbers.items store

-- The areas

-- the page is being written
abbrev pub IsCurrent : PageWrites → ℕ → ℕ → Writing → Type 0
IsCurrent w segment page write =
    (w.current ≡ Some write)
    × ((c : RedoRange) × (slice_get w.merged.changes.items w.next ≡ Some c) × (c.segment ≡ segment)) × ((draft_of write).page ≡ page)

-- the change that comes next, and the kept pages of its segment
pub record IsNext (w : PageWrites) (c : RedoRange) (pages : SegmentPages) : Type 0 where
  pub change : slice_get w.merged.changes.items w.next ≡ Some c
  pub segment : 1 ≤ c.segment
  pub kept : slice_get w.kept.segments.items (c.segment - 1) ≡ Some pages

-- one page more is written, and it takes its place
pub record IsSettledPage (old new : PageWrites) (draft : Draft) : Type 0 where
  pub logs : new.kept.logs ≡ old.kept.logs
  pub merged : new.merged ≡ old.merged
  pub current : new.current ≡ None
  pub written : new.written ≡ old.written + 1
  pub segments : (c : RedoRange) (pages : SegmentPages) → IsNext old c pages →
      (renewed : SegmentPages) × (new.kept.segments.items ≡ slice_set old.kept.segments.items (c.segment - 1) renewed)
      × (renewed.texts ≡ slice_set pages.texts draft.page (settled (entry_at pages.texts draft.page) draft.seq))
      × (renewed.bytes.items ≡ overlaid pages.bytes.items (draft.page * 256) draft.bytes)

module _ {D : Type 0} (a : Ghosts D) where
  -- the area reads as these words, and no position is dirty
  pub record ReadsWords (words : List ℕ) (area : D) : Type 0 where
    pub clean : IsClean (a.dirty area)
    pub words_are : words_of (a.now area) ≡ words

  -- the area has this page as it is kept, whatever a stop leaves of it
  pub record RestsAt (pages : SegmentPages) (area : D) (page : ℕ) : Type 0 where
    pub settled : IsSettled (a.now area) (a.dirty area) page (entry_text (entry_at pages.texts page))
    pub content : (page_in (a.now area) page).content ≡ bytes_of_page pages page

  -- all pages as they are kept, and no position is dirty
  pub record Rests (g : Geometry) (pages : SegmentPages) (area : D) : Type 0 where
    pub clean : IsClean (a.dirty area)
    pub rests : (page : ℕ) → page < g.pages → RestsAt pages area page

  -- while pages are written
  pub record RestsOrWrites (g : Geometry) (w : PageWrites) (s : ℕ) (pages : SegmentPages) (area : D) : Type 0 where
    pub clean : ((page : ℕ) (write : Writing) → IsCurrent w (s + 1) page write → ⊥) → IsClean (a.dirty area)
    pub rests : (page : ℕ) → page < g.pages → ((write : Writing) → IsCurrent w (s + 1) page write → ⊥) → RestsAt pages area page
    pub writes : (page : ℕ) (write : Writing) → IsCurrent w (s + 1) page write →
        IsUnderWay a area write (entry_text (entry_at pages.texts page)) (record { sequence = (entry_at pages.texts page).stable; content = bytes_of_page pages page })

  -- no position is dirty, and the first gate reads closed
  pub record IsEmptied (area : D) : Type 0 where
    pub clean : IsClean (a.dirty area)
    pub closed : slice_index (a.now area) 0 % 256 ≢ 165

  -- a log, while logs are emptied
  abbrev pub LogIs : LogResets → ℕ → D → Type 0
  LogIs r log area =
      ((log < r.next) × IsEmptied area)
      ⊎ ((log ≡ r.next) × (r.is_closing ≡ true) × ((records : List Record) → IsLogText (slice_index_or r.logs.items log []) records → IsShut (a.now area) (a.dirty area) records))
      ⊎ ((r.next ≤ log) × (log ≡ r.next → r.is_closing ≡ false) × ReadsWords (slice_index_or r.logs.items log []) area)

  -- no position of it is dirty, and where its words are kept they are those that it reads as
  pub record HasItsWords (logs : List (List ℕ)) (log : ℕ) (area : D) : Type 0 where
    pub clean : IsClean (a.dirty area)
    pub words_are : (words : List ℕ) → slice_get logs log ≡ Some words → words ≡ words_of (a.now area)

  -- so with the pages of a segment
  pub record HasItsPages (g : Geometry) (segments : List SegmentPages) (s : ℕ) (area : D) : Type 0 where
    pub clean : IsClean (a.dirty area)
    pub pages_are : (pages : SegmentPages) → slice_get segments s ≡ Some pages → AreKept (a.now area) g.pages pages

  -- what is known of the log of a node, of an area that is honest
  abbrev pub LogFits : RecoveryPhase → ℕ → D → Type 0
  LogFits (Syncing synced) log area = log < synced → IsClean (a.dirty area)
  LogFits (Reading r) log area = HasItsWords r.kept.logs.items log area
  LogFits (WritingPages w) log area = ReadsWords (slice_index_or w.kept.logs.items log []) area
  LogFits (Resetting r) log area = LogIs r log area
  LogFits (Done f) log area = IsEmptied area

  -- what is known of the area of a segment, counted from 0, which is honest
  abbrev pub SegmentFits : Geometry → RecoveryPhase → ℕ → D → Type 0
  SegmentFits g (Syncing synced) s area = g.nodes + s < synced → IsClean (a.dirty area)
  SegmentFits g (Reading r) s area = HasItsPages g r.kept.segments.items s area
  SegmentFits g (WritingPages w) s area =
      (pages : SegmentPages) → slice_get w.kept.segments.items s ≡ Some pages → RestsOrWrites g w s pages area
  SegmentFits g (Resetting r) s area = (pages : SegmentPages) → slice_get r.segments.items s ≡ Some pages → Rests g pages area
  SegmentFits g (Done f) s area = (pages : SegmentPages) → slice_get f.segments.items s ≡ Some pages → Rests g pages area

  -- an area has its length, and while it is honest its bytes are bytes, and it is as its part has it
  pub record AreaFits (g : Geometry) (stage : RecoveryPhase) (k : ℕ) (area : D) : Type 0 where
    pub len : Some (length (a.now area)) ≡ area_len g k
    pub bytes : a.honest area ≡ true → (at : ℕ) → slice_index_or (a.now area) at 0 < 256
    pub log : a.honest area ≡ true → k < g.nodes → LogFits stage k area
    pub segment : a.honest area ≡ true → g.nodes ≤ k → SegmentFits g stage (k - g.nodes) area

  -- the areas in a part of the recovery
  pub record AreasFit (g : Geometry) (stage : RecoveryPhase) (areas : List D) : Type 0 where
    pub count : length areas ≡ area_count g
    pub each : (k : ℕ) (area : D) → slice_get areas k ≡ Some area → AreaFits g stage k area

  -- a recovery and its areas
  abbrev pub Fits : Geometry → RecoveryPhase → List D → Type 0
  Fits g stage areas = AreasFit g stage areas × IsSound g stage

  -- a call after which the area reads the same, and no position has become dirty
  pub record Quiet (old new : D) : Type 0 where
    pub honest : a.honest new ≡ a.honest old
    pub len : length (a.now new) ≡ length (a.now old)
    pub same : a.honest old ≡ true → a.now new ≡ a.now old
    pub clean : a.honest old ≡ true → (k : ℕ) → a.dirty old k ≡ false → a.dirty new k ≡ false

  -- one call of this area, which failed or not: the area is as one call leaves it; nothing else has changed
  pub record OneCall (at : ℕ) (olds news : List D) (ok : Bool) : Type 0 where
    pub old : D
    pub new : D
    pub was : slice_get olds at ≡ Some old
    pub is : news ≡ slice_set olds at new
    pub honest : a.honest new ≡ a.honest old
    pub counted : a.failures new ≡ (if ok then a.failures old else a.failures old + 1)
    pub call : IsOneCall a ok old new
