-- The pages of files, each at any stage of its write, beside one another.
use Rattle.std.specs.Prelude.{◌≡◌, ◌⊎◌, ℕ, ◌+◌, ◌-◌, ◌<◌, ◌≤◌, Bool, true, List, [], ◌∷◌, length, map, Some, slice_get}
use Rattle.lc_disk.specs.Area.{IsClean}
use Rattle.lc_disk.specs.declared.area.Area.{Ghosts}
use Rattle.lc_record.specs.Content.{Content, segment_of}
use Rattle.lc_record.specs.Words.{words_of}
use Rattle.lc_record.specs.declared.geometry.Geometry.{Geometry}
use Rattle.lc_log.specs.InPlace.{records_in}
use Rattle.lc_log.specs.NodeLog.{LeavesOnly, IsWithOrWithout}
use Rattle.lc_page.specs.Page.{Page, slot_at, page_in, text_in}
use Rattle.lc_page.specs.PageVector.{settled_text}
use Rattle.lc_page.specs.PageWrite.{IsBegun, IsSettled, behind_gate, closing_bytes, drafted, Writes, Syncs, KeepsPage, ClosingIn, ClosedIn, FillingIn, FilledIn, OpeningIn}
use Rattle.lc_page.specs.declared.draft.Draft.{Draft}
use Rattle.lc_page.specs.declared.page_text.PageText.{PageText}
use Rattle.lc_model.specs.Merge.{Page as StorePage, MergesTo}
use Rattle.lc_model.specs.Recovered.{IsBehind}
use Rattle.lc_model.specs.Stored.{page_bytes}
use Rattle.lc_recover.specs.Reads.{AreHonest, HaveLengths, store_of}

-- how far the write of a page is: which of its six calls was the last that was made on its file
pub data PageStage : Type 0 where
  Unwritten : PageStage
  ClosingGate : PageStage
  ClosedGate : PageStage
  FillingSlot : PageStage
  FilledSlot : PageStage
  OpeningGate : PageStage
  Written : PageStage

-- one call more
abbrev pub next_stage : PageStage → PageStage
next_stage Unwritten = ClosingGate
next_stage ClosingGate = ClosedGate
next_stage ClosedGate = FillingSlot
next_stage FillingSlot = FilledSlot
next_stage FilledSlot = OpeningGate
next_stage OpeningGate = Written
next_stage Written = Written

-- a page that is to be written: the place of its area, whether the gate of its free slot reads as open, and what is written
pub record PagePlan : Type 0 where
  pub place : ℕ
  pub gate : Bool
  pub draft : Draft

-- the segment of an area
abbrev pub segment_at : Geometry → ℕ → ℕ
segment_at g place = (place - g.nodes) + 1

-- one of these is of the page of the area at this place
abbrev pub HasPlan : List PagePlan → ℕ → ℕ → Type 0
HasPlan plans place page = (k : ℕ) × (p : PagePlan) × (slice_get plans k ≡ Some p) × (p.place ≡ place) × (p.draft.page ≡ page)

module _ {D : Type 0} (a : Ghosts D) where
  -- the areas are as long as the geometry says and keep to the model of a disk, nothing of them is dirty, and what they read
  -- as merges to this
  pub record AreFound (g : Geometry) (begins : List D) (content : Content) (numbers : ℕ → ℕ) : Type 0 where
    pub lengths : HaveLengths a g begins
    pub honest : AreHonest a begins
    pub clean : (k : ℕ) (area : D) → slice_get begins k ≡ Some area → IsClean (a.dirty area)
    pub merges : MergesTo (store_of g (map a.now begins)) content numbers

  -- the page of this area gets its part of the result, under its segment's number, in its free slot
  pub record IsPlanned (g : Geometry) (content : Content) (numbers : ℕ → ℕ) (p : PagePlan) (begin : D) : Type 0 where
    pub of_segment : g.nodes ≤ p.place
    pub within : p.draft.page < g.pages
    pub begun : IsBegun p.draft p.gate (text_in (a.now begin) p.draft.page)
    pub seq : p.draft.seq ≡ numbers (segment_at g p.place)
    pub bytes : p.draft.bytes ≡ page_bytes (segment_at g p.place) p.draft.page content

  -- so with each of these; no page has two of them, and each page that some record is newer than has one
  pub record ArePlans (g : Geometry) (begins : List D) (content : Content) (numbers : ℕ → ℕ) (plans : List PagePlan) : Type 0 where
    pub each : (k : ℕ) (p : PagePlan) → slice_get plans k ≡ Some p → (begin : D) × (slice_get begins p.place ≡ Some begin) × IsPlanned g content numbers p begin
    pub apart : (j k : ℕ) (p q : PagePlan) → slice_get plans j ≡ Some p → slice_get plans k ≡ Some q → p.place ≡ q.place → p.draft.page ≡ q.draft.page → j ≡ k
    pub whole : (s page : ℕ) (text : StorePage) → slice_get (segment_of (s + 1) (store_of g (map a.now begins)).pages) page ≡ Some text →
        IsBehind (store_of g (map a.now begins)) (s + 1) page text → HasPlan plans (g.nodes + s) page

  -- a sync, which need not be made of an area of which nothing is dirty
  abbrev pub IsSync : D → D → Bool → Type 0
  IsSync old new ok = Syncs a old new ok ⊎ ((ok ≡ true) × (new ≡ old) × (a.honest old ≡ true → IsClean (a.dirty old)))

  -- the call of the page's write that comes next, which was made or failed
  abbrev pub IsNextCall : PageStage → PagePlan → D → D → Bool → Type 0
  IsNextCall Unwritten p old new ok = Writes a p.draft.page (slot_at p.draft.page p.draft.slot) (closing_bytes p.gate) old new ok
  IsNextCall ClosingGate p old new ok = IsSync old new ok
  IsNextCall ClosedGate p old new ok = Writes a p.draft.page (slot_at p.draft.page p.draft.slot + 1) (behind_gate p.draft.seq p.draft.bytes) old new ok
  IsNextCall FillingSlot p old new ok = IsSync old new ok
  IsNextCall FilledSlot p old new ok = Writes a p.draft.page (slot_at p.draft.page p.draft.slot) (165 ∷ []) old new ok
  IsNextCall OpeningGate p old new ok = IsSync old new ok
  IsNextCall Written p old new ok = ⊥

  -- a page that the area's text was this of, and that was this one, is at a stage of its write
  abbrev pub IsAt : PageStage → Draft → PageText → Page → D → Type 0
  IsAt Unwritten draft text old area = a.honest area ≡ true → IsSettled (a.now area) (a.dirty area) draft.page text × (page_in (a.now area) draft.page ≡ old)
  IsAt ClosingGate draft text old area = ClosingIn a area draft text old
  IsAt ClosedGate draft text old area = ClosedIn a area draft text old
  IsAt FillingSlot draft text old area = FillingIn a area draft text old
  IsAt FilledSlot draft text old area = FilledIn a area draft text old
  IsAt OpeningGate draft text old area = OpeningIn a area draft text old
  IsAt Written draft text old area =
      a.honest area ≡ true → IsSettled (a.now area) (a.dirty area) draft.page (settled_text text draft.seq) × (page_in (a.now area) draft.page ≡ drafted draft)

  -- an area is as long and as honest as it was
  pub record IsSameDevice (begin area : D) : Type 0 where
    pub honest : a.honest area ≡ a.honest begin
    pub len : length (a.now area) ≡ length (a.now begin)

  -- the logs are as they were found, each planned page is at a stage of its own, and what is inside of every other page is as
  -- it was found
  pub record AreBeside (g : Geometry) (begins : List D) (plans : List PagePlan) (stages : List PageStage) (areas : List D) : Type 0 where
    pub count : length stages ≡ length plans
    pub same_count : length areas ≡ length begins
    pub logs : (k : ℕ) → k < g.nodes → slice_get areas k ≡ slice_get begins k
    pub alike : (k : ℕ) (begin area : D) → slice_get begins k ≡ Some begin → slice_get areas k ≡ Some area → IsSameDevice begin area
    pub planned : (k : ℕ) (p : PagePlan) (stage : PageStage) (begin area : D) → slice_get plans k ≡ Some p → slice_get stages k ≡ Some stage →
        slice_get begins p.place ≡ Some begin → slice_get areas p.place ≡ Some area →
        IsAt stage p.draft (text_in (a.now begin) p.draft.page) (page_in (a.now begin) p.draft.page) area
    pub others : (place page : ℕ) (begin area : D) → g.nodes ≤ place → page < g.pages → (HasPlan plans place page → ⊥) →
        slice_get begins place ≡ Some begin → slice_get areas place ≡ Some area → KeepsPage a page begin area

  -- the areas of segments are as they were, and whatever a stop leaves of a log has all its records or none
  pub record AreReset (g : Geometry) (areas laters : List D) : Type 0 where
    pub lengths : HaveLengths a g laters
    pub honest : AreHonest a laters
    pub segments : (k : ℕ) → g.nodes ≤ k → slice_get laters k ≡ slice_get areas k
    pub logs : (k : ℕ) (area later : D) → k < g.nodes → slice_get areas k ≡ Some area → slice_get laters k ≡ Some later →
        LeavesOnly a later (IsWithOrWithout [] (records_in (words_of (a.now area))))
