-- What is handed over of a cluster at rest, and what its types keep of it.
use Rattle.std.specs.Prelude.{◌≡◌, ℕ, ◌+◌, ◌*◌, ◌^◌, ◌<◌, ◌≤◌, true, List, length, All, Some, slice_get}
use Rattle.lc_disk.specs.declared.area.Area.{Ghosts}
use Rattle.lc_page.specs.PageVector.{entry_at}
use Rattle.lc_page.specs.PageWrite.{SettledIn}
use Rattle.lc_page.specs.declared.page_text.PageText.{PageText}
use Rattle.lc_record.specs.declared.geometry.Geometry.{Geometry}
use Rattle.lc_record.specs.declared.record.Lock.{Lock}
use Rattle.lc_record.specs.declared.record.Record.{Record}
use Rattle.lc_log.specs.LogText.{IsWhole, joined}
use Rattle.lc_log.specs.NodeLog.{IsIdle}
use Rattle.lc_token.specs.KnownClean.{known as known_of}
use Rattle.lc_rest.specs.declared.node_part.NodePart.{NodePart}
use Rattle.lc_rest.specs.declared.parts.Parts.{Parts}
use Rattle.lc_rest.specs.declared.segment_part.SegmentPart.{SegmentPart}

-- the words are those of these records, one after another
pub record AreSpelled (words : List ℕ) (records : List Record) : Type 0 where
  pub text : words ≡ joined records
  pub whole : All IsWhole records

-- no number of the record is above what is known as clean
abbrev pub IsKnownClean : List ℕ → Record → Type 0
IsKnownClean known r = All (λ (lock : Lock). lock.seq ≤ known_of known lock.segment) r.locks

module _ {D : Type 0} (a : Ghosts D) where
  -- the words of a node are those of its records: of the rounds that have ended, known to be clean; of the log, which
  -- is at rest; and of what is staged, which fits after those of the log. Its round is one of those that there are
  pub record KeepsLog (g : Geometry) (part : NodePart D a) : Type 0 where
    pub ended : List Record
    pub stable : List Record
    pub staged : List Record
    pub ended_are : AreSpelled part.ended.items ended
    pub stable_are : AreSpelled part.stable.items stable
    pub staged_are : AreSpelled part.staged.items staged
    pub log : IsIdle a part.log.area part.log.end stable
    pub end : part.log.end ≡ length part.stable.items
    pub clean : All (IsKnownClean part.known) ended
    pub room : part.log.end + length part.staged.items ≤ g.words
    pub area : length (a.now part.log.area) ≡ 8 * (g.words + 1)
    pub few_rounds : part.round < 2 ^ 48

  -- whatever a stop leaves of a page reads as the area does, from the same slots, and has its gates; no byte of it is uncommitted
  pub record KeepsPages (g : Geometry) (part : SegmentPart D) : Type 0 where
    pub area : length (a.now part.area) ≡ 2 * 272 * g.pages
    pub settled : (page : ℕ) → page < g.pages → (text : PageText) × SettledIn a part.area page text
    pub free : (page : ℕ) → page < length part.token.pages → (entry_at part.token.pages page).uncommitted ≡ 0

  -- so it is with all nodes and all segments
  pub record AreKept (parts : Parts D a) : Type 0 where
    pub nodes : length parts.nodes.items ≡ parts.geometry.nodes
    pub segments : length parts.segments.items ≡ parts.geometry.segments
    pub logs : (n : ℕ) (part : NodePart D a) → slice_get parts.nodes.items n ≡ Some part → KeepsLog parts.geometry part
    pub images : (n : ℕ) (part : NodePart D a) → slice_get parts.nodes.items n ≡ Some part → (length part.images.items ≡ parts.geometry.segments) × (length part.applied.items ≡ parts.geometry.segments)
    pub pages : (k : ℕ) (part : SegmentPart D) → slice_get parts.segments.items k ≡ Some part → KeepsPages parts.geometry part

  -- each area keeps to the model of a disk
  abbrev pub AreHonest : Parts D a → Type 0
  AreHonest parts =
      ((n : ℕ) (part : NodePart D a) → slice_get parts.nodes.items n ≡ Some part → a.honest part.log.area ≡ true)
      × ((k : ℕ) (part : SegmentPart D) → slice_get parts.segments.items k ≡ Some part → a.honest part.area ≡ true)

  -- a call on the area of a segment has failed
  abbrev pub FailsOnce : Parts D a → Type 0
  FailsOnce parts = (k : ℕ) × (part : SegmentPart D) × (slice_get parts.segments.items k ≡ Some part) × ((later : D) × (a.failures later ≡ a.failures part.area + 1))
