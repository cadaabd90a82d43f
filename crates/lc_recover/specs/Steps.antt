-- How many steps of a recovery are done, and how many are left of its parts.
use Rattle.std.specs.Prelude.{ℕ, ◌+◌, ◌*◌, ◌<◌, if◌then◌else◌, List, [], length, map, drop, Option, Some, None}
use Rattle.lc_record.specs.declared.geometry.Geometry.{Geometry}
use Rattle.lc_page.specs.Writing.{calls_of}
use Rattle.lc_page.specs.declared.writing.Writing.{Writing}
use Rattle.lc_model.specs.Merge.{Page}
use Rattle.lc_recover.specs.KeptAreas.{read_count}
use Rattle.lc_recover.specs.Page.{pages_of}
use Rattle.lc_recover.specs.Pages.{kept_pages}
use Rattle.lc_recover.specs.Reads.{area_count}
use Rattle.lc_recover.specs.declared.log_resets.LogResets.{LogResets}
use Rattle.lc_recover.specs.declared.page_writes.PageWrites.{PageWrites}
use Rattle.lc_recover.specs.declared.recovery_phase.RecoveryPhase.{RecoveryPhase}
use Rattle.lc_recover.specs.declared.recovery_phase.RecoveryPhase.TheVariants.{Syncing, Reading, Writing as WritingPages, Resetting, Done}

-- the steps up to the merge: a sync and a read of each area, and the merge
abbrev pub first_steps : Geometry → ℕ
first_steps g = 2 * area_count g + 1

-- how many calls of a page write are done, 0 where none has begun
abbrev pub calls_done : Option Writing → ℕ
calls_done None = 0
calls_done (Some write) = calls_of write

-- how many calls of the page writes are done
abbrev pub writes_done : PageWrites → ℕ
writes_done w = 6 * w.written + calls_done w.current

-- how many calls of the resets are done
abbrev pub resets_done : LogResets → ℕ
resets_done r = 2 * r.next + (if r.is_closing then 1 else 0)

-- how many steps are done
abbrev pub steps_of : Geometry → RecoveryPhase → ℕ
steps_of g (Syncing synced) = synced
steps_of g (Reading r) = area_count g + read_count r
steps_of g (WritingPages w) = first_steps g + writes_done w
steps_of g (Resetting r) = first_steps g + 6 * r.written + resets_done r
steps_of g (Done f) = first_steps g + 6 * f.written + 2 * g.nodes

-- the pages that are written, and those of the changes that are left
abbrev pub all_pages : PageWrites → ℕ
all_pages w = w.written + length (pages_of (drop w.next w.merged.changes.items))

-- how many pages are to be written in all, once all is merged
abbrev pub pages_in : RecoveryPhase → Option ℕ
pages_in (Syncing synced) = None
pages_in (Reading r) = None
pages_in (WritingPages w) = Some (all_pages w)
pages_in (Resetting r) = Some r.written
pages_in (Done f) = Some f.written

-- the pages that are still to be written, in order
abbrev pub pages_left : RecoveryPhase → List (ℕ × ℕ)
pages_left (Syncing synced) = []
pages_left (Reading r) = []
pages_left (WritingPages w) = pages_of (drop w.next w.merged.changes.items)
pages_left (Resetting r) = []
pages_left (Done f) = []

-- the pages of each segment as they are kept, once all is merged
abbrev pub pages_kept : RecoveryPhase → List (List Page)
pages_kept (Syncing synced) = []
pages_kept (Reading r) = []
pages_kept (WritingPages w) = map kept_pages w.kept.segments.items
pages_kept (Resetting r) = map kept_pages r.segments.items
pages_kept (Done f) = map kept_pages f.segments.items

-- while logs are emptied one is left
abbrev pub HasNext : Geometry → RecoveryPhase → Type 0
HasNext g (Syncing synced) = Unit {0}
HasNext g (Reading r) = Unit {0}
HasNext g (WritingPages w) = Unit {0}
HasNext g (Resetting r) = r.next < g.nodes
HasNext g (Done f) = Unit {0}

-- no step is left
abbrev pub IsOver : RecoveryPhase → Type 0
IsOver (Syncing synced) = ⊥
IsOver (Reading r) = ⊥
IsOver (WritingPages w) = ⊥
IsOver (Resetting r) = ⊥
IsOver (Done f) = Unit {0}
