-- Of the store: what is shown of the log of a node, and what stays as it was.
use Rattle.std.specs.Prelude.{◌≡◌, ℕ, ◌<◌, ◌⊎◌, nat_lt, Bool, true, List, [], drop, take, Option, None, Some, MatchBool, if◌then◌else◌, slice_get}
use Rattle.lc_disk.specs.declared.area.Area.{Ghosts}
use Rattle.lc_record.specs.Words.{words_of}
use Rattle.lc_record.specs.declared.record.Record.{Record}
use Rattle.lc_log.specs.LogText.{IsLogText, joined}
use Rattle.lc_model.specs.State.{Up as IsUp, Setting, State}
use Rattle.lc_model.specs.Stored.{records_of}
use Rattle.lc_core.specs.Geometries.{phase_geometry}
use Rattle.lc_core.specs.Lives.{StillLives}
use Rattle.lc_settled.specs.Numbers.{Numbers, stable_records}
use Rattle.lc_core.specs.Pages.{areas_of}
use Rattle.lc_core.specs.World.{FitsPhase}
use Rattle.lc_core.specs.declared.world_phase.WorldPhase.{WorldPhase}
use Rattle.lc_core.specs.declared.world_phase.WorldPhase.TheVariants.{Down, Up, Taken}
use Rattle.lc_events.specs.LogWords.{log_in}
use Rattle.lc_journal.specs.LogWords.{IsRead}

-- the records of a node that its log has: those that are stable, and from the third step of a flush on its group; from the
-- second step of a reset on none
abbrev pub logged_records : Setting → State → Numbers → ℕ → List Record
logged_records m s x node =
    if nat_lt 1 (x.reset node) then []
    else if nat_lt 2 (s.flush node).steps then drop (x.disks.dropped node) (take (s.flush node).taken (records_of m s x.disks node))
    else stable_records m s x node

-- these are their words; at a node that a fault has halted, those of the stable ones, or of these and the whole group, or,
-- where a reset was under way, none
abbrev pub AreLogged : Setting → State → Numbers → ℕ → List ℕ → Type 0
AreLogged m s x node words = MatchBool (s.halted node)
    ((words ≡ joined (stable_records m s x node))
    ⊎ ((words ≡ joined (drop (x.disks.dropped node) (take (s.flush node).taken (records_of m s x.disks node))))
    ⊎ ((0 < x.reset node) × (words ≡ []))))
    (words ≡ joined (logged_records m s x node))

module _ {D : Type 0} (a : Ghosts D) where
  abbrev pub log_area : WorldPhase D a → ℕ → Option D
  log_area (Down recovery) node = if nat_lt node recovery.geometry.nodes then slice_get recovery.areas node else None
  log_area (Up up) node = (log_in a) up.running.nodes.items node
  log_area Taken node = None

  -- the areas of the segments
  abbrev pub segment_areas : WorldPhase D a → List D
  segment_areas (Down recovery) = drop recovery.geometry.nodes recovery.areas
  segment_areas (Up up) = areas_of a up.segments.items
  segment_areas Taken = []

  -- no area has changed but that of a node's log, and not the geometry; whatever the store fitted, it still fits, and it lives on
  pub record IsSameBut (node : ℕ) (old new : WorldPhase D a) : Type 0 where
    pub others : (other : ℕ) → (other ≡ node → ⊥) → log_area new other ≡ log_area old other
    pub segments : segment_areas new ≡ segment_areas old
    pub geometry : phase_geometry a new ≡ phase_geometry a old
    pub still : (m : Setting) (s : State) (x : Numbers) → FitsPhase a m old s x → FitsPhase a m new s x
    pub lives : StillLives a old new

  -- the area of a node's log was read
  pub record ReadsLog (node : ℕ) (area : D) (old new : WorldPhase D a) (failed : Bool) : Type 0 where
    pub next : D
    pub there : log_area new node ≡ Some next
    pub read : (IsRead a) area next failed
    pub same : IsSameBut node old new

  -- there is none to be read
  pub record ReadsNone (node : ℕ) (old new : WorldPhase D a) : Type 0 where
    pub there : log_area new node ≡ None
    pub same : IsSameBut node old new

  -- these are the words of the records of this area, as it reads
  abbrev pub AreWordsOf : D → List ℕ → Type 0
  AreWordsOf area words = a.honest area ≡ true → (records : List Record) → IsLogText (words_of (a.now area)) records → words ≡ joined records

  -- and of the records that the machine's node has logged, while it is up
  abbrev pub ShowRecords : WorldPhase D a → ℕ → List ℕ → Type 0
  ShowRecords phase node words =
      (m : Setting) (s : State) (x : Numbers) → FitsPhase a m phase s x → s.phase ≡ IsUp → AreLogged m s x node words
