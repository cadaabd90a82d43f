-- The headline. The answers to every list of events of any nodes and threads, with stops anywhere among
-- them, are a run of the plain machine; and whatever a stop leaves of the areas merges to the value of
-- a prefix of a serial order of the committed transactions, which has every acknowledged commit.
use Rattle.std.specs.Prelude.{◌≡◌, ℕ, ◌+◌, ◌<◌, ◌≤◌, List, [], ◌∷◌, ◌++◌, length, filter, sum_by, IsPermutation, slice_index}
use Rattle.lc_disk.specs.declared.area.Area.{Ghosts}
use Rattle.lc_record.specs.Content.{Content, segment_of}
use Rattle.lc_record.specs.Transaction.{Transaction, effects}
use Rattle.lc_record.specs.declared.geometry.Geometry.{Geometry}
use Rattle.lc_recover.specs.Reads.{AreHonest, AreImages, HaveLengths}
use Rattle.lc_recover.specs.ReadsAs.{ReadsAs}
use Rattle.lc_model.specs.History.{Cut, KeepsOrder, front, kept, rest, transactions, value}
use Rattle.lc_model.specs.Machine.{Run}
use Rattle.lc_model.specs.Merge.{MergesTo, StoreText}
use Rattle.lc_model.specs.Merging.{counted_all}
use Rattle.lc_model.specs.Refusals.{is_up}
use Rattle.lc_model.specs.State.{Phase as Condition, Up as IsUpNow, DownAt, Setting, State, first_state}
use Rattle.lc_model.specs.Stops.{MayCut}
use Rattle.lc_model.specs.declared.event.Event.{Event}
use Rattle.lc_model.specs.declared.event.Event.TheVariants.{RecoverStep}
use Rattle.lc_model.specs.declared.reply.Reply.{Reply}
use Rattle.lc_model.specs.declared.reply.Reply.TheVariants.{Recovered}
use Rattle.lc_journal.specs.FaultReplies.{is_fault}
use Rattle.lc_core.specs.Observed.{Observed}
use Rattle.lc_desk.specs.Showing.{page_of}

-- the cuts that a state knows: each closed one that a stop may make; of a store that is down the one that
-- its stop made
abbrev pub Cuts : Condition → Geometry → State → Cut → Type 0
Cuts IsUpNow g s cut = MayCut g s cut
Cuts (DownAt made) g s cut = (cut ≡ made) × MayCut g s cut

-- the history in another order: what the cut keeps, then the rest
abbrev pub kept_first : State → Cut → List Transaction
kept_first s cut = kept s.history cut ++ rest s.history cut

-- what recoveries kept and then these are a serial order: it has each transaction once, the value of all,
-- and any two that meet in their order; what the cut keeps was closed, and has all that is acknowledged
pub record IsSerial (m : Setting) (s : State) (cut : Cut) : Type 0 where
  pub each_once : IsPermutation (transactions s.history) (kept_first s cut)
  pub value_is : effects (s.earlier ++ kept_first s cut) m.start ≡ value m.start s.earlier s.history
  pub in_order : KeepsOrder (transactions s.history) (kept_first s cut)
  pub closed : (node : ℕ) → slice_index cut node ≤ front node s.history
  pub acknowledged : (node : ℕ) → node < m.geometry.nodes → s.ack node ≤ slice_index cut node

-- these images read as a store, and it merges, without a refusal, to this result
abbrev pub MergeTo : Geometry → List (List ℕ) → Content → (ℕ → ℕ) → Type 0
MergeTo g images content numbers = (store : StoreText) × ReadsAs g images store × MergesTo store content numbers

-- these merge to the value of such a prefix, with the numbers of its transactions
pub record IsPrefix (m : Setting) (s : State) (numbers : ℕ → ℕ) (images : List (List ℕ)) : Type 0 where
  pub cut : Cut
  pub cuts : Cuts s.phase m.geometry s cut
  pub serial : IsSerial m s cut
  pub merges : MergeTo m.geometry images
      (effects (s.earlier ++ kept s.history cut) m.start)
      (counted_all numbers (s.earlier ++ kept s.history cut))

-- where the events end with a recovery, each page that is lent is its part of what recoveries kept
abbrev pub ShowsKept : Setting → State → List Event → List Reply → (ℕ → ℕ → ℕ → List ℕ → Type 0) → Type 0
ShowsKept m after events replies Lends =
    (before : List Event) (told : List Reply)
    → events ≡ before ++ RecoverStep ∷ [] → replies ≡ told ++ Recovered ∷ []
    → (node segment page : ℕ) (bytes : List ℕ) → Lends node segment page bytes
    → bytes ≡ page_of (segment_of segment (effects after.earlier m.start)) page

-- the answers are a run of the plain machine to this state, and the store is up exactly where the state is
pub record Answers {D : Type 0} (m : Setting) (events : List Event) (replies : List Reply) (new : Observed D)
    (after : State) : Type 0 where
  pub run : Run m (first_state m.geometry) events replies after
  pub up : new.up ≡ is_up after.phase
  pub shown : ShowsKept m after events replies new.lends

module _ {D : Type 0} (a : Ghosts D) where
  -- areas of the geometry, which keep to the model of a disk, and have failed so often in all; whatever
  -- a stop leaves of them is such a prefix
  pub record Leaves (m : Setting) (s : State) (numbers : ℕ → ℕ) (failures : ℕ) (areas : List D)
      : Type 0 where
    pub lengths : HaveLengths a m.geometry areas
    pub honest : AreHonest a areas
    pub faults : sum_by a.failures areas ≡ failures
    pub left : (images : List (List ℕ)) → AreImages a areas images → IsPrefix m s numbers images

  -- the answers are so, with a fault for each failure of a device; the store has areas, and gives back such
  pub record Holds (m : Setting) (numbers : ℕ → ℕ) (events : List Event) (replies : List Reply)
      (failures : ℕ) (new : Observed D) : Type 0 where
    pub after : State
    pub answers : Answers m events replies new after
    pub some_areas : (areas : List D) × new.gives m.geometry areas
    pub leaves : (g : Geometry) (areas : List D) → new.gives g areas → (g ≡ m.geometry)
        × Leaves m after numbers (failures + length (filter is_fault replies)) areas

  -- whatever a stop may have left of these areas merges to one result
  abbrev pub AllMerge : Geometry → List D → Content → (ℕ → ℕ) → Type 0
  AllMerge g areas content numbers =
      (images : List (List ℕ)) → AreImages a areas images → MergeTo g images content numbers

  -- where the areas are honest, and do so
  abbrev pub Headline : Geometry → List D → List Event → List Reply → Observed D → Type 0
  Headline g areas events replies new =
      (start : Content) (numbers : ℕ → ℕ) → AreHonest a areas → AllMerge g areas start numbers
      → Holds (record { geometry = g; start = start }) numbers events replies (sum_by a.failures areas) new
