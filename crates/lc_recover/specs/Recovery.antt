-- A recovery and what it has made of a store, as contracts see them.
use Rattle.std.specs.Prelude.{◌⊎◌, ◌≡◌, ◌↔◌, ℕ, ◌+◌, ◌*◌, ◌<◌, ◌≤◌, List, [], ◌∷◌, length, map, take, drop, Bool, true, Option, None, Some, Contains, slice_get, slice_set, ◌-◌}
use Rattle.lc_disk.specs.declared.area.Area.{Ghosts}
use Rattle.lc_record.specs.declared.geometry.Geometry.{Geometry}
use Rattle.lc_record.specs.Content.{Content, segment_of}
use Rattle.lc_model.specs.Merge.{Page, StoreText, MergesTo}
use Rattle.lc_model.specs.Recovered.{IsBehind}
use Rattle.lc_recover.specs.Fault.{IsRefusal}
use Rattle.lc_recover.specs.StoreContents.{HasNewer}
use Rattle.lc_recover.specs.Page.{ArePagesAscending}
use Rattle.lc_recover.specs.Reads.{area_count, area_len, store_of, AllMergeTo}
use Rattle.lc_recover.specs.Shows.{new_page}
use Rattle.lc_recover.specs.RecoveryPhase.{Fits, OneCall}
use Rattle.lc_recover.specs.Steps.{first_steps, steps_of, pages_in, HasNext, pages_left, pages_kept}
use Rattle.lc_recover.specs.declared.fault.RecoverFault.{RecoverFault}
use Rattle.lc_recover.specs.declared.progress.Progress.{Progress}
use Rattle.lc_recover.specs.declared.progress.Progress.TheVariants.{Stepped, Recovered}
use Rattle.lc_recover.specs.declared.recovery_phase.RecoveryPhase.{RecoveryPhase}

-- The areas of a store as they are now, and how many steps of their recovery are done. Once all is merged: how many pages
-- are to be written in all, the pages of each segment as the recovery has them, and which of them are still to be written,
-- in order.
pub record Recovering (D : Type 0) : Type 0 where
  pub geometry : Geometry
  pub areas : List D
  pub steps : ℕ
  pub pages : Option ℕ
  pub kept : List (List Page)
  pub left : List (ℕ × ℕ)

-- a recovery in a part
abbrev pub recovering : {D : Type 0} → Geometry → List D → RecoveryPhase → Recovering D
recovering g areas stage = record {
  geometry = g;
  areas = areas;
  steps = steps_of g stage;
  pages = pages_in stage;
  kept = pages_kept stage;
  left = pages_left stage;
}

-- one of areas of which nothing is done yet
abbrev pub begun : {D : Type 0} → Geometry → List D → Recovering D
begun g areas = record { geometry = g; areas = areas; steps = 0; pages = None; kept = []; left = [] }

-- the steps of a recovery that writes so many pages and meets no fault: each area is synced and read, all is merged, each
-- page takes six calls and each log two
abbrev pub all_steps : Geometry → ℕ → ℕ
all_steps g pages = first_steps g + 6 * pages + 2 * g.nodes

module _ {D : Type 0} where
  -- all is done
  abbrev pub IsDone : Recovering D → Type 0
  IsDone r = (pages : ℕ) × (r.pages ≡ Some pages) × (r.steps ≡ all_steps r.geometry pages)

  -- one step is left
  abbrev pub IsLast : Recovering D → Type 0
  IsLast r = (pages : ℕ) × (r.pages ≡ Some pages) × (r.steps + 1 ≡ all_steps r.geometry pages)

  -- the next step is the merge
  abbrev pub IsMergeNext : Recovering D → Type 0
  IsMergeNext r = r.steps + 1 ≡ first_steps r.geometry

  -- the next step calls this area: each in order while they are synced, and while they are read; one of a segment while
  -- pages are written; and after the last of these writes each log in order, twice
  abbrev pub Calls : Recovering D → ℕ → Type 0
  Calls r at =
      ((r.steps < area_count r.geometry) × (at ≡ r.steps))
      ⊎ ((r.steps < 2 * area_count r.geometry) × (at + area_count r.geometry ≡ r.steps))
      ⊎ ((pages : ℕ) × (r.pages ≡ Some pages) × (r.steps < first_steps r.geometry + 6 * pages) × (r.geometry.nodes ≤ at))
      ⊎ ((pages : ℕ) × (r.pages ≡ Some pages) × (first_steps r.geometry + 6 * pages + 2 * at ≤ r.steps)
      × (r.steps ≤ first_steps r.geometry + 6 * pages + 2 * at + 1))

  -- the areas are read, or all is merged, next
  abbrev pub TakesMemory : Recovering D → Type 0
  TakesMemory r = (area_count r.geometry ≤ r.steps) × (r.steps < first_steps r.geometry)

  -- what a step answers that leaves this
  abbrev pub Tells : Progress → Recovering D → Type 0
  Tells (Stepped steps) r = (steps ≡ r.steps) × (IsDone r → ⊥)
  Tells Recovered r = IsDone r

-- these are the pages of the store that some record is newer than, ascending by segment and page
pub record AreBehind (store : StoreText) (pages : List (ℕ × ℕ)) : Type 0 where
  pub ascending : ArePagesAscending pages
  pub all : (segment page : ℕ) → Contains pages (segment, page)
      ↔ ((text : Page) × (slice_get (segment_of segment store.pages) page ≡ Some text) × IsBehind store segment page text)

-- what was read of areas, each as long as the geometry says
pub record AreLong (g : Geometry) (bytes : List (List ℕ)) : Type 0 where
  pub count : length bytes ≡ area_count g
  pub lengths : (k : ℕ) (area : List ℕ) → slice_get bytes k ≡ Some area → Some (length area) ≡ area_len g k

-- it merges, without a refusal
pub record MergesRead (g : Geometry) : Type 0 where
  pub bytes : List (List ℕ)
  pub long : AreLong g bytes
  pub content : Content
  pub numbers : ℕ → ℕ
  pub merges : MergesTo (store_of g bytes) content numbers

-- it is refused so, or memory was wanted
pub record RefusesRead (g : Geometry) (fault : RecoverFault) : Type 0 where
  pub bytes : List (List ℕ)
  pub long : AreLong g bytes
  pub refuses : IsRefusal (store_of g bytes) fault

-- the store merges to some result, and some record is newer than a page of it
pub record HasPageToWrite (store : StoreText) : Type 0 where
  pub content : Content
  pub numbers : ℕ → ℕ
  pub merges : MergesTo store content numbers
  pub newer : HasNewer store

-- with this page of a segment in place of the one before
abbrev pub with_page : ℕ → ℕ → Page → List (List Page) → List (List Page)
with_page segment page text pages = slice_set pages (segment - 1) (slice_set (segment_of segment pages) page text)

-- What a recovery knows beside what it keeps

module _ {D : Type 0} (a : Ghosts D) where
  -- what is kept, and the areas, are as the part has them
  pub record IsGoing (g : Geometry) (stage : RecoveryPhase) (areas : List D) : Type 0 where
    pub fits : Fits a g stage areas
    pub next : HasNext g stage
    pub few : (pages : ℕ) → pages_in stage ≡ Some pages → pages ≤ g.segments * g.pages

  -- what the areas read as merges to a result; its pages are kept, and those that some record is newer than are left
  pub record IsMerged (r : Recovering D) : Type 0 where
    pub content : Content
    pub numbers : ℕ → ℕ
    pub merges : MergesTo (store_of r.geometry (map a.now r.areas)) content numbers
    pub pages : r.pages ≡ Some (length r.left)
    pub kept : r.kept ≡ (store_of r.geometry (map a.now r.areas)).pages
    pub behind : AreBehind (store_of r.geometry (map a.now r.areas)) r.left

  -- the page that was next is written: it has its part of the result of all images, under its segment's number
  pub record HasRenewed (old new : Recovering D) : Type 0 where
    pub segment : ℕ
    pub page : ℕ
    pub was_next : old.left ≡ (segment, page) ∷ new.left
    pub content : Content
    pub numbers : ℕ → ℕ
    pub merges : AllMergeTo a old.geometry old.areas content numbers
    pub kept : new.kept ≡ with_page segment page (new_page content numbers segment page) old.kept

  -- that, or no page is over
  abbrev pub Renews : Recovering D → Recovering D → Type 0
  Renews old new = ((new.kept ≡ old.kept) × (new.left ≡ old.left)) ⊎ HasRenewed old new

  -- one call is made, of the area that is next
  abbrev pub MakesItsCall : Recovering D → List D → Bool → Type 0
  MakesItsCall r news ok = (at : ℕ) × Calls r at × OneCall a at r.areas news ok

  -- an area was read: a buffer has its bytes, unless it failed, and it reads as before, with the same positions dirty
  pub record IsReadFrom (area at : ℕ) (was is : List ℕ) (olds news : List D) (ok : Bool) : Type 0 where
    pub call : OneCall a area olds news ok
    pub bytes : ok ≡ true → a.honest call.old ≡ true → is ≡ take (length was) (drop at (a.now call.old))
    pub same : a.honest call.old ≡ true → a.now call.new ≡ a.now call.old
    pub same_dirty : a.honest call.old ≡ true → (p : ℕ) → a.dirty call.new p ≡ a.dirty call.old p
