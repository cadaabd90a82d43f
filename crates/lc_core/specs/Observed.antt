-- What can be observed of a store by its calls.
use Rattle.std.specs.Prelude.{◌≡◌, ℕ, Bool, true, false, ◌&&◌, List}
use Rattle.lc_disk.specs.declared.area.Area.{Ghosts}
use Rattle.lc_record.specs.declared.geometry.Geometry.{Geometry}
use Rattle.lc_model.specs.Refusals.{is_node, is_page, is_segment}
use Rattle.lc_model.specs.declared.refusal.Refusal.{Refusal}
use Rattle.lc_model.specs.declared.refusal.Refusal.TheVariants.{Down as IsDown, Unknown}
use Rattle.lc_core.specs.Showing.{LendsPage}
use Rattle.lc_core.specs.Stops.{HasAreas}
use Rattle.lc_core.specs.declared.world_phase.WorldPhase.{WorldPhase}
use Rattle.lc_core.specs.declared.world_phase.WorldPhase.TheVariants.{Down, Up, Taken}
use Rattle.lc_core.specs.declared.world.World.{World}

-- what a store shows: whether it is up (`is_up`), the areas that it gives back, of which geometry (`into_areas`), and the
-- bytes that it lends of a page at a node, by node, segment and page (`page`)
pub record Observed (D : Type 0) : Type 1 where
  pub up : Bool
  pub gives : Geometry → List D → Type 0
  pub lends : ℕ → ℕ → ℕ → List ℕ → Type 0

-- the geometry has this node, and this page of this segment
abbrev pub has_page : Geometry → ℕ → ℕ → ℕ → Bool
has_page g node segment page = is_node g node && is_segment g segment && is_page g page

module _ {D : Type 0} where
  -- the store is up, and its geometry has the page
  abbrev pub ShowsAt : Observed D → ℕ → ℕ → ℕ → Type 0
  ShowsAt seen node segment page = (seen.up ≡ true) × ((g : Geometry) (areas : List D) → seen.gives g areas → has_page g node segment page ≡ true)

  -- why no page is shown: the store is down, or its geometry has no such page
  abbrev pub RefusesAt : Observed D → ℕ → ℕ → ℕ → Refusal → Type 0
  RefusesAt seen node segment page IsDown = seen.up ≡ false
  RefusesAt seen node segment page Unknown = (seen.up ≡ true) × ((g : Geometry) (areas : List D) → seen.gives g areas → has_page g node segment page ≡ false)
  RefusesAt seen node segment page refusal = ⊥

module _ {D : Type 0} (a : Ghosts D) where
  abbrev pub stands_up : WorldPhase D a → Bool
  stands_up (Down recovery) = false
  stands_up (Up up) = true
  stands_up Taken = false

  -- what each of these calls answers is so
  abbrev pub observed : World D a → Observed D
  observed w = record { up = stands_up w.phase; gives = HasAreas a w.phase; lends = LendsPage a w.phase }
