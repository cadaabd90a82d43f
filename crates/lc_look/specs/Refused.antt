-- Areas that make no store, and what is printed of them.
use Rattle.std.specs.Prelude.{◌≡◌, ◌≢◌, ◌⊎◌, ℕ, List, map, length, Option, Some, slice_get}
use Rattle.lc_disk.specs.declared.area.Area.{Ghosts}
use Rattle.lc_record.specs.declared.geometry.Geometry.{Geometry}
use Rattle.lc_model.specs.Merge.{IsLeast, MergeFault, BadGeometry as IsOther, OutOfSegment as IsOutside, Twice as IsTwice, Gap as IsGap}
use Rattle.lc_model.specs.declared.refusal.Refusal.{Refusal}
use Rattle.lc_model.specs.declared.refusal.Refusal.TheVariants.{BadGeometry, OutOfSegment, Twice, Gap, DeviceFault}
use Rattle.lc_recover.specs.Reads.{area_len, AreHonest, HaveLengths, ReadsRefused}
use Rattle.lc_look.specs.Printed.{Adds, NoMemory}
use Rattle.lc_text.specs.Text.{refusal_text}

-- the refusal of a merge
abbrev pub merge_refusal : MergeFault → Refusal
merge_refusal (IsOther area) = BadGeometry area
merge_refusal (IsOutside area) = OutOfSegment (Some area)
merge_refusal (IsTwice segment seq) = Twice segment seq
merge_refusal (IsGap segment seq) = Gap segment seq

-- the line of that refusal, unless a device has failed, or there was no memory, before the merge
abbrev pub RefusesStore : MergeFault → List ℕ → ℕ → Type 0
RefusesStore fault text status =
    ((text ≡ refusal_text (merge_refusal fault)) × (status ≡ 1))
    ⊎ (((text ≡ refusal_text DeviceFault) × (status ≡ 3)) ⊎ NoMemory text status)

-- the line of the first area that has not the length of the geometry, is missing, or is too many
abbrev pub RefusesArea : ℕ → List ℕ → ℕ → Type 0
RefusesArea area text status = (text ≡ refusal_text (BadGeometry area)) × (status ≡ 1)

module _ {D : Type 0} (a : Ghosts D) where
  -- the first area that has not its length
  abbrev pub IsFirstWrong : Geometry → List D → ℕ → Type 0
  IsFirstWrong g areas = IsLeast (λ k. slice_get (map (λ d. length (a.now d)) areas) k ≢ area_len g k)

  -- they read as a store of which the merge is refused so
  pub record AreRefused (g : Geometry) (areas : List D) (fault : MergeFault) : Type 0 where
    pub lengths : HaveLengths a g areas
    pub honest : AreHonest a areas
    pub refused : ReadsRefused a g areas fault

  -- whatever the fault
  abbrev pub RefusesMerge : Geometry → List D → Option (List ℕ) → Option (List ℕ) → ℕ → Type 0
  RefusesMerge g areas held holds status = (fault : MergeFault) → AreRefused g areas fault → Adds (RefusesStore fault) held holds status

  -- whatever the area
  abbrev pub RefusesLengths : Geometry → List D → Option (List ℕ) → Option (List ℕ) → ℕ → Type 0
  RefusesLengths g areas held holds status = (area : ℕ) → IsFirstWrong g areas area → Adds (RefusesArea area) held holds status
