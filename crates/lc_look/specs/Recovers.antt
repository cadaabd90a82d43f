-- What a recovery on its own prints over these areas.
use Rattle.std.specs.Prelude.{◌≡◌, ◌⊎◌, ℕ, ◌<◌, ◌≤◌, List, map, Option}
use Rattle.std.specs.Option.{option_map_or}
use Rattle.lc_disk.specs.declared.area.Area.{Ghosts}
use Rattle.lc_record.specs.Content.{Content}
use Rattle.lc_record.specs.declared.geometry.Geometry.{Geometry}
use Rattle.lc_model.specs.Merge.{MergeFault}
use Rattle.lc_model.specs.Stored.{page_bytes}
use Rattle.lc_model.specs.declared.refusal.Refusal.{Refusal}
use Rattle.lc_recover.specs.Fault.{IsRefusal}
use Rattle.lc_recover.specs.Reads.{AllMergeTo, AreHonest, HaveLengths, store_of}
use Rattle.lc_recover.specs.Recovered.{RecoveredStore, page_of, sequence_of}
use Rattle.lc_recover.specs.declared.fault.RecoverFault.{RecoverFault}
use Rattle.lc_recover.specs.declared.fault.RecoverFault.TheVariants.{BadGeometry, DeviceFault, NoMemory}
use Rattle.lc_recover.specs.Fault.{refusal_to}
use Rattle.lc_look.specs.Printed.{NoMemory as WantsMemory, Adds}
use Rattle.lc_look.specs.Refused.{AreRefused, IsFirstWrong}
use Rattle.lc_text.specs.Text.{no_memory_text, recovered_text, refusal_text}

-- the numbers of the segments and that the store is recovered, unless a device has failed, or there was no memory, before
abbrev pub RecoversStore : Geometry → (ℕ → ℕ) → List ℕ → ℕ → Type 0
RecoversStore g numbers text status =
    ((text ≡ recovered_text g numbers) × (status ≡ 0))
    ⊎ (((text ≡ refusal_text Refusal.DeviceFault) × (status ≡ 3)) ⊎ WantsMemory text status)

-- the line of a recovery that has stopped so, and the status
abbrev pub stop_text : RecoverFault → List ℕ
stop_text fault = option_map_or refusal_text (refusal_to fault) no_memory_text

abbrev pub stop_status : RecoverFault → ℕ
stop_status DeviceFault = 3
stop_status fault = 1

-- whatever the areas: the numbers of some store, and that it is recovered, or why it is not
abbrev pub TellsRecovery : Geometry → List ℕ → ℕ → Type 0
TellsRecovery g text status =
    ((numbers : ℕ → ℕ) × (text ≡ recovered_text g numbers) × (status ≡ 0))
    ⊎ ((fault : RecoverFault) × (text ≡ stop_text fault) × (status ≡ stop_status fault))

-- there was no memory, or a device has failed
abbrev pub IsOutward : RecoverFault → Type 0
IsOutward fault = (fault ≡ NoMemory) ⊎ (fault ≡ DeviceFault)

module _ {D : Type 0} (a : Ghosts D) where
  -- whatever a stop leaves of them merges to one content, under these numbers of the segments
  pub record AreNumbered (g : Geometry) (areas : List D) (numbers : ℕ → ℕ) : Type 0 where
    pub lengths : HaveLengths a g areas
    pub honest : AreHonest a areas
    pub content : Content
    pub merges : AllMergeTo a g areas content numbers

  -- whatever the numbers
  abbrev pub RecoversAreas : Geometry → List D → Option (List ℕ) → Option (List ℕ) → ℕ → Type 0
  RecoversAreas g areas held holds status = (numbers : ℕ → ℕ) → AreNumbered g areas numbers → Adds (RecoversStore g numbers) held holds status

  -- each page of the store has its part of the content to which these areas merge
  abbrev pub HasContentOf : (g : Geometry) (areas : List D) → RecoveredStore D → Type 0
  HasContentOf g areas store =
      (numbers : ℕ → ℕ) (known : AreNumbered g areas numbers) (segment page : ℕ) → 1 ≤ segment → segment ≤ g.segments → page < g.pages
      → (page_of store segment page).bytes ≡ page_bytes segment page known.content

  -- what a recovery that came to its end has made of these areas: the store has their numbers and bytes, and they were not refused
  pub record Recovers (g : Geometry) (areas : List D) (store : RecoveredStore D) : Type 0 where
    pub geometry : store.geometry ≡ g
    pub lengths : HaveLengths a g areas
    pub numbers : (numbers : ℕ → ℕ) → AreNumbered g areas numbers → (segment : ℕ) → 1 ≤ segment → segment ≤ g.segments → sequence_of store segment ≡ numbers segment
    pub bytes : HasContentOf g areas store
    pub accepted : (fault : MergeFault) → AreRefused a g areas fault → ⊥

  -- why one of these areas did not
  pub record Explains (g : Geometry) (areas : List D) (fault : RecoverFault) : Type 0 where
    pub merging : (numbers : ℕ → ℕ) → AreNumbered g areas numbers → IsOutward fault
    pub refused : (merge : MergeFault) → AreRefused a g areas merge → IsRefusal (store_of g (map a.now areas)) fault ⊎ IsOutward fault
    pub wrong : (area : ℕ) → IsFirstWrong a g areas area → fault ≡ BadGeometry area
