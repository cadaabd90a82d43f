-- What is printed, and the status after it.
use Rattle.std.specs.Prelude.{◌≡◌, ◌⊎◌, ℕ, List, Option}
use Rattle.std.specs.Io.KnownBytes.{Appends}
use Rattle.lc_model.specs.declared.refusal.Refusal.TheVariants.{DeviceFault}
use Rattle.lc_text.specs.Text.{no_memory_text, refusal_text}

-- to what a writer held a text is added which with the status, or with what else was answered, is such
abbrev pub Adds : {A : Type 0} → (List ℕ → A → Type 0) → Option (List ℕ) → Option (List ℕ) → A → Type 0
Adds Such held holds answer = (text : List ℕ) × Such text answer × Appends held holds text

-- there was no memory
abbrev pub NoMemory : List ℕ → ℕ → Type 0
NoMemory text status = (text ≡ no_memory_text) × (status ≡ 1)

-- the line of a device that failed, or of want of memory
abbrev pub Stops : List ℕ → ℕ → Type 0
Stops text status = ((text ≡ refusal_text DeviceFault) × (status ≡ 3)) ⊎ NoMemory text status
