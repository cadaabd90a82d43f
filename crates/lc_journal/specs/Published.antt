-- What a peer finds that asks for a record of a node by its number.
use Rattle.std.specs.Prelude.{◌≡◌, ◌⊎◌, ℕ, ◌-◌, ◌<◌, ◌≤◌, ◌==◌, List, filter, Some, slice_get}
use Rattle.lc_disk.specs.declared.area.Area.{Ghosts}
use Rattle.lc_record.specs.declared.record.Record.{Record as Whole}
use Rattle.lc_model.specs.State.{Setting, State}
use Rattle.lc_model.specs.Stored.{records_of}
use Rattle.lc_tx.specs.Image.{laid_over}
use Rattle.lc_journal.specs.Follows.{FitsJournal}
use Rattle.lc_settled.specs.Numbers.{Numbers}
use Rattle.lc_journal.specs.declared.journal.Journal.{Journal}
use Rattle.lc_journal.specs.declared.publishing.Published.{Published}
use Rattle.lc_journal.specs.declared.publishing.Published.TheVariants.{Unknown, Trimmed, Record}

-- of the machine's records of the node; no two of these go together
abbrev pub IsFound : Setting → ℕ → State → Numbers → ℕ → Published → Type 0
IsFound m node s x number Unknown = (number ≡ 0) ⊎ (s.ack node < number)
IsFound m node s x number Trimmed = (1 ≤ number) × (number ≤ s.ack node) × (number ≤ x.trimmed node)
IsFound m node s x number (Record r) =
    (1 ≤ number) × (number ≤ s.ack node) × (x.trimmed node < number) × (slice_get (records_of m s x.disks node) (number - 1) ≡ Some r)

module _ {D : Type 0} (a : Ghosts D) where
  -- in each state and with the numbers that the journal fits
  abbrev pub Finds : Journal D a → ℕ → Published → Type 0
  Finds w number found =
      (m : Setting) (node : ℕ) (s : State) (x : Numbers) → FitsJournal a m node w s x → IsFound m node s x number found

  -- the bytes have those laid over them that the record of this number, where there is one, has for the segment
  abbrev pub LaysFound : Journal D a → ℕ → ℕ → List ℕ → List ℕ → Type 0
  LaysFound w number segment old new =
      (m : Setting) (node : ℕ) (s : State) (x : Numbers) → FitsJournal a m node w s x → (whole : Whole) → IsFound m node s x number (Record whole)
      → new ≡ laid_over (filter (λ range. range.segment == segment) whole.ranges) old
