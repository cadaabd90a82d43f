-- The records that a log has made stable since it was opened.
use Rattle.std.specs.Prelude.{◌≡◌, ℕ, zero, suc, ◌-◌, ◌/◌, ◌^◌, List, [], ◌∷◌, ◌++◌, length, take, All}
use Rattle.std.specs.List.{concat}
use Rattle.lc_stage.specs.Staging.{IsOneRecord}
use Rattle.lc_stage.specs.Seats.{flush_view}
use Rattle.lc_log_side.specs.LogView.{LogView}

-- so many records stand in front of the place, and they take so many words
abbrev pub IsStart : List (List ℕ) → ℕ → ℕ → Type 0
IsStart records count place =
    (front : List (List ℕ)) × (behind : List (List ℕ)) × (records ≡ front ++ behind) × (length front ≡ count) × (length (concat front) ≡ place)

-- the records that begin among these words, of which so many in front belong to one that began before. The first word of a record
-- tells how many words it has
abbrev pub records_behind : List ℕ → ℕ → List (List ℕ)
records_behind [] rest = []
records_behind (word ∷ words) zero = take (word / 2 ^ 32) (word ∷ words) ∷ records_behind words (word / 2 ^ 32 - 1)
records_behind (word ∷ words) (suc rest) = records_behind words rest

-- the records whose words these are, one after another
unfoldable pub records_of : List ℕ → List (List ℕ)
records_of words = records_behind words 0

module _ {D : Type 0} where
  -- those of the rounds that have ended, and those that are stable now, in their order
  abbrev pub published : LogView D → List (List ℕ)
  published log = records_of (concat (flush_view log.flusher).past ++ log.stable)

  -- each is one record, whole, and no word stands beside them; those of the ended rounds are all that was taken in them
  abbrev pub IsWhole : LogView D → Type 0
  IsWhole log = All IsOneRecord (published log) × (concat (published log) ≡ concat (flush_view log.flusher).past ++ log.stable)

  -- so many more are published, after those that were
  abbrev pub Publishes : LogView D → ℕ → LogView D → Type 0
  Publishes old count new = (more : List (List ℕ)) × All IsOneRecord more × (length more ≡ count) × (published new ≡ published old ++ more)
