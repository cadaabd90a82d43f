-- Which locks of a log's records are above what is known to be on the pages.
use Rattle.std.specs.Prelude.{◌≡◌, ℕ, ◌<◌, ◌||◌, ◌&&◌, ◌==◌, nat_lt, Bool, List, [], ◌∷◌, drop, Option, Some, None, All, Contains, if◌then◌else◌}
use Rattle.std.specs.List.{concat}
use Rattle.lc_record.specs.Record.{record_len, IsRecord}
use Rattle.lc_record.specs.Codec.{BeginsWith}
use Rattle.lc_record.specs.declared.record.Record.{Record}
use Rattle.lc_record.specs.declared.record.Lock.{Lock}
use Rattle.lc_model.specs.Merge.{IsLeastPair}
use Rattle.lc_token.specs.declared.unclean.Unclean.{Unclean}

-- the words begin with these records, one after another
abbrev pub BeginWith : List Record → List ℕ → Type 0
BeginWith [] words = Unit {0}
BeginWith (r ∷ rs) words = BeginsWith words r (record_len r) × BeginWith rs (drop (record_len r) words)

-- the words are one record, whole
abbrev pub IsOneRecord : List ℕ → Type 0
IsOneRecord words = (r : Record) × IsRecord r words

-- the words are those of whole records, one after another
abbrev pub AreRecords : List ℕ → Type 0
AreRecords words = (records : List (List ℕ)) × All IsOneRecord records × (words ≡ concat records)

-- one of these locks is the segment's under this number, which is above what is known
abbrev pub IsAboveIn : List Lock → (ℕ → ℕ) → ℕ → ℕ → Type 0
IsAboveIn locks known segment seq =
    ((lock : Lock) × Contains locks lock × (lock.segment ≡ segment) × (lock.seq ≡ seq)) × (known segment < seq)

-- a lock of one of the records with which the words begin is
abbrev pub IsAbove : List ℕ → (ℕ → ℕ) → ℕ → ℕ → Type 0
IsAbove words known segment seq =
    (rs : List Record) × (r : Record) × BeginWith rs words × Contains rs r × IsAboveIn r.locks known segment seq

-- no lock of the records with which the words begin is
abbrev pub AreKnown : List ℕ → (ℕ → ℕ) → Type 0
AreKnown words known = (segment seq : ℕ) → IsAbove words known segment seq → ⊥

-- the least pair that is such, or none where none is
abbrev pub IsLeastOf : (ℕ → ℕ → Type 0) → Option Unclean → Type 0
IsLeastOf Such None = (segment seq : ℕ) → Such segment seq → ⊥
IsLeastOf Such (Some unclean) = IsLeastPair Such unclean.segment unclean.seq

-- the lock, where it is above what is known
abbrev pub above : (ℕ → ℕ) → Lock → Option Unclean
above known lock = if nat_lt (known lock.segment) lock.seq then Some (record { segment = lock.segment; seq = lock.seq }) else None

-- of an earlier segment, or of the same under a lower number
abbrev pub is_before : Unclean → Unclean → Bool
is_before a b = nat_lt a.segment b.segment || (a.segment == b.segment && nat_lt a.seq b.seq)

-- the lesser of two, where there are any
abbrev pub lesser : Option Unclean → Option Unclean → Option Unclean
lesser None other = other
lesser (Some a) None = Some a
lesser (Some a) (Some b) = if is_before b a then Some b else Some a
