-- The order in which the records of all nodes follow one another.
use Rattle.std.specs.Prelude.{◌≡◌, ℕ, zero, suc, ◌-◌, ◌<◌, ◌==◌, ◌&&◌, ◌≤◌, Bool, nat_lt, All, List, [], ◌∷◌, ◌++◌, map, length, filter, slice_index_or, slice_set}
use Rattle.std.specs.Global.{Vec}
use Rattle.lc_record.specs.declared.record.Lock.{Lock}
use Rattle.lc_record.specs.declared.record.Record.{Record}
use Rattle.lc_rest.specs.Adopted.{IsNext}

-- the number of a segment, of numbers from segment 1 on
abbrev pub number_at : List ℕ → ℕ → ℕ
number_at numbers zero = 0
number_at numbers (suc place) = slice_index_or numbers place 0

-- the numbers once these locks are counted
abbrev pub counted_by : List Lock → List ℕ → List ℕ
counted_by [] numbers = numbers
counted_by (lock ∷ locks) numbers = counted_by locks (slice_set numbers (lock.segment - 1) lock.seq)

abbrev pub no_record : Record
no_record = record { node = 0; locks = []; ranges = [] }

abbrev pub record_at : List (List Record) → ℕ → ℕ → Record
record_at logs node k = slice_index_or (slice_index_or logs node []) k no_record

abbrev pub logs_of : List (Vec Record) → List (List Record)
logs_of logs = map (λ (log : Vec Record). log.items) logs

-- how often a node has its turn
abbrev pub times : ℕ → List ℕ → ℕ
times node turns = length (filter (λ n. n == node) turns)

-- the records by the turns of their nodes
abbrev pub merged_after : List (List Record) → List ℕ → List ℕ → List Record
merged_after logs before [] = []
merged_after logs before (n ∷ ns) = record_at logs n (times n before) ∷ merged_after logs (before ++ n ∷ []) ns

-- the node has a record after so many, which has the next numbers
pub record MayTurn (logs : List (List Record)) (done numbers : List ℕ) (node : ℕ) : Type 0 where
  pub known : node < length logs
  pub some : slice_index_or done node 0 < length (slice_index_or logs node [])
  pub next : IsNext (number_at numbers) (record_at logs node (slice_index_or done node 0))

-- the lock has the next number
abbrev pub is_next_lock : (ℕ → ℕ) → Lock → Bool
is_next_lock numbers lock = nat_lt 0 lock.seq && (lock.seq - 1 == numbers lock.segment)

-- the segments of all locks are among so many
abbrev pub AreKnown : ℕ → List (List Record) → Type 0
AreKnown segments logs = (node k : ℕ) → node < length logs → k < length (slice_index_or logs node []) → All (λ (lock : Lock). (1 ≤ lock.segment) × (lock.segment ≤ segments)) (record_at logs node k).locks

-- one turn after another: each record has the next numbers, those before it counted
abbrev pub AreTurns : List (List Record) → List ℕ → List ℕ → List ℕ → Type 0
AreTurns logs numbers before [] = Unit {0}
AreTurns logs numbers before (n ∷ ns) =
    IsNext (number_at numbers) (record_at logs n (times n before)) × AreTurns logs (counted_by (record_at logs n (times n before)).locks numbers) (before ++ n ∷ []) ns

-- the numbers after these turns
abbrev pub after_turns : List (List Record) → List ℕ → List ℕ → List ℕ → List ℕ
after_turns logs numbers before [] = numbers
after_turns logs numbers before (n ∷ ns) = after_turns logs (counted_by (record_at logs n (times n before)).locks numbers) (before ++ n ∷ []) ns

-- after these turns no node's next record has the next numbers, and this is the least node that has a record left
pub record IsStuck (logs : List (List Record)) (numbers turns : List ℕ) (node : ℕ) : Type 0 where
  pub turned : AreTurns logs numbers [] turns
  pub within : (n : ℕ) → times n turns ≤ length (slice_index_or logs n [])
  pub left : times node turns < length (slice_index_or logs node [])
  pub least : (n : ℕ) → times n turns < length (slice_index_or logs n []) → node ≤ n
  pub none : (n : ℕ) → times n turns < length (slice_index_or logs n []) →
      IsNext (number_at (after_turns logs numbers [] turns)) (record_at logs n (times n turns)) → ⊥

-- so many records of each node have had their turn
abbrev pub AreDone : List (List Record) → List ℕ → List ℕ → Type 0
AreDone logs done turns = (node : ℕ) → node < length logs → (slice_index_or done node 0 ≡ times node turns) × (times node turns ≤ length (slice_index_or logs node []))
