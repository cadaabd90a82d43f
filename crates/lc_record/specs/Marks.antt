-- The positions that a transaction set, as ranges.
use Rattle.std.specs.Prelude.{ℕ, zero, suc, ◌+◌, Bool, true, false, not, ◌==◌, List, [], ◌∷◌, ◌++◌, filter, replicate}
use Rattle.lc_record.specs.Content.{put, on_segment}
use Rattle.lc_record.specs.Transaction.{Transaction, Marks, is_member}
use Rattle.lc_record.specs.Geometry.{segment_len}
use Rattle.lc_record.specs.declared.geometry.Geometry.{Geometry}

-- how many stretches of set positions there are; after says whether the position before was set
abbrev pub stretches : Bool → List Bool → ℕ
stretches after [] = 0
stretches after (false ∷ marks) = stretches false marks
stretches false (true ∷ marks) = 1 + stretches true marks
stretches true (true ∷ marks) = stretches true marks

-- how many ranges a transaction has, after merging
abbrev pub ranges : Marks → ℕ
ranges [] = 0
ranges (marks ∷ segments) = stretches false marks + ranges segments

-- nothing was set
abbrev pub is_empty : Marks → Bool
is_empty marks = ranges marks == 0

-- n numbers from this one on
abbrev pub counting : ℕ → ℕ → List ℕ
counting from zero = []
counting from (suc n) = from ∷ counting (from + 1) n

-- these segments as a set, ascending
abbrev pub ascending : Geometry → List ℕ → List ℕ
ascending g segments = filter (λ s. is_member s segments) (counting 1 g.segments)

-- those of the second list that are not in the first
abbrev pub beside : List ℕ → List ℕ → List ℕ
beside segments others = filter (λ s. not (is_member s segments)) others

abbrev pub no_marks : Geometry → Marks
no_marks g = replicate g.segments (replicate (segment_len g) false)

-- the transaction with these positions set too
abbrev pub marked : Transaction → ℕ → ℕ → ℕ → Transaction
marked t segment offset len =
    record t { marks = on_segment segment (put offset (replicate len true)) t.marks }

-- the transaction with one more write
abbrev pub written : Transaction → ℕ → ℕ → List ℕ → Transaction
written t segment offset bytes =
    record t { writes = t.writes ++ record { segment = segment; offset = offset; bytes = bytes } ∷ [] }
