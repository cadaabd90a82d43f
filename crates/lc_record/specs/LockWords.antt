-- Locks in their words.
use Rattle.std.specs.Prelude.{ℕ, ◌^◌, nat_lt, if◌then◌else◌, List, [], ◌∷◌}
use Rattle.lc_record.specs.declared.record.Lock.{Lock}

-- those that stand here, two words for each, up to the first whose segment is no number of 32 bits
abbrev pub locks_in : List ℕ → List Lock
locks_in (segment ∷ seq ∷ rest) = if nat_lt segment (2 ^ 32) then record { segment = segment; seq = seq } ∷ locks_in rest else []
locks_in _ = []
