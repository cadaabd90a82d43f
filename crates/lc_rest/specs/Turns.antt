-- What one pass over the records in their order can test of those that are not stable.
use Rattle.std.specs.Prelude.{◌≡◌, ℕ, ◌&&◌, nat_lt, Bool, true, false, List, [], ◌∷◌, ◌++◌, map, length, filter, All}
use Rattle.lc_record.specs.Transaction.{is_member}
use Rattle.lc_record.specs.declared.record.Lock.{Lock}
use Rattle.lc_record.specs.declared.record.Record.{Record}
use Rattle.lc_model.specs.State.{Place, At}
use Rattle.lc_rest.specs.Adopted.{count_from}

-- a record in its turn, and whether it is stable
pub record Turn : Type 0 where
  pub whole : Record
  pub stable : Bool

-- the record has a lock on the segment
abbrev pub has_lock : ℕ → Record → Bool
has_lock segment r = is_member segment (map (λ (l : Lock). l.segment) r.locks)

-- a node's records are stable up to a number of them
abbrev pub turns_of : (ℕ → ℕ) → List Record → List Record → List Turn
turns_of stable before [] = []
turns_of stable before (r ∷ rs) = record { whole = r; stable = nat_lt (count_from r.node before) (stable r.node) } ∷ turns_of stable (before ++ r ∷ []) rs

-- one that is not stable is of the node where the tokens of its segments are
abbrev pub IsAtHome : (ℕ → Place) → Turn → Type 0
IsAtHome place u = u.stable ≡ false → (segment : ℕ) → has_lock segment u.whole ≡ true → place segment ≡ At u.whole.node

-- and after it none of such a segment is stable
abbrev pub Bars : Turn → Turn → Type 0
Bars u v = u.stable ≡ false → (segment : ℕ) → has_lock segment u.whole ≡ true → has_lock segment v.whole ≡ true → v.stable ≡ false

abbrev pub AreBehind : List Turn → Type 0
AreBehind [] = Unit {0}
AreBehind (u ∷ us) = All (Bars u) us × AreBehind us

-- how many stable ones have a lock on the segment
abbrev pub stable_on : ℕ → List Turn → ℕ
stable_on segment us = length (filter (λ u. u.stable && has_lock segment u.whole) us)
