-- The bells of a lock, at which those sleep who wait long. They are words beside that of the tickets.
-- A bell's low bit says that somebody may sleep at it, and above that it counts how often it rang.
use Rattle.std.specs.Prelude.{◌≡◌, ℕ, ◌+◌, ◌*◌, ◌/◌, ◌%◌, ◌^◌, ◌<◌, ◌≤◌, bit_or, Option}
use Rattle.atomic_table.specs.Table.{Me, Step}
use Rattle.lc_lock.specs.declared.turn.LockView.{LockView}
use Rattle.lc_lock.specs.declared.bells.TheConstants.{BELLS}

-- this place in the table is that of a bell
abbrev pub IsBell : ℕ → Type 0
IsBell place = (0 < place) × (place ≤ BELLS)

-- the place of the bell at which who has this ticket sleeps
abbrev pub bell_at : ℕ → ℕ
bell_at ticket = 1 + ticket % BELLS

-- somebody may sleep at the bell
abbrev pub IsAwaited : ℕ → Type 0
IsAwaited bell = bell % 2 ≡ 1

-- the bell, where it says from then on that somebody may sleep at it
abbrev pub awaited : ℕ → ℕ
awaited bell = bell / 2 * 2 + 1

module _ {T K : Type 0} where
  -- nothing is another for the seat, and the bell says that somebody may sleep at it
  abbrev pub listened : Step (Option T) → Me (Option T) (LockView K) → ℕ → Me (Option T) (LockView K) → Type 0
  listened st m n m' = (m' ≡ m) × (bit_or n st.first ≡ awaited n)

  -- nothing is another for the seat, and a bell at which somebody might sleep says so no more
  abbrev pub rang : Step (Option T) → Me (Option T) (LockView K) → ℕ → Me (Option T) (LockView K) → Type 0
  rang st m n m' = (m' ≡ m) × (IsAwaited n → (n + st.first) % 2 ^ 64 % 2 ≡ 0)
