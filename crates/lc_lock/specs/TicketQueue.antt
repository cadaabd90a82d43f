-- The rule of a lock, and what each step tells.
-- A ticket is the number of those drawn before it, and has no greatest one. The first ticket is that of the lock's maker: before it is served no value has come.
use Rattle.std.specs.Prelude.{◌≡◌, ◌≢◌, ◌⊎◌, ℕ, ◌+◌, ◌*◌, ◌/◌, ◌%◌, ◌^◌, ◌<◌, ◌≤◌, List, [], ◌∷◌, Option, Some, None}
use mathlib.Core.Option.{none, some}
use mathlib.Core.Option as maybe
use lib.ListN.{get_elem?}
use Rattle.atomic_table.specs.Table.{State, Me, Step, rest}
use Rattle.atomic_table.specs.declared.shared.Seat.{Seat}
use Rattle.lc_lock.specs.declared.turn.TicketState.{TicketState}
use Rattle.lc_lock.specs.declared.turn.TicketState.TheVariants.{Idle, Waits, Holds}
use Rattle.lc_lock.specs.declared.turn.LockView.{LockView}

-- the word, where so many tickets were drawn and so many served: the low halves of both counts
abbrev pub word_of : ℕ → ℕ → ℕ
word_of drawn served = drawn % 2 ^ 32 * 2 ^ 32 + served % 2 ^ 32

abbrev pub ticket_of : TicketState → ℕ
ticket_of Idle = 0
ticket_of (Waits n) = n
ticket_of (Holds n) = n

-- the ticket n is out with the seat
abbrev pub HasTicket : TicketState → ℕ → Type 0
HasTicket Idle n = ⊥
HasTicket (Waits m) n = m ≡ n
HasTicket (Holds m) n = m ≡ n

-- the seat's ticket was drawn and not yet given back, and who holds the value has the one that is served
abbrev pub Stands : ℕ → ℕ → TicketState → Type 0
Stands drawn served Idle = Unit {0}
Stands drawn served (Waits n) = (served ≤ n) × (n < drawn)
Stands drawn served (Holds n) = (n ≡ served) × (n < drawn)

module _ {K : Type 0} where
  abbrev pub place : K → TicketState → LockView K
  place k t = record { key = k; turn = t }

  -- the maker's
  abbrev pub first_place : K → LockView K
  first_place k = place k (Waits 0)

  abbrev pub NobodyHolds : List (LockView K) → Type 0
  NobodyHolds views = (i n : ℕ) (v : LockView K) → get_elem? views i ≡ some v → v.turn ≢ Holds n

abbrev Seated : Type 0 → Type 0 → Type 0
Seated T K = Me (Option T) (LockView K)

module _ {T K : Type 0} where
  -- what the slot has where this ticket is the one that is served: at first nothing, and later a value that fits
  abbrev pub HasComeTo : (K → T → Type 0) → K → ℕ → Option T → Type 0
  HasComeTo fits key served y = (served ≡ 0 → y ≡ None) × (0 < served → (x : T) × (y ≡ Some x) × fits key x)

  -- the value is at home, and nobody holds it
  abbrev pub IsHome : (K → T → Type 0) → K → ℕ → List (maybe.Option (Option T)) → List (LockView K) → Type 0
  IsHome fits key served homes views = (y : Option T) × (homes ≡ some y ∷ []) × HasComeTo fits key served y × NobodyHolds views

  -- it is out with the seat whose ticket is served
  abbrev pub IsOut : ℕ → List (maybe.Option (Option T)) → List (LockView K) → Type 0
  IsOut served homes views = (homes ≡ none ∷ []) × ((i : ℕ) × (v : LockView K) × (get_elem? views i ≡ some v) × (v.turn ≡ Holds served))

  pub record IsQueue (fits : K → T → Type 0) (key : K) (s : State (Option T) (LockView K)) : Type 0 where
    pub drawn : ℕ
    pub served : ℕ
    pub bells : List ℕ
    pub word : s.words ≡ word_of drawn served ∷ bells
    pub begun : 0 < drawn
    pub behind : served ≤ drawn
    pub few : drawn < served + 2 ^ 32
    pub knows : (i : ℕ) (v : LockView K) → get_elem? s.views i ≡ some v → (v.key ≡ key) × Stands drawn served v.turn
    -- a ticket is out with one seat
    pub apart : (i j n : ℕ) (v w : LockView K) → get_elem? s.views i ≡ some v → get_elem? s.views j ≡ some w → HasTicket v.turn n → HasTicket w.turn n → i ≡ j
    pub value : IsHome fits key served s.homes s.views ⊎ IsOut served s.homes s.views

  -- a seat without a ticket has come
  abbrev pub came : Step (Option T) → Seated T K → ℕ → Seated T K → Type 0
  came st m n m' = (m'.0.key ≡ m.0.key) × (m'.0.turn ≡ Idle)

  -- it has drawn the next ticket, which is not the maker's
  abbrev pub Draws : Seated T K → ℕ → Seated T K → Type 0
  Draws m n m' = (t : ℕ) × (0 < t) × (n / 2 ^ 32 ≡ t % 2 ^ 32) × (m' ≡ (place m.0.key (Waits t), m.1))

  abbrev pub drew : Step (Option T) → Seated T K → ℕ → Seated T K → Type 0
  drew st m n m' = (n ≡ st.first → Draws m n m') × (n ≢ st.first → m' ≡ m)

  -- the maker has taken the slot, in which nothing is
  abbrev pub began : Step (Option T) → Seated T K → ℕ → Seated T K → Type 0
  began st m n m' = m' ≡ (place m.0.key (Holds 0), (0, None) ∷ m.1)

  -- it has taken the slot, with what has come by then
  abbrev pub Takes : (K → T → Type 0) → Seated T K → Seated T K → Type 0
  Takes fits m m' = (y : Option T) × HasComeTo fits m.0.key (ticket_of m.0.turn) y × (m' ≡ (place m.0.key (Holds (ticket_of m.0.turn)), (0, y) ∷ m.1))

  -- it has where its ticket was the one that is served
  abbrev pub took : (K → T → Type 0) → Step (Option T) → Seated T K → ℕ → Seated T K → Type 0
  took fits st m n m' = (n % 2 ^ 32 ≡ ticket_of m.0.turn % 2 ^ 32 → Takes fits m m') × (n % 2 ^ 32 ≢ ticket_of m.0.turn % 2 ^ 32 → m' ≡ m)

  -- it has given the slot back, and its ticket, which was the one that is served
  abbrev pub gave : Step (Option T) → Seated T K → ℕ → Seated T K → Type 0
  gave st m n m' = (m'.0.turn ≡ Idle) × (m'.1 ≡ rest m.1) × (n % 2 ^ 32 ≡ ticket_of m.0.turn % 2 ^ 32)

  -- a seat under this key waits with a ticket of these low 32 bits
  abbrev pub IsWaiting : K → ℕ → Seated T K → Type 0
  IsWaiting key ticket m = (t : ℕ) × (0 < t) × (ticket ≡ t % 2 ^ 32) × (m ≡ (place key (Waits t), []))

  -- its ticket is served, and it has the slot with a value that fits
  abbrev pub IsServed : (K → T → Type 0) → K → ℕ → Seated T K → Type 0
  IsServed fits key ticket m = (t : ℕ) × (x : T) × (ticket ≡ t % 2 ^ 32) × fits key x × (m ≡ (place key (Holds t), (0, Some x) ∷ []))

  -- the seat, where it holds the value and its slot is empty
  abbrev pub holding : Seat (Option T) (LockView K) → Seat (Option T) (LockView K)
  holding s = record s { me = (place s.me.0.key (Holds (ticket_of s.me.0.turn)), (0, None) ∷ []) }
