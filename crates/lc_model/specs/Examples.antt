-- A small store, and some of its states, on which the rows are worked out.
use Rattle.std.specs.Prelude.{◌≡◌, ℕ, zero, suc, Bool, true, false, List, [], ◌∷◌, ◌++◌, replicate}
use Rattle.std.proofs.Common.{lit≤}
use Rattle.lc_record.specs.Content.{Content}
use Rattle.lc_record.specs.Transaction.{Transaction}
use Rattle.lc_record.specs.Geometry.{segment_len}
use Rattle.lc_record.specs.declared.geometry.Geometry.{Geometry}
use Rattle.lc_model.specs.History.{History, Cut}
use Rattle.lc_model.specs.State.{At, Travelling, Up, DownAt, State, Setting, fresh}
use Rattle.lc_record.specs.Marks.{no_marks, marked, written}
use Rattle.lc_model.specs.Machine.{Step, flushed_to, placed}
use Rattle.lc_model.specs.declared.event.Event.{Event}
use Rattle.lc_model.specs.declared.reply.Reply.{Reply}
use Rattle.lc_model.specs.declared.reply.Reply.TheVariants.{Refused}
use Rattle.lc_model.specs.declared.refusal.Refusal.{Refusal}

-- two nodes of two threads, and two segments of one page
abbrev pub small : Geometry
small = record {
  nodes = 2;
  threads = 2;
  segments = 2;
  pages = 1;
  words = 64;
  some_nodes = lit≤ tt;
  few_nodes = lit≤ tt;
  some_threads = lit≤ tt;
  few_threads = lit≤ tt;
  some_segments = lit≤ tt;
  few_segments = lit≤ tt;
  some_pages = lit≤ tt;
  few_pages = lit≤ tt;
  some_words = lit≤ tt;
  few_words = lit≤ tt;
}

abbrev pub zeros : Content
zeros = replicate 2 (replicate (segment_len small) 0)

abbrev pub store : Setting
store = record { geometry = small; start = zeros }

-- an open transaction that locked these segments for writing
abbrev pub opened : ℕ → ℕ → List ℕ → Transaction
opened node thread segments = record { node = node; thread = thread; locked = segments; reading = []; marks = no_marks small; writes = [] }

-- it sets the first byte of a segment, and writes it
abbrev pub writing : ℕ → ℕ → Transaction → Transaction
writing segment byte t = written (marked t segment 0 1) segment 0 (byte ∷ [])

-- of node 0 on segment 1, of node 1 on both, of node 0 on segment 2
abbrev pub first : Transaction
first = writing 1 11 (opened 0 0 (1 ∷ []))

abbrev pub second : Transaction
second = writing 2 22 (writing 1 21 (opened 1 0 (1 ∷ 2 ∷ [])))

abbrev pub third : Transaction
third = writing 2 32 (opened 0 0 (2 ∷ []))

-- the three in this order
abbrev pub three : Bool → Bool → Bool → History
three first_closed second_closed third_closed =
    record { transaction = first; closed = first_closed }
    ∷ record { transaction = second; closed = second_closed }
    ∷ record { transaction = third; closed = third_closed } ∷ []

-- up, with this history
abbrev pub having : History → State
having history = record (fresh small [] Up) { history = history }

-- every token is at this node
abbrev pub all_at : ℕ → State → State
all_at node s = record s { place = λ segment. At node }

-- stopped at this cut
abbrev pub stopped_at : Cut → State → State
stopped_at cut s = record s { phase = DownAt cut }

-- all three are closed, and none acknowledged
abbrev pub unflushed : State
unflushed = having (three true true true)

-- segment 1's token is on its way
abbrev pub moving : State
moving = placed unflushed 1 Travelling

-- node 0 has every token; its record of segment 1 is acknowledged, that of segment 2 is not closed
abbrev pub half_closed : State
half_closed = record (all_at 0 (having (three true true false))) { ack = λ node. 1 }

-- after all three, a thread of node 0 has set and written the second byte of segment 1
abbrev pub reader : Transaction
reader = written (marked (opened 0 1 (1 ∷ [])) 1 1 1) 1 1 (99 ∷ [])

abbrev pub reading : State
reading = record (all_at 0 (having (three true true true))) { running = reader ∷ [] }

-- a thread of node 0 has locked segment 1 for reading
abbrev pub sharing : State
sharing = record (all_at 0 unflushed) { running = record (opened 0 0 []) { reading = 1 ∷ [] } ∷ [] }

-- every other position, so many times
abbrev pub stripes : ℕ → List Bool
stripes zero = []
stripes (suc n) = true ∷ false ∷ stripes n

-- a thread of node 0 has set 64 ranges of one byte
abbrev pub many : Transaction
many = record (opened 0 1 (1 ∷ [])) { marks = (stripes 64 ++ replicate 128 false) ∷ replicate 256 false ∷ [] }

abbrev pub setting_many : State
setting_many = record (all_at 0 unflushed) { running = many ∷ [] }

-- a thread of node 0 has set nothing
abbrev pub idle : State
idle = record unflushed { running = opened 0 1 (2 ∷ []) ∷ [] }

-- up after a recovery that kept the first two, and stopped again with the third
abbrev pub stopped_again : State
stopped_again = stopped_at (1 ∷ 0 ∷ []) (record (fresh small (first ∷ second ∷ []) Up) { history = record { transaction = third; closed = true } ∷ [] })

-- so many steps of node 0's flush are done, which took both of its records
abbrev pub flushing : ℕ → State
flushing steps = flushed_to unflushed 0 steps 2

-- a record of node 0's first thread on segment 2 is not closed
abbrev pub busy : State
busy = having (three true true false)

-- down, at a cut that keeps the first two of three
abbrev pub stopped : State
stopped = stopped_at (1 ∷ 1 ∷ []) unflushed

-- in this state the store may give the reply to the event, and go on to the other
abbrev pub May : State → Event → Reply → State → Type 0
May old event reply new = Step store old event reply new

-- it never gives this reply
abbrev pub Never : State → Event → Reply → Type 0
Never old event reply = (new : State) → Step store old event reply new → ⊥

-- it may refuse the event with this, and nothing changes
abbrev pub Refuses : State → Event → Refusal → Type 0
Refuses old event refusal = Step store old event (Refused refusal) old

-- it gives this reply and no other, and goes on to this state alone
abbrev pub Only : State → Event → Reply → State → Type 0
Only old event reply new =
    May old event reply new × ((other : Reply) (next : State) → Step store old event other next → (other ≡ reply) × (next ≡ new))

-- it refuses the event with this and gives no other answer, and nothing changes
abbrev pub OnlyRefuses : State → Event → Refusal → Type 0
OnlyRefuses old event refusal = Only old event (Refused refusal) old
