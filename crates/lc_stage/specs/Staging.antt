-- The rule of the staging words, and what each step tells. Word 0 is the tail, word 1 the durable end, and after them
-- stand two rows of places, one for the even rounds and one for the odd.
use Rattle.std.specs.Prelude.{◌≡◌, ◌≢◌, ◌⊎◌, ℕ, ◌+◌, ◌-◌, ◌*◌, ◌%◌, ◌/◌, ◌^◌, ◌<◌, ◌≤◌, min, cond, eqb, nat_lt, Bool, true, false, List, [], ◌∷◌, ◌++◌, length, replicate, All, slice_index, slice_index_or, slice_set, take}
use Rattle.std.specs.List.{concat}
use mathlib.Core.Option.{some}
use lib.ListN.{get_elem?}
use Rattle.atomic_table.specs.Table.{State, Me, Step}
use Rattle.lc_record.specs.Record.{IsRecord}
use Rattle.lc_record.specs.declared.record.Record.{Record}
use Rattle.lc_stage.specs.declared.stage_view.Reservation.{Reservation}
use Rattle.lc_stage.specs.declared.stage_view.Load.{Load}
use Rattle.lc_stage.specs.declared.stage_view.StageView.{StageView}

-- how many words stand between the durable end and a round's row
unfoldable pub row : ℕ → ℕ → ℕ
row room round = (round % 2) * room

-- the word of a round's place
abbrev pub word_of : ℕ → ℕ → ℕ → ℕ
word_of room round place = 2 + row room round + place

-- 1 where p is below n, and else 0
unfoldable pub below : ℕ → ℕ → ℕ
below p n = min 1 (n - p)

-- 1 where p is one of the n places from `start` on, and else 0
unfoldable pub within : ℕ → ℕ → ℕ → ℕ
within p start n = min 1 (start + n - p) - min 1 (start - p)

-- the place is one of the reservation's
abbrev pub LiesIn : ℕ → Reservation → Type 0
LiesIn p r = (r.place ≤ p) × (p < r.place + length r.words)

abbrev pub one_if_open : Bool → ℕ
one_if_open true = 0
one_if_open false = 1

-- how many of the reservations are not closed
abbrev pub open_count : List Reservation → ℕ
open_count [] = 0
open_count (r ∷ rs) = one_if_open r.closed + open_count rs

-- 1 where the reservation is of that round and the place p lies in it, and else 0
unfoldable pub lies : ℕ → ℕ → Reservation → ℕ
lies round p r = cond (eqb r.round round) (within p r.place (length r.words)) 0

-- in how many of the reservations of a round the place p lies
abbrev pub covered : ℕ → ℕ → List Reservation → ℕ
covered round p [] = 0
covered round p (r ∷ rs) = lies round p r + covered round p rs

abbrev pub total : (StageView → ℕ) → List StageView → ℕ
total f [] = 0
total f (v ∷ vs) = f v + total f vs

-- a tail is 65536 times its round, and its offset, and 32768 more where it is sealed
abbrev pub offset_of : ℕ → ℕ
offset_of tail = tail % 32768

abbrev pub round_of : ℕ → ℕ
round_of tail = tail / 65536

-- 1 where the tail is sealed, and else 0
abbrev pub seal_of : ℕ → ℕ
seal_of tail = (tail / 32768) % 2

abbrev pub seal_weight : Bool → ℕ
seal_weight true = 32768
seal_weight false = 0

-- the words are one record, whole
abbrev pub IsOneRecord : List ℕ → Type 0
IsOneRecord ws = (r : Record) × IsRecord r ws

-- the words are those of whole records, one after another
abbrev pub AreRecords : List ℕ → Type 0
AreRecords ws = (rs : List (List ℕ)) × All IsOneRecord rs × (ws ≡ concat rs)

-- the reservation stands in a seat's view
abbrev pub Has : List StageView → Reservation → Type 0
Has views r = (id : ℕ) × (v : StageView) × (i : ℕ) × (get_elem? views id ≡ some v) × (get_elem? v.mine i ≡ some r)

-- the reservation is one of these
abbrev pub Owns : List Reservation → Reservation → Type 0
Owns rs r = (i : ℕ) × (get_elem? rs i ≡ some r)

-- the durable end of a reservation's record
abbrev pub durable_at : Reservation → ℕ
durable_at r = r.round * 65536 + r.place + length r.words

-- the reservation is one of these, closed, and the durable end has reached its end
abbrev pub IsStable : List ℕ → List Reservation → Reservation → Type 0
IsStable words rs r = Owns rs r × (r.closed ≡ true) × (durable_at r ≤ slice_index words 1)

-- the log of a round holds the reservation's words, and it is closed
abbrev pub InLog : List ℕ → Reservation → Type 0
InLog log r = (r.closed ≡ true) × (r.place + length r.words ≤ length log) × ((i : ℕ) → i < length r.words → slice_index log (r.place + i) ≡ slice_index r.words i) × AreRecords (take r.place log)

-- the reservation's words stand at its place until they are cleared. They are a record once it is closed, and till then its header is 0
pub record Sound (room : ℕ) (words : List ℕ) (round cleared ended_cleared : ℕ) (r : Reservation) : Type 0 where
  pub of_round : r.round ≤ round
  pub filled : 0 < length r.words
  pub inside : r.place + length r.words ≤ room
  pub stands : r.round ≡ round → (i : ℕ) → i < length r.words → cleared ≤ r.place + i → slice_index words (word_of room round (r.place + i)) ≡ slice_index r.words i
  -- one of the round before
  pub stood : 1 + r.round ≡ round → (i : ℕ) → i < length r.words → ended_cleared ≤ r.place + i → slice_index words (word_of room r.round (r.place + i)) ≡ slice_index r.words i
  pub shut : r.closed ≡ true → IsOneRecord r.words
  pub still_open : r.closed ≡ false → slice_index r.words 0 ≡ 0

-- what was taken is the words of the places below some k, all of closed reservations, whole, as their seats filled them, and the durable end is k at most.
-- Every reservation of an earlier round is in what was taken in that round
pub record TakenInRound (room : ℕ) (words : List ℕ) (views : List StageView) (round offset : ℕ) (sealed : Bool) (cleared : ℕ) (f : StageView) : Type 0 where
  pub rounds : length f.past ≡ round
  pub reach : length f.taken ≤ offset
  pub stands : (p : ℕ) → cleared ≤ p → p < length f.taken → slice_index words (word_of room round p) ≡ slice_index f.taken p
  pub present : (r : Reservation) → Has views r → r.round ≡ round → InLog f.taken r ⊎ (length f.taken ≤ r.place)
  pub before : (r : Reservation) → Has views r → r.round < round → InLog (slice_index_or f.past r.round []) r
  pub stable : slice_index words 1 ≤ round * 65536 + length f.taken
  pub knows_seal : f.sealed ≡ sealed
  pub knows_cleared : f.cleared ≡ cleared
  pub knows_end : sealed ≡ true → f.sealed_at ≡ offset
  pub whole : AreRecords f.taken
  pub clears : 0 < cleared → (sealed ≡ true) × (length f.taken ≡ offset) × (cleared ≤ offset)

-- the row of the round before, which ended at an offset: what was taken in it is all that was reserved, and durable.
-- Its places are cleared from the first on, and those after the offset are 0
pub record EndedRow (room : ℕ) (words : List ℕ) (round ended ended_cleared : ℕ) (f : StageView) : Type 0 where
  pub inside : (ended ≤ room) × (ended_cleared ≤ ended)
  pub empty : (p : ℕ) → ended ≤ p → p < room → slice_index words (word_of room (1 + round) p) ≡ 0
  pub zeros : (p : ℕ) → p < ended_cleared → slice_index words (word_of room (1 + round) p) ≡ 0
  pub knows_ended : f.ended ≡ ended
  pub knows_cleared : f.ended_cleared ≡ ended_cleared
  pub all_taken : (n : ℕ) → round ≡ 1 + n → length (slice_index_or f.past n []) ≡ ended
  pub all_durable : (n : ℕ) → round ≡ 1 + n → n * 65536 + ended ≤ slice_index words 1

-- what is true of each seat's view. The first seat is the flusher's
pub record Known (words : List ℕ) (id : ℕ) (v : StageView) : Type 0 where
  pub seen : v.seen ≤ slice_index words 0
  pub durable : v.durable ≤ slice_index words 1
  pub published : v.published ≤ slice_index words 1
  pub heard : v.heard ≤ slice_index words 0
  pub receipts : (i : ℕ) (r : Reservation) → get_elem? v.receipts i ≡ some r → IsStable words v.mine r
  pub stored : v.flushes ≡ true → slice_index words 1 ≡ v.published
  pub flusher : v.flushes ≡ true → id ≡ 0
  pub first : id ≡ 0 → v.flushes ≡ true

-- where the flusher has read a place as 0, no reservation of this round that begins there was closed by then
abbrev pub Honest : List StageView → ℕ → StageView → Type 0
Honest views round f = ((j p : ℕ) → get_elem? f.loads j ≡ some (record { place = p; word = 0 }) → (r : Reservation) → Has views r → r.round ≡ round → r.place ≡ p → r.closed ≡ true → j < r.after)
    × ((r : Reservation) → Has views r → r.closed ≡ true → r.after ≤ length f.loads)

-- the rule of a stage with so many places in each row. The flusher's view is that of the first seat
pub record Staged (room : ℕ) (s : State (Unit {0}) StageView) : Type 0 where
  pub round : ℕ
  pub offset : ℕ
  pub sealed : Bool
  pub cleared : ℕ
  -- the offset at which the round before was sealed, and how many of its places are cleared
  pub ended : ℕ
  pub ended_cleared : ℕ
  pub uncleared : sealed ≡ false → cleared ≡ 0
  pub wide : length s.words ≡ 2 * room + 2
  pub tail_is : slice_index s.words 0 ≡ round * 65536 + offset + seal_weight sealed
  pub fits : (offset ≤ room) × (room < 32768)
  -- each place below the offset lies in one reservation of the round, of one seat, and each other place in none
  pub tiled : (p : ℕ) → total (λ v. covered round p v.mine) s.views ≡ below p offset
  pub sound : (r : Reservation) → Has s.views r → Sound room s.words round cleared ended_cleared r
  pub empty : (p : ℕ) → offset ≤ p → p < room → slice_index s.words (word_of room round p) ≡ 0
  pub zeros : (p : ℕ) → p < cleared → slice_index s.words (word_of room round p) ≡ 0
  pub known : (id : ℕ) (v : StageView) → get_elem? s.views id ≡ some v → Known s.words id v
  pub took : (f : StageView) → get_elem? s.views 0 ≡ some f → TakenInRound room s.words s.views round offset sealed cleared f
  pub before : (f : StageView) → get_elem? s.views 0 ≡ some f → EndedRow room s.words round ended ended_cleared f
  pub honest : (f : StageView) → get_elem? s.views 0 ≡ some f → Honest s.views round f

abbrev pub reservation : ℕ → ℕ → List ℕ → Bool → Reservation
reservation round place words closed = record { round = round; place = place; words = words; closed = closed; after = 0 }

abbrev pub newcomer : ℕ → StageView
newcomer room = record { room = room; seen = 0; durable = 0; mine = []; receipts = []; flushes = false; past = []; taken = []; cleared = 0; sealed = false; sealed_at = 0; ended = 0; ended_cleared = 0; loads = []; published = 0; heard = 0 }

abbrev pub flusher : ℕ → StageView
flusher room = record (newcomer room) { flushes = true }

-- a seat's newest reservation, or one that is closed where it has none
abbrev pub newest : List Reservation → Reservation
newest [] = reservation 0 0 [] true
newest (r ∷ rs) = r

abbrev pub with_newest : (Reservation → Reservation) → List Reservation → List Reservation
with_newest f [] = []
with_newest f (r ∷ rs) = f r ∷ rs

-- its rank by round and place, which is 0 without words
abbrev pub rank : Reservation → ℕ
rank r = cond (eqb (length r.words) 0) 0 (1 + r.round * 65536 + r.place)

-- the later of two by round and place
abbrev pub later : Reservation → Reservation → Reservation
later q r = cond (nat_lt (rank r) (rank q)) q r

-- the last of those that are closed by round and place, or one without words where none is
abbrev pub latest : List Reservation → Reservation
latest [] = reservation 0 0 [] true
latest (r ∷ rs) = cond r.closed (later r (latest rs)) (latest rs)

-- the durable end x has reached the end of the last closed record
abbrev pub HasReached : ℕ → StageView → Type 0
HasReached x v = (0 < length (latest v.mine).words) × (durable_at (latest v.mine) ≤ x)

-- the view with a receipt of its last closed record
abbrev pub with_receipt : StageView → StageView
with_receipt v = record v { receipts = latest v.mine ∷ v.receipts }

-- the view with the reservations and receipts of another
abbrev pub joining : StageView → StageView → StageView
joining v w = record v { mine = v.mine ++ w.mine; receipts = v.receipts ++ w.receipts }

-- the view with the tail seen
abbrev pub saw : ℕ → StageView → StageView
saw n v = record v { seen = n }

-- the view with one more reservation, of n places from the tail `at` on
abbrev pub reserved : ℕ → ℕ → StageView → StageView
reserved at n v = record v { mine = reservation (round_of at) (offset_of at) (replicate n 0) false ∷ v.mine }

-- the view with the word i of its newest reservation filled
abbrev pub filled : ℕ → ℕ → StageView → StageView
filled i x v = record v { mine = with_newest (λ r. record r { words = slice_set r.words i x }) v.mine }

-- the view with its newest reservation closed by a header
abbrev pub shut_with : ℕ → ℕ → StageView → StageView
shut_with header after v = record v { mine = with_newest (λ r. record r { words = slice_set r.words 0 header; closed = true; after = after }) v.mine }

abbrev pub load : ℕ → ℕ → Load
load p x = record { place = p; word = x }

-- the view with one more load of a place
abbrev pub loaded : ℕ → ℕ → StageView → StageView
loaded p x v = record v { loads = v.loads ++ load p x ∷ [] }

-- the view with more words taken
abbrev pub taking : List ℕ → StageView → StageView
taking ws v = record v { taken = v.taken ++ ws }

-- there is a state of the table in which the rule holds and a seat has this view
abbrev pub Holds : StageView → Type 0
Holds v = (s : State (Unit {0}) StageView) × Staged v.room s × ((id : ℕ) × (get_elem? s.views id ≡ some v))

abbrev Sat : Type 0
Sat = Me (Unit {0}) StageView

abbrev At : Type 0
At = Step (Unit {0})

abbrev pub looked : At → Sat → ℕ → Sat → Type 0
looked st m x m' = (m'.1 ≡ m.1) × (m'.0 ≡ saw x m.0) × (offset_of x ≤ m.0.room) × (m.0.seen ≤ x)

-- each of these is of an earlier round than the tail, or ends at its offset or below
abbrev pub LieBelow : ℕ → List Reservation → Type 0
LieBelow at rs = (r : Reservation) → Owns rs r → (r.round < round_of at) ⊎ ((r.round ≡ round_of at) × (r.place + length r.words ≤ offset_of at))

abbrev pub exchanged : At → Sat → ℕ → Sat → Type 0
exchanged st m x m' = (m'.1 ≡ m.1) × Holds m'.0 × (x ≡ st.first → (m'.0 ≡ reserved st.first (st.second - st.first) m.0) × LieBelow st.first m.0.mine) × (x ≢ st.first → (m'.0 ≡ saw x m.0) × (offset_of x ≤ m.0.room) × (m.0.seen ≤ x))

abbrev pub put : At → Sat → ℕ → Sat → Type 0
put st m x m' = (m'.1 ≡ m.1) × (m'.0 ≡ filled (st.word - word_of m.0.room (newest m.0.mine).round (newest m.0.mine).place) st.first m.0)

abbrev pub closed : At → Sat → ℕ → Sat → Type 0
closed st m x m' = (m'.1 ≡ m.1) × ((after : ℕ) × (m'.0 ≡ shut_with st.first after m.0))

-- the place of a word in the row of the flusher's round
abbrev pub place_in : StageView → ℕ → ℕ
place_in v word = word - word_of v.room (length v.past) 0

-- the load of the place after what was taken: 0 tells nothing, and another word is the header of a closed record, which
-- is taken
abbrev pub headed : At → Sat → ℕ → Sat → Type 0
headed st m x m' = (m'.1 ≡ m.1) × (x ≡ 0 → m'.0 ≡ loaded (place_in m.0 st.word) x m.0)
    × (x ≢ 0 → (ws : List ℕ) × (m'.0 ≡ taking ws (loaded (place_in m.0 st.word) x m.0)) × IsOneRecord ws × (slice_index ws 0 ≡ x) × (x / 2 ^ 32 ≡ length ws) × (length m.0.taken + length ws ≤ m.0.room) × (m.0.cleared ≡ 0))

-- the load of a place that was taken
abbrev pub copied : At → Sat → ℕ → Sat → Type 0
copied st m x m' = (m'.1 ≡ m.1) × (m'.0 ≡ loaded (place_in m.0 st.word) x m.0) × (x ≡ slice_index m.0.taken (place_in m.0 st.word))

-- the end of what the flusher took, under its round
abbrev pub end_of : StageView → ℕ
end_of v = length v.past * 65536 + length v.taken

-- the durable end that the flusher stored last has become the end of what it took, and has not fallen
abbrev pub RaisesDurable : StageView → StageView → Type 0
RaisesDurable v w = (w.published ≡ end_of w) × (v.published ≤ w.published)

abbrev pub published : At → Sat → ℕ → Sat → Type 0
published st m x m' = (m'.1 ≡ m.1) × (m'.0 ≡ record m.0 { published = st.first }) × RaisesDurable m.0 m'.0

-- what a reservation's round has taken holds its words, or its places are still to be taken; a closed one's words are a record
abbrev pub IsStaged : StageView → Reservation → Type 0
IsStaged f r = (r.round ≤ length f.past) × (r.round ≡ length f.past → InLog f.taken r ⊎ (length f.taken ≤ r.place))
    × (r.round < length f.past → InLog (slice_index_or f.past r.round []) r) × (r.closed ≡ true → IsOneRecord r.words)

-- the words of the committer's reservations were taken as it filled them, as far as places were taken. What it saw as durable is published, and so is each record of which it has a receipt, which is a closed reservation of its own
pub record Agree (f c : StageView) : Type 0 where
  pub published : c.durable ≤ f.published
  pub taken : f.published ≤ end_of f
  pub staged : (r : Reservation) → Owns c.mine r → IsStaged f r
  pub received : (r : Reservation) → Owns c.receipts r → Owns c.mine r × (r.closed ≡ true) × (durable_at r ≤ f.published) × (r.round ≤ length f.past) × (r.round ≡ length f.past → InLog f.taken r) × (r.round < length f.past → InLog (slice_index_or f.past r.round []) r)

-- a load that tells that the two parts of a joined view agree
abbrev pub agreed : At → Sat → ℕ → Sat → Type 0
agreed st m x m' = (m'.1 ≡ m.1) × (m'.0 ≡ m.0) × Agree m.0 m.0

-- a flusher's view with that of a committer beside it, and the two apart again
abbrev pub with_commit : StageView → StageView → StageView
with_commit f c = record f { seen = c.seen; durable = c.durable; mine = c.mine; receipts = c.receipts }

abbrev pub no_commit : StageView → StageView
no_commit v = record v { seen = 0; durable = 0; mine = []; receipts = [] }

abbrev pub only_commit : StageView → StageView
only_commit v = record (newcomer v.room) { seen = v.seen; durable = v.durable; mine = v.mine; receipts = v.receipts }

-- the view with a tail of which it is told
abbrev pub hears : ℕ → StageView → StageView
hears tail v = record v { heard = tail }

-- a view that says no more than which tail another has seen
abbrev pub note_of : StageView → StageView
note_of v = record (newcomer v.room) { seen = v.seen }

-- the flusher's view once it has sealed the round at an offset
abbrev pub sealing : ℕ → StageView → StageView
sealing offset v = record v { sealed = true; sealed_at = offset }

-- one place more of the flusher's round is cleared
abbrev pub clearing : StageView → StageView
clearing v = record v { cleared = 1 + v.cleared }

-- one place more of the round before is cleared
abbrev pub clearing_ended : StageView → StageView
clearing_ended v = record v { ended_cleared = 1 + v.ended_cleared }

-- the next round: what was taken stays under the ended one
abbrev pub reopening : StageView → StageView
reopening v = record v { past = v.past ++ v.taken ∷ []; taken = []; sealed = false; sealed_at = 0; cleared = 0; ended = v.sealed_at; ended_cleared = v.cleared }

abbrev pub seals : At → Sat → ℕ → Sat → Type 0
seals st m x m' = (m'.1 ≡ m.1) × (x ≡ st.first → (m'.0 ≡ sealing (offset_of x) m.0) × (round_of x ≡ length m.0.past) × (length m.0.taken ≤ offset_of x)) × (x ≢ st.first → (m'.0 ≡ hears x m.0) × (m.0.heard ≤ x))

abbrev pub clears_one : At → Sat → ℕ → Sat → Type 0
clears_one st m x m' = (m'.1 ≡ m.1) × (m'.0 ≡ clearing m.0)

abbrev pub clears_ended : At → Sat → ℕ → Sat → Type 0
clears_ended st m x m' = (m'.1 ≡ m.1) × (m'.0 ≡ clearing_ended m.0)

abbrev pub reopens : At → Sat → ℕ → Sat → Type 0
reopens st m x m' = (m'.1 ≡ m.1) × (m'.0 ≡ reopening m.0)

abbrev pub learns_durable : ℕ → StageView → StageView
learns_durable x v = record v { durable = x }

-- a load of the durable end: it gives a receipt exactly where it has reached the end of the last closed record
abbrev pub knew_durable : At → Sat → ℕ → Sat → Type 0
knew_durable st m x m' = (m'.1 ≡ m.1) × (m.0.durable ≤ x) × (HasReached x m.0 → m'.0 ≡ with_receipt (learns_durable x m.0)) × (¬ HasReached x m.0 → m'.0 ≡ learns_durable x m.0)

-- the same by the flusher, with a committer's part beside its own: the durable end is the one that it stored last
abbrev pub knew_stored : At → Sat → ℕ → Sat → Type 0
knew_stored st m x m' = (x ≡ m.0.published) × knew_durable st m x m'
