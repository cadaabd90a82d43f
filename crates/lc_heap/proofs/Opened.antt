-- What is known where the bytes are a heap, and blocks stand up to a place.
use Rattle.std.proofs.Common.{◌≡◌, ℕ, suc, ◌+◌, ◌%◌, ◌<◌, ◌≤◌, List, [], ◌∷◌, ◌++◌, length, sym, subst, arith, inl, inr}
use Rattle.lc_heap.specs.Bytes.{head_of}
use Rattle.lc_heap.specs.Calls.{Frees, HasNoRun, HasRun, IsNowhere, IsOpen, Resizes, room_for}
use Rattle.lc_heap.specs.Heap.{Holds, done, free, used, IsBlockAt, IsFree, IsHeap, IsHeapOf, IsMarked, Use, end_at, room_at, tag_at}
use Rattle.lc_heap.specs.Walk.{IsMet, IsMissed, IsNarrow, Suits}
use Rattle.lc_heap.specs.declared.searching.Run.{Run}
use Rattle.lc_heap.proofs.Blocks.{behind_known, beside, bounded, even, joined, ordered, then_run}
use Rattle.lc_heap.proofs.Heads.{resized, run_bounds, run_words, taken_out}
use Rattle.lc_heap.proofs.Walks.{all_narrow, block_there}

pub suited_met : (bytes : List ℕ) (len room from : ℕ) (run : Run) → room ≡ room_for len → IsMarked bytes → from % 8 ≡ 0 → IsMet bytes room from run → Suits run room len
suited_met bytes len room from run is marked words met = record {
  is_room = is;
  begins = even met.before words;
  ends = even met.free (even met.before words);
  enough = met.enough;
  few = omega (arith, met.within, marked.few);
}

pub met_run : (bytes : List ℕ) (room from : ℕ) (run : Run) → IsMet bytes room from run → IsOpen bytes from → HasRun bytes room run
met_run bytes room from run met opened =
    let before : Holds bytes run.place 8 (opened.1.0 ++ met.front) = joined opened.1.1 met.before in
    let back = behind_known (then_run before met.free) opened.0.1.blocks met.within in
    (opened.0.1.marked, record { front = opened.1.0 ++ met.front; back = back.0; before = before; free = met.free; behind = back.1 }, met.enough)

-- all blocks are known, and no run has the room
pub missed_end : (bytes : List ℕ) (room run place from : ℕ) (front : List Use) → Holds bytes run from front → IsFree bytes run place → IsNarrow bytes room place run from from → length bytes ≤ place → IsMissed bytes room from
missed_end bytes room run place from front before run_free narrow past opened at to uses there free_there l = all_narrow narrow (omega arith) there free_there (omega arith)

-- no block stands where the known ones end: it is no heap
pub missed_block : (bytes : List ℕ) (room run place from : ℕ) (front : List Use) → Holds bytes run from front → IsFree bytes run place → place < length bytes → (IsBlockAt bytes place → ⊥) → IsMissed bytes room from
missed_block bytes room run place from front before run_free inside lacks opened at to uses there free_there l =
    absurd (lacks (block_there (joined opened.1.1 (then_run before run_free)) opened.0.1.blocks inside))

pub no_run_missed : (bytes : List ℕ) (room : ℕ) → IsMissed bytes room 8 → IsHeap bytes → HasNoRun bytes room
no_run_missed bytes room missed heap = (heap, λ place to run. missed (heap, ([], done)) place to run.front run.before run.free (ordered run.behind))

-- a run that has the room ends behind the blocks of which none has
pub first_end : (bytes : List ℕ) (room last mid from : ℕ) (front : List Use) → Holds bytes mid from front → IsNarrow bytes room mid last from from → (place to : ℕ) (uses : List Use) → Holds bytes place from uses → IsFree bytes place to → place + 8 + room ≤ to → end_at bytes mid ≤ to
first_end bytes room last mid from front known narrow place to uses there free_there has = elim (beside known (then_run there free_there)) [
  | inl l ↦ absurd (omega (arith, has, all_narrow narrow (omega arith) there free_there l))
  | inr l ↦ l
]

nowhere_front : {bytes : List ℕ} {to from : ℕ} {uses : List Use} → Holds bytes to from uses → (offset : ℕ) → to < offset → IsNowhere offset uses
nowhere_front done offset l = tt
nowhere_front (free block none rest) offset l = nowhere_front rest offset l
nowhere_front (used len block some rest) offset l = ((λ same. absurd (omega (arith, same, ordered rest))), nowhere_front rest offset l)

nowhere_back : {bytes : List ℕ} {to from : ℕ} {uses : List Use} → Holds bytes to from uses → (offset : ℕ) → offset < from + 8 → IsNowhere offset uses
nowhere_back done offset l = tt
nowhere_back (free block none rest) offset l = nowhere_back rest offset (omega arith)
nowhere_back (used len block some rest) offset l = ((λ same. absurd (omega (arith, same))), nowhere_back rest offset (omega arith))

nowhere_both : (offset : ℕ) (front back : List Use) → IsNowhere offset front → IsNowhere offset back → IsNowhere offset (front ++ back)
nowhere_both offset [] back one two = two
nowhere_both offset (held ∷ front) back one two = (one.0, nowhere_both offset front back one.1 two)

nowhere_free : {bytes : List ℕ} {to place : ℕ} {uses : List Use} → Holds bytes to place uses → (IsBlockAt bytes place → tag_at bytes place ≡ 0) → IsNowhere (place + 8) uses
nowhere_free done is_free = tt
nowhere_free {place = place} (free block none rest) is_free = nowhere_back rest (place + 8) (omega arith)
nowhere_free (used len block some rest) is_free = absurd (omega (arith, some, is_free block))

pub unfreed : (bytes : List ℕ) (offset place : ℕ) → offset ≡ place + 8 → (IsBlockAt bytes place → tag_at bytes place ≡ 0) → IsOpen bytes place → (uses : List Use) × IsHeapOf bytes uses × IsNowhere offset uses
unfreed bytes offset place at is_free opened =
    let past : place ≤ length bytes = bounded opened.1.1 opened.0.1.marked.some in
    let back = behind_known opened.1.1 opened.0.1.blocks past in (
      opened.1.0 ++ back.0,
      record { marked = opened.0.1.marked; blocks = joined opened.1.1 back.1 },
      nowhere_both offset opened.1.0 back.0 (nowhere_front opened.1.1 offset (omega (arith, at))) (subst (λ (n : ℕ). IsNowhere n back.0) (sym at) (nowhere_free back.1 is_free)),
    )

pub no_offset : (bytes : List ℕ) (offset : ℕ) → offset < 16 → IsHeap bytes → (uses : List Use) × IsHeapOf bytes uses × IsNowhere offset uses
no_offset bytes offset l heap = (heap.0, heap.1, nowhere_back heap.1.blocks offset l)

pub freed_open : (bytes : List ℕ) (offset place len : ℕ) (head : List ℕ) → offset ≡ place + 8 → IsBlockAt bytes place → tag_at bytes place ≡ suc len → head ≡ head_of (room_at bytes place) 0 → IsOpen bytes place → Frees bytes offset (record { place = place; head = head })
freed_open bytes offset place len head at block some is opened =
    let next : Holds bytes (end_at bytes place) 8 _ = joined opened.1.1 (used len block some done) in
    let back = behind_known next opened.0.1.blocks block.within in
    taken_out bytes place len opened.1.0 back.0 opened.0.1.marked opened.1.1 block some back.1 offset head at is

pub resized_open : (bytes : List ℕ) (offset place len given : ℕ) (head : List ℕ) → offset ≡ place + 8 → IsBlockAt bytes place → tag_at bytes place ≡ suc len → given ≤ room_at bytes place → head ≡ head_of (room_at bytes place) (given + 1) → IsOpen bytes place
    → Resizes bytes offset given (record { place = place; head = head })
resized_open bytes offset place len given head at block some fits is opened =
    let next : Holds bytes (end_at bytes place) 8 _ = joined opened.1.1 (used len block some done) in
    let back = behind_known next opened.0.1.blocks block.within in
    resized bytes place len opened.1.0 back.0 opened.0.1.marked opened.1.1 block some back.1 offset given head at fits is
