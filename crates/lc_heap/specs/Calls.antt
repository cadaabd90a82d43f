-- What the calls of a heap give.
use Rattle.std.specs.Prelude.{◌≡◌, ◌≢◌, ◌⊎◌, ℕ, ◌+◌, ◌-◌, ◌*◌, ◌/◌, ◌%◌, ◌<◌, ◌≤◌, List, [], ◌∷◌, ◌++◌, length, drop, Option, Some, None, MatchOption}
use Rattle.lc_heap.specs.Bytes.{written}
use Rattle.lc_heap.specs.Heap.{Holds, IsBlockAt, IsFree, IsHeap, IsHeapOf, IsMarked, IsRun, Use, end_at, room_at, use_at}
use Rattle.lc_heap.specs.declared.allocation.Allocation.{Allocation}
use Rattle.lc_heap.specs.declared.allocation.Change.{Change}
use Rattle.lc_heap.specs.declared.checking.Usage.{Usage}
use Rattle.lc_heap.specs.declared.heap_fault.HeapFault.{HeapFault}
use Rattle.lc_heap.specs.declared.heap_fault.HeapFault.TheVariants.{NoRoom, NotABlock, NotAHeap}
use Rattle.lc_heap.specs.declared.listing.HeapBlock.{HeapBlock}
use Rattle.lc_heap.specs.declared.searching.Run.{Run}

-- the room of a block of this length: whole words
abbrev pub room_for : ℕ → ℕ
room_for len = (len + 7) / 8 * 8

-- the bytes where a head is written
abbrev pub changed : Change → List ℕ → List ℕ
changed change bytes = written change.place change.head bytes

abbrev pub changed_by : Option Change → List ℕ → List ℕ
changed_by None bytes = bytes
changed_by (Some change) bytes = changed change bytes

-- the bytes where the heads of an allocation are written
abbrev pub left_by : Allocation → List ℕ → List ℕ
left_by given bytes = changed_by given.rest (changed given.head bytes)

-- a head at this place touches no byte of the contents of the block, or of any of them
abbrev pub IsSpared : ℕ → Use → Type 0
IsSpared place held = (held.offset + length held.contents ≤ place) ⊎ (place + 8 ≤ held.offset)

abbrev pub AreSpared : ℕ → List Use → Type 0
AreSpared place [] = Unit {0}
AreSpared place (held ∷ uses) = IsSpared place held × AreSpared place uses

abbrev pub AreSparedBy : Option Change → List Use → Type 0
AreSparedBy None uses = Unit {0}
AreSparedBy (Some change) uses = AreSpared change.place uses

-- the blocks in use stay, with their contents, and one more of this length is among them; no byte of theirs is written
pub record Allocates (bytes : List ℕ) (len : ℕ) (given : Allocation) : Type 0 where
  pub front : List Use
  pub back : List Use
  pub before : IsHeapOf bytes (front ++ back)
  pub after : IsHeapOf (left_by given bytes) (front ++ use_at (left_by given bytes) given.offset len ∷ back)
  pub within : given.offset + len ≤ length bytes
  pub spared : AreSpared given.head.place (front ++ back)
  pub rest_spared : AreSparedBy given.rest (front ++ back)
  -- so the place of its head serves the next call
  pub known : Holds (left_by given bytes) given.head.place 8 front

-- no run of adjacent free blocks has the room
abbrev pub HasNoRun : List ℕ → ℕ → Type 0
HasNoRun bytes room = IsHeap bytes × ((place to : ℕ) → IsRun bytes place to → to < place + 8 + room)

-- this one has
abbrev pub HasRun : List ℕ → ℕ → Run → Type 0
HasRun bytes room run = IsMarked bytes × IsRun bytes run.place run.end × (run.place + 8 + room ≤ run.end)

abbrev pub IsNoHeap : List ℕ → HeapFault → Type 0
IsNoHeap bytes fault = (fault ≡ NotAHeap) × (IsHeap bytes → ⊥)

abbrev pub IsUnallocated : List ℕ → ℕ → HeapFault → Type 0
IsUnallocated bytes len NotAHeap = IsHeap bytes → ⊥
IsUnallocated bytes len NoRoom = HasNoRun bytes (room_for len)
IsUnallocated bytes len NotABlock = ⊥

-- no block in use begins there
abbrev pub IsNowhere : ℕ → List Use → Type 0
IsNowhere offset [] = Unit {0}
IsNowhere offset (held ∷ uses) = (held.offset ≢ offset) × IsNowhere offset uses

-- the block that begins there is in use no more, and all others stay, with their contents; no byte of any is written
pub record Frees (bytes : List ℕ) (offset : ℕ) (change : Change) : Type 0 where
  pub front : List Use
  pub freed : Use
  pub back : List Use
  pub there : freed.offset ≡ offset
  pub before : IsHeapOf bytes (front ++ freed ∷ back)
  pub after : IsHeapOf (changed change bytes) (front ++ back)
  pub spared : AreSpared change.place (front ++ freed ∷ back)
  -- so a place up to which blocks stood serves as before
  pub known : (place : ℕ) (uses : List Use) → Holds bytes place 8 uses → (left : List Use) × Holds (changed change bytes) place 8 left

abbrev pub IsUnfreed : List ℕ → ℕ → HeapFault → Type 0
IsUnfreed bytes offset NotAHeap = IsHeap bytes → ⊥
IsUnfreed bytes offset NoRoom = ⊥
IsUnfreed bytes offset NotABlock = (uses : List Use) × IsHeapOf bytes uses × IsNowhere offset uses

-- a segment of this length can be a heap with a block
abbrev pub CanHold : ℕ → Type 0
CanHold len = (16 ≤ len) × (len % 8 ≡ 0)

-- where these bytes stand at the front of as many bytes, they are a heap, and one free block is all of it
pub record Formats (len : ℕ) (front : List ℕ) : Type 0 where
  pub sixteen : length front ≡ 16
  pub heap : (bytes : List ℕ) → length bytes ≡ len → IsHeapOf (front ++ drop 16 bytes) [] × (end_at (front ++ drop 16 bytes) 8 ≡ len)

-- from a place on no block is in use, if the bytes begin as a heap and blocks stand there
abbrev pub HasNoUse : List ℕ → ℕ → Type 0
HasNoUse bytes place = IsMarked bytes → (uses : List Use) → Holds bytes (length bytes) place uses → uses ≡ []

-- this is the first block in use from a place on, and the others stand behind its end, if the bytes begin as a heap and
-- blocks stand there
abbrev pub IsNext : List ℕ → ℕ → HeapBlock → Type 0
IsNext bytes place block = IsMarked bytes → (uses : List Use) → Holds bytes (length bytes) place uses
    → (others : List Use) × (uses ≡ use_at bytes block.offset block.len ∷ others) × Holds bytes (length bytes) block.end others

-- how long the contents of these blocks are together
abbrev pub total : List Use → ℕ
total [] = 0
total (held ∷ uses) = length held.contents + total uses

-- the bytes are a heap with this in use, of which no run has more than the greatest room, and one has it
pub record HasUsage (bytes : List ℕ) (usage : Usage) : Type 0 where
  pub uses : List Use
  pub heap : IsHeapOf bytes uses
  pub counted : usage.in_use ≡ total uses
  pub largest : MatchOption usage.largest (HasNoRun bytes 0) (λ room. HasNoRun bytes (room + 1) × ((run : Run) × HasRun bytes room run))

-- the bytes do not begin as those of a heap, or blocks stand up to this place and none there
abbrev pub IsFaulty : List ℕ → ℕ → Type 0
IsFaulty bytes place = ((place ≡ 0) × (IsMarked bytes → ⊥))
    ⊎ (IsMarked bytes × ((uses : List Use) × Holds bytes place 8 uses) × (place < length bytes) × (IsBlockAt bytes place → ⊥))

-- the bytes are a heap, and blocks stand up to a place
abbrev pub IsOpen : List ℕ → ℕ → Type 0
IsOpen bytes place = IsHeap bytes × ((uses : List Use) × Holds bytes place 8 uses)

-- the block that begins there has this length, with as much of its contents, and all others stay; no byte of any is written
pub record Resizes (bytes : List ℕ) (offset len : ℕ) (change : Change) : Type 0 where
  pub front : List Use
  pub held : Use
  pub back : List Use
  pub there : held.offset ≡ offset
  pub before : IsHeapOf bytes (front ++ held ∷ back)
  pub after : IsHeapOf (changed change bytes) (front ++ use_at (changed change bytes) offset len ∷ back)
  pub within : offset + len ≤ length bytes
  pub spared : AreSpared change.place (front ++ held ∷ back)
  -- so a place up to which blocks stood serves as before
  pub known : (place : ℕ) (uses : List Use) → Holds bytes place 8 uses → (left : List Use) × Holds (changed change bytes) place 8 left

abbrev pub IsUnresized : List ℕ → ℕ → ℕ → HeapFault → Type 0
IsUnresized bytes offset len NotAHeap = ⊥
IsUnresized bytes offset len NoRoom = room_at bytes (offset - 8) < len
IsUnresized bytes offset len NotABlock = (uses : List Use) × IsHeapOf bytes uses × IsNowhere offset uses

-- no run that begins at a place or behind it and has the room ends in front of the room of the new block
abbrev pub IsFirst : List ℕ → ℕ → ℕ → Allocation → Type 0
IsFirst bytes from len given = (place to : ℕ) (uses : List Use) → Holds bytes place from uses → IsFree bytes place to → place + 8 + room_for len ≤ to → to ≤ length bytes → given.offset + room_for len ≤ to
