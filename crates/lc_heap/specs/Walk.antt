-- How far the blocks of a heap are known.
use Rattle.std.specs.Prelude.{◌≡◌, ◌⊎◌, ℕ, suc, ◌+◌, ◌%◌, ◌^◌, ◌<◌, ◌≤◌, List, length, Option, None, Some, MatchOption}
use Rattle.lc_heap.specs.Calls.{IsNowhere, IsOpen, room_for, total}
use Rattle.lc_heap.specs.Heap.{Holds, IsBlockAt, IsFree, Use, end_at, room_at, tag_at}
use Rattle.lc_heap.specs.declared.block.Block.{Block}
use Rattle.lc_heap.specs.declared.checking.Tally.{Tally}
use Rattle.lc_heap.specs.declared.freeing.Search.{Search}
use Rattle.lc_heap.specs.declared.searching.Run.{Run}

-- the block at a place
pub record IsBlock (bytes : List ℕ) (place : ℕ) (block : Block) : Type 0 where
  pub sound : IsBlockAt bytes place
  pub ends : block.end ≡ end_at bytes place
  pub asked : MatchOption block.len (tag_at bytes place ≡ 0) (λ len. tag_at bytes place ≡ suc len)

-- from a place to another no run of free blocks has the room; free blocks stand from run to the first place, and from last to the other
pub data IsNarrow (bytes : List ℕ) (room to last : ℕ) : ℕ → ℕ → Type 0 where
  ended : IsNarrow bytes room to last last to
  over_free : {run place : ℕ} → tag_at bytes place ≡ 0 → end_at bytes place < run + 8 + room → IsNarrow bytes room to last run (end_at bytes place) → IsNarrow bytes room to last run place
  over_used : {run place : ℕ} (len : ℕ) → tag_at bytes place ≡ suc len → IsNarrow bytes room to last (end_at bytes place) (end_at bytes place) → IsNarrow bytes room to last run place

-- a run that has the room stands in front of a place
pub record IsFound (bytes : List ℕ) (room place : ℕ) (run : Run) : Type 0 where
  pub front : List Use
  pub back : List Use
  pub before : Holds bytes run.place 8 front
  pub free : IsFree bytes run.place run.end
  pub behind : Holds bytes place run.end back
  pub enough : run.place + 8 + room ≤ run.end

-- a block in use has its contents at an offset, with this room
pub record IsThere (bytes : List ℕ) (offset place room : ℕ) : Type 0 where
  pub at : ℕ
  pub len : ℕ
  pub front : List Use
  pub back : List Use
  pub begins : offset ≡ at + 8
  pub before : Holds bytes at 8 front
  pub block : IsBlockAt bytes at
  pub tag : tag_at bytes at ≡ suc len
  pub is_room : room ≡ room_at bytes at
  pub behind : Holds bytes place (end_at bytes at) back

-- the blocks are gone over up to a place, in search of the one with this offset
pub record IsSought (bytes : List ℕ) (offset : ℕ) (search : Search) : Type 0 where
  pub uses : List Use
  pub known : Holds bytes search.place 8 uses
  pub found : MatchOption search.room (IsNowhere offset uses) (IsThere bytes offset search.place)

-- one more than what is the greatest room
abbrev pub above : Option ℕ → ℕ
above None = 0
above (Some room) = room + 1

-- some run in front of a place has just this room
abbrev pub HasJust : List ℕ → ℕ → ℕ → Type 0
HasJust bytes place room = (run : Run) × IsFound bytes room place run

-- the greater of two rooms, of which the first may be none
abbrev pub IsGreater : Option ℕ → ℕ → Option ℕ → Type 0
IsGreater largest room given = ((given ≡ Some room) × (above largest ≤ room + 1)) ⊎ ((given ≡ largest) × (room < above largest))

-- the blocks are gone over up to a place, with what is in use and the greatest room
pub record IsTallied (bytes : List ℕ) (tally : Tally) : Type 0 where
  pub front : List Use
  pub before : Holds bytes tally.run 8 front
  pub free : IsFree bytes tally.run tally.place
  pub counted : tally.in_use ≡ total front
  pub small : tally.in_use ≤ tally.place
  pub narrow : IsNarrow bytes (above tally.largest) tally.place tally.run 8 8
  pub there : MatchOption tally.largest (Unit {0}) (HasJust bytes tally.place)

-- a block of this length goes to the front of the run
pub record Suits (run : Run) (room len : ℕ) : Type 0 where
  pub is_room : room ≡ room_for len
  pub begins : run.place % 8 ≡ 0
  pub ends : run.end % 8 ≡ 0
  pub enough : run.place + 8 + room ≤ run.end
  pub few : run.end < 2 ^ 32

-- a run that has the room stands behind a place, and none that has it ends in front of its end
pub record IsMet (bytes : List ℕ) (room from : ℕ) (run : Run) : Type 0 where
  pub front : List Use
  pub before : Holds bytes run.place from front
  pub free : IsFree bytes run.place run.end
  pub enough : run.place + 8 + room ≤ run.end
  pub within : run.end ≤ length bytes
  pub first : (place to : ℕ) (uses : List Use) → Holds bytes place from uses → IsFree bytes place to → place + 8 + room ≤ to → run.end ≤ to

-- no run that begins at a place or behind it has the room, if the bytes are a heap and blocks stand up to that place
abbrev pub IsMissed : List ℕ → ℕ → ℕ → Type 0
IsMissed bytes room from = IsOpen bytes from → (place to : ℕ) (uses : List Use) → Holds bytes place from uses → IsFree bytes place to → to ≤ length bytes → to < place + 8 + room
