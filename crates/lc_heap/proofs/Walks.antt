-- How the blocks of a heap are gone over.
use Rattle.std.proofs.Common.{◌≡◌, ℕ, suc, ◌+◌, ◌<◌, ◌≤◌, List, [], ◌∷◌, ◌++◌, length, Option, Some, None, refl, sym, subst, ◌∙◌, inl, inr, arith, true≢false}
use Rattle.std.specs.Prelude.{◌⊎◌, true, false, is_some, IsSome, MatchOption}
use Rattle.lc_heap.specs.Heap.{Holds, done, free, used, IsBlockAt, IsHeap, IsMarked, IsRun, Use, end_at, tag_at, use_at}
use Rattle.lc_heap.specs.Walk.{IsBlock, IsNarrow, ended, over_free, over_used, IsFound}
use Rattle.lc_heap.specs.Calls.{IsFaulty}
use Rattle.lc_heap.specs.declared.block.Block.{Block}
use Rattle.lc_heap.specs.declared.searching.Run.{Run}
use Rattle.lc_heap.proofs.Blocks.{bounded, ordered, joined, then_free, then_run}

-- where blocks end and more bytes of a heap follow a block stands
pub block_there : {bytes : List ℕ} {mid to from : ℕ} {uses others : List Use} → Holds bytes mid from uses → Holds bytes to from others → mid < to → IsBlockAt bytes mid
block_there done done l = absurd (omega arith)
block_there done (free block none rest) l = block
block_there done (used len block some rest) l = block
block_there (free block none rest) done l = absurd (omega (arith, ordered rest))
block_there (free block none rest) (free block' none' rest') l = block_there rest rest' l
block_there (free block none rest) (used len block' some rest') l = absurd (omega (arith, none, some))
block_there (used len block some rest) done l = absurd (omega (arith, ordered rest))
block_there (used len block some rest) (free block' none rest') l = absurd (omega (arith, none, some))
block_there (used len block some rest) (used len' block' some' rest') l = block_there rest rest' l

pub no_heap : {bytes : List ℕ} {mid : ℕ} {uses : List Use} → Holds bytes mid 8 uses → mid < length bytes → (IsBlockAt bytes mid → ⊥) → IsHeap bytes → ⊥
no_heap known l lacks heap = lacks (block_there known heap.1.blocks l)

pub narrow_free : {bytes : List ℕ} {room mid last run from : ℕ} → IsNarrow bytes room mid last run from → tag_at bytes mid ≡ 0 → end_at bytes mid < last + 8 + room → IsNarrow bytes room (end_at bytes mid) last run from
narrow_free ended none l = over_free none l ended
narrow_free (over_free none' l' rest) none l = over_free none' l' (narrow_free rest none l)
narrow_free (over_used len some rest) none l = over_used len some (narrow_free rest none l)

pub narrow_used : {bytes : List ℕ} {room mid last run from : ℕ} → IsNarrow bytes room mid last run from → (len : ℕ) → tag_at bytes mid ≡ suc len → IsNarrow bytes room (end_at bytes mid) (end_at bytes mid) run from
narrow_used ended len some = over_used len some ended
narrow_used (over_free none l rest) len some = over_free none l (narrow_used rest len some)
narrow_used (over_used len' some' rest) len some = over_used len' some' (narrow_used rest len some)

narrow_ordered : {bytes : List ℕ} {room to last run from : ℕ} → IsNarrow bytes room to last run from → from ≤ to
narrow_ordered ended = omega arith
narrow_ordered (over_free none l rest) = omega (arith, narrow_ordered rest)
narrow_ordered (over_used len some rest) = omega (arith, narrow_ordered rest)

-- the free blocks at a place, with those in front, have less
first_narrow : {bytes : List ℕ} {room to last end run from : ℕ} → IsNarrow bytes room to last run from → Holds bytes end from [] → end ≤ to → run ≤ from → end < run + 8 + room ⊎ (end ≡ from)
first_narrow narrow done l r = inr refl
first_narrow ended (free block none rest) l r = absurd (omega (arith, ordered rest))
first_narrow (over_free none' l' narrow) (free block none rest) l r = elim (first_narrow narrow rest l (omega arith)) [
  | inl h ↦ inl h
  | inr e ↦ inl (omega (arith, e, l'))
]
first_narrow (over_used len some narrow) (free block none rest) l r = absurd (omega (arith, none, some))

-- and so have those behind
pub all_narrow : {bytes : List ℕ} {room to last place end from run : ℕ} {uses : List Use} → IsNarrow bytes room to last run from → run ≤ from → Holds bytes place from uses → Holds bytes end place [] → end ≤ to → end < place + 8 + room
all_narrow narrow r done run l = elim (first_narrow narrow run l r) [
  | inl h ↦ omega (arith, h)
  | inr e ↦ omega (arith, e)
]
all_narrow ended r (free block none rest) run l = absurd (omega (arith, ordered rest, ordered run))
all_narrow (over_free none' l' narrow) r (free block none rest) run l = all_narrow narrow (omega arith) rest run l
all_narrow (over_used len some narrow) r (free block none rest) run l = absurd (omega (arith, none, some))
all_narrow ended r (used len block some rest) run l = absurd (omega (arith, ordered rest, ordered run))
all_narrow (over_free none l' narrow) r (used len block some rest) run l = absurd (omega (arith, none, some))
all_narrow (over_used len' some' narrow) r (used len block some rest) run l = all_narrow narrow (omega arith) rest run l

pub no_run : {bytes : List ℕ} {room last : ℕ} → IsNarrow bytes room (length bytes) last 8 8 → (place to : ℕ) → IsRun bytes place to → to < place + 8 + room
no_run narrow place to run = all_narrow narrow (omega arith) run.before run.free (ordered run.behind)

-- a run that was found stays so, over a free block and over one in use
pub found_free : {bytes : List ℕ} {room place end : ℕ} {run : Run} → Holds bytes end place [] → IsFound bytes room place run → IsFound bytes room end run
found_free next found = record { front = found.front; back = found.back; before = found.before; free = found.free; behind = then_run found.behind next; enough = found.enough }

pub found_used : {bytes : List ℕ} {room place end : ℕ} {run : Run} {held : Use} → Holds bytes end place (held ∷ []) → IsFound bytes room place run → IsFound bytes room end run
found_used {held = held} next found = record { front = found.front; back = found.back ++ held ∷ []; before = found.before; free = found.free; behind = joined found.behind next; enough = found.enough }

-- what a block says of its length
some_tag : (tag : ℕ) (asked : Option ℕ) → true ≡ is_some asked → MatchOption asked (tag ≡ 0) (λ len. tag ≡ suc len) → (len : ℕ) × (tag ≡ suc len)
some_tag tag None some is = absurd (true≢false some)
some_tag tag (Some len) some is = (len, is)

no_tag : (tag : ℕ) (asked : Option ℕ) → false ≡ is_some asked → MatchOption asked (tag ≡ 0) (λ len. tag ≡ suc len) → tag ≡ 0
no_tag tag None none is = is
no_tag tag (Some len) none is = absurd (true≢false (sym none))

pub used_block : (bytes : List ℕ) (place : ℕ) (block : Block) → IsBlock bytes place block → true ≡ is_some block.len → (len : ℕ) × (tag_at bytes place ≡ suc len)
used_block bytes place block is some = some_tag (tag_at bytes place) block.len some is.asked

pub free_block : (bytes : List ℕ) (place : ℕ) (block : Block) → IsBlock bytes place block → false ≡ is_some block.len → tag_at bytes place ≡ 0
free_block bytes place block is none = no_tag (tag_at bytes place) block.len none is.asked

-- the bytes hold no heap, where a fault was found
pub faulty : {bytes : List ℕ} {place : ℕ} → IsFaulty bytes place → IsHeap bytes → ⊥
faulty fault heap = elim fault [
  | inl w ↦ w.1 heap.1.marked
  | inr w ↦ no_heap w.1.1 w.2 w.3 heap
]
