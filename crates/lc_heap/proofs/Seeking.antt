-- How a block in use is looked for.
use Rattle.std.proofs.Common.{◌≡◌, ◌≢◌, ℕ, suc, ◌+◌, ◌-◌, ◌^◌, ◌<◌, ◌≤◌, List, [], ◌∷◌, ◌++◌, length, Option, Some, None, sym, ap, subst, ◌∙◌, inl, inr, arith}
use Rattle.std.specs.Prelude.{◌⊎◌, MatchOption}
use Rattle.lc_heap.specs.Bytes.{head_of}
use Rattle.lc_heap.specs.Calls.{Frees, IsNowhere}
use Rattle.lc_heap.specs.Heap.{Holds, done, free, used, IsBlockAt, IsHeapOf, IsMarked, Use, end_at, tag_at, use_at}
use Rattle.lc_heap.specs.Walk.{IsBlock, IsSought, IsThere}
use Rattle.lc_heap.specs.declared.block.Block.{Block}
use Rattle.lc_heap.specs.declared.freeing.Search.{Search}
use Rattle.lc_heap.proofs.Blocks.{bounded, joined, then_free, then_run}
use Rattle.lc_heap.proofs.Heads.{taken_out}

nowhere_more : (offset : ℕ) (uses : List Use) (held : Use) → IsNowhere offset uses → held.offset ≢ offset → IsNowhere offset (uses ++ held ∷ [])
nowhere_more offset [] held none other = (other, tt)
nowhere_more offset (first ∷ uses) held none other = (none.0, nowhere_more offset uses held none.1 other)

-- a block that was met stays so, over a free block and over one in use
there_free : {bytes : List ℕ} {offset place end room : ℕ} → Holds bytes end place [] → IsThere bytes offset place room → IsThere bytes offset end room
there_free next there = record {
  at = there.at;
  len = there.len;
  front = there.front;
  back = there.back;
  begins = there.begins;
  before = there.before;
  block = there.block;
  tag = there.tag;
  is_room = there.is_room;
  behind = then_run there.behind next;
}

there_used : {bytes : List ℕ} {offset place end room : ℕ} {held : Use} → Holds bytes end place (held ∷ []) → IsThere bytes offset place room → IsThere bytes offset end room
there_used {held = held} next there = record {
  at = there.at;
  len = there.len;
  front = there.front;
  back = there.back ++ held ∷ [];
  begins = there.begins;
  before = there.before;
  block = there.block;
  tag = there.tag;
  is_room = there.is_room;
  behind = joined there.behind next;
}

module _ (bytes : List ℕ) (offset place : ℕ) (block : IsBlockAt bytes place) (uses : List Use) where
  none_free : tag_at bytes place ≡ 0 → (room : Option ℕ) → MatchOption room (IsNowhere offset uses) (IsThere bytes offset place) → MatchOption room (IsNowhere offset uses) (IsThere bytes offset (end_at bytes place))
  none_free none None found = found
  none_free none (Some room) found = there_free (free block none done) found

  none_used : (len : ℕ) → tag_at bytes place ≡ suc len → place + 8 ≢ offset → (room : Option ℕ) → MatchOption room (IsNowhere offset uses) (IsThere bytes offset place)
      → MatchOption room (IsNowhere offset (uses ++ use_at bytes (place + 8) len ∷ [])) (IsThere bytes offset (end_at bytes place))
  none_used len some other None found = nowhere_more offset uses (use_at bytes (place + 8) len) found other
  none_used len some other (Some room) found = there_used (used len block some done) found

  -- over a block that is not the one
  passed : Holds bytes place 8 uses → (asked : Option ℕ) → MatchOption asked (tag_at bytes place ≡ 0) (λ len. tag_at bytes place ≡ suc len) → (tag_at bytes place ≡ 0) ⊎ (place + 8 ≢ offset)
      → (room : Option ℕ) → MatchOption room (IsNowhere offset uses) (IsThere bytes offset place) → IsSought bytes offset (record { place = end_at bytes place; room = room })
  passed known None none why room found = record { uses = uses; known = then_free known block none; found = none_free none room found }
  passed known (Some len) some (inl none) room found = absurd (omega (arith, some, none))
  passed known (Some len) some (inr other) room found = record {
    uses = uses ++ use_at bytes (place + 8) len ∷ [];
    known = joined known (used len block some done);
    found = none_used len some other room found;
  }

pub sought_on : (bytes : List ℕ) (offset : ℕ) (search : Search) (block : Block) → IsSought bytes offset search → IsBlock bytes search.place block → (tag_at bytes search.place ≡ 0) ⊎ (search.place + 8 ≢ offset)
    → IsSought bytes offset (record { place = block.end; room = search.room })
sought_on bytes offset search block sought is why =
    subst (λ (n : ℕ). IsSought bytes offset (record { place = n; room = search.room })) (sym is.ends)
    (passed bytes offset search.place is.sound sought.uses sought.known block.len is.asked why search.room sought.found)

-- over the block that is looked for
pub sought_here : (bytes : List ℕ) (offset : ℕ) (search : Search) (block : Block) → IsSought bytes offset search → IsBlock bytes search.place block → (len : ℕ) → tag_at bytes search.place ≡ suc len → search.place + 8 ≡ offset
    → IsSought bytes offset (record { place = block.end; room = Some (block.end - (search.place + 8)) })
sought_here bytes offset search block sought is len some begins = record {
  uses = sought.uses ++ use_at bytes (search.place + 8) len ∷ [];
  known = subst (λ (n : ℕ). Holds bytes n 8 (sought.uses ++ use_at bytes (search.place + 8) len ∷ [])) (sym is.ends) (joined sought.known (used len is.sound some done));
  found = record {
    at = search.place;
    len = len;
    front = sought.uses;
    back = [];
    begins = sym begins;
    before = sought.known;
    block = is.sound;
    tag = some;
    is_room = omega (arith, is.ends);
    behind = subst (λ (n : ℕ). Holds bytes n (end_at bytes search.place) []) (sym is.ends) done;
  };
}

-- all blocks are gone over
pub whole : (bytes : List ℕ) (place : ℕ) (uses : List Use) → IsMarked bytes → Holds bytes place 8 uses → length bytes ≤ place → place ≡ length bytes
whole bytes place uses marked known past = omega (arith, past, bounded known marked.some)

pub sought_all : (bytes : List ℕ) (offset place : ℕ) (uses : List Use) → IsMarked bytes → Holds bytes place 8 uses → length bytes ≤ place → IsNowhere offset uses → (all : List Use) × IsHeapOf bytes all × IsNowhere offset all
sought_all bytes offset place uses marked known past none =
    (uses, record { marked = marked; blocks = subst (λ (n : ℕ). Holds bytes n 8 uses) (whole bytes place uses marked known past) known }, none)

pub there_all : (bytes : List ℕ) (offset place room : ℕ) (uses : List Use) → IsMarked bytes → Holds bytes place 8 uses → length bytes ≤ place → IsThere bytes offset place room → IsThere bytes offset (length bytes) room
there_all bytes offset place room uses marked known past there = subst (λ (n : ℕ). IsThere bytes offset n room) (whole bytes place uses marked known past) there

pub freed : (bytes : List ℕ) (offset room : ℕ) → IsMarked bytes → IsThere bytes offset (length bytes) room → (place : ℕ) (head : List ℕ) → place ≡ offset - 8 → head ≡ head_of room 0 → Frees bytes offset (record { place = place; head = head })
freed bytes offset room marked there place head at is =
    let here : there.at ≡ place = omega (arith, at, there.begins) in
    subst (λ (n : ℕ). Frees bytes offset (record { place = n; head = head })) here
    (taken_out bytes there.at there.len there.front there.back marked there.before there.block there.tag there.behind offset head there.begins (is ∙ ap (λ (n : ℕ). head_of n 0) there.is_room))
