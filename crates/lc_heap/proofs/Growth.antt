-- A heap whose segment has grown.
use Rattle.std.proofs.Common.{◌≡◌, ℕ, zero, suc, ◌+◌, ◌*◌, ◌-◌, ◌%◌, ◌^◌, ◌<◌, ◌≤◌, List, [], ◌∷◌, ◌++◌, length, take, drop, replicate, refl, sym, ap, subst, ◌∙◌, arith}
use Rattle.std.specs.Int.{w32, from_le_bytes}
use Rattle.std.proofs.lemmas.List.{drop-append-le, drop-replicate, length-append, length-drop, length-replicate, take-append-le, take-replicate}
use Rattle.std.proofs.Math.Seq.{drop-append-add}
use Rattle.lc_heap.specs.Bytes.{number_at}
use Rattle.lc_heap.specs.Heap.{Holds, done, free, used, IsBlockAt, IsFree, IsHeapOf, Use, end_at, room_at, tag_at, use_at}
use Rattle.lc_heap.proofs.Blocks.{then_run}

module _ (bytes more : List ℕ) where
  number_stays : (place : ℕ) → place + 4 ≤ length bytes → number_at (bytes ++ more) place ≡ number_at bytes place
  unfolding number_at
  number_stays place l =
      ap (λ (bs : List ℕ). from_le_bytes w32 bs) (ap (λ (bs : List ℕ). take 4 bs) (drop-append-le place bytes more (omega (arith, l)))
      ∙ take-append-le 4 (drop place bytes) more (omega (arith, l, length-drop place bytes)))

  use_stays : (offset len : ℕ) → offset + len ≤ length bytes → use_at (bytes ++ more) offset len ≡ use_at bytes offset len
  use_stays offset len l =
      ap (λ (bs : List ℕ). record { offset = offset; contents = bs }) (ap (λ (bs : List ℕ). take len bs) (drop-append-le offset bytes more (omega (arith, l)))
      ∙ take-append-le len (drop offset bytes) more (omega (arith, l, length-drop offset bytes)))

  block_stays : (place : ℕ) → IsBlockAt bytes place → IsBlockAt (bytes ++ more) place
  block_stays place block =
      let room : room_at (bytes ++ more) place ≡ room_at bytes place = number_stays place (omega (arith, block.within)) in
      let tag : tag_at (bytes ++ more) place ≡ tag_at bytes place = number_stays (place + 4) (omega (arith, block.within)) in
      record {
        words = ap (λ (n : ℕ). n % 8) room ∙ block.words;
        within = omega (arith, room, block.within, length-append bytes more);
        fits = omega (arith, room, tag, block.fits);
      }

  end_stays : (place : ℕ) → IsBlockAt bytes place → end_at (bytes ++ more) place ≡ end_at bytes place
  end_stays place block = ap (λ (n : ℕ). place + 8 + n) (number_stays place (omega (arith, block.within)))

  tag_stays : (place : ℕ) → IsBlockAt bytes place → tag_at (bytes ++ more) place ≡ tag_at bytes place
  tag_stays place block = number_stays (place + 4) (omega (arith, block.within))

  -- blocks stay where they are, with what they hold
  blocks_stay : {to place : ℕ} {uses : List Use} → Holds bytes to place uses → Holds (bytes ++ more) to place uses
  blocks_stay done = done
  blocks_stay {to} {place} {uses} (free block none rest) =
      free (block_stays place block) (tag_stays place block ∙ none) (subst (λ (n : ℕ). Holds (bytes ++ more) to n uses) (sym (end_stays place block)) (blocks_stay rest))
  blocks_stay {to} {place} (used {uses = others} len block some rest) =
      subst (λ (u : Use). Holds (bytes ++ more) to place (u ∷ others)) (use_stays (place + 8) len (omega (arith, block.within, block.fits, some)))
      (used len (block_stays place block) (tag_stays place block ∙ some) (subst (λ (n : ℕ). Holds (bytes ++ more) to n others) (sym (end_stays place block)) (blocks_stay rest)))

module _ (bytes : List ℕ) (words : ℕ) where
  abbrev pub grown : List ℕ
  grown = bytes ++ replicate (8 * words) 0

  grown_len : length grown ≡ length bytes + 8 * words
  grown_len = length-append bytes (replicate (8 * words) 0) ∙ ap (λ (n : ℕ). length bytes + n) (length-replicate (8 * words) 0)

  zero_number : (k : ℕ) → k + 4 ≤ 8 * words → number_at grown (length bytes + k) ≡ 0
  unfolding number_at
  zero_number k l =
      ap (λ (bs : List ℕ). from_le_bytes w32 bs) (ap (λ (bs : List ℕ). take 4 bs) (drop-append-add bytes (replicate (8 * words) 0) k ∙ drop-replicate k (8 * words) 0)
      ∙ take-replicate 4 (8 * words - k) 0 (omega (arith, l)))

  -- each word of zeros is a free block with no room
  zeros_free : (left k : ℕ) → left + k ≡ words → IsFree grown (length bytes + 8 * k) (length bytes + 8 * words)
  zeros_free zero k e = subst (λ (n : ℕ). IsFree grown (length bytes + 8 * n) (length bytes + 8 * words)) (omega (arith, e)) done
  zeros_free (suc left) k e =
      let room : room_at grown (length bytes + 8 * k) ≡ 0 = zero_number (8 * k) (omega (arith, e)) in
      let tag : tag_at grown (length bytes + 8 * k) ≡ 0 = subst (λ (n : ℕ). number_at grown n ≡ 0) (omega arith) (zero_number (8 * k + 4) (omega (arith, e))) in
      let block : IsBlockAt grown (length bytes + 8 * k) = record {
        words = ap (λ (n : ℕ). n % 8) room;
        within = omega (arith, room, grown_len, e);
        fits = omega (arith, room, tag);
      } in
      free block tag (subst (λ (n : ℕ). IsFree grown n (length bytes + 8 * words)) (omega (arith, room)) (zeros_free left (suc k) (omega (arith, e))))

all_free : (bytes : List ℕ) (words : ℕ) → IsFree (grown bytes words) (length bytes + 8 * 0) (length bytes + 8 * words)
all_free bytes words = zeros_free bytes words words 0 (omega arith)

pub new_is_free : (bytes : List ℕ) (words : ℕ) → IsFree (grown bytes words) (length bytes) (length bytes + 8 * words)
new_is_free bytes words = subst (λ (n : ℕ). IsFree (grown bytes words) n (length bytes + 8 * words)) (omega arith) (all_free bytes words)

pub still_heap : (bytes : List ℕ) (words : ℕ) (uses : List Use) → IsHeapOf bytes uses → length bytes + 8 * words < 2 ^ 32 → IsHeapOf (grown bytes words) uses
still_heap bytes words uses heap few = record {
  marked = record {
    some = omega (arith, grown_len bytes words, heap.marked.some);
    few = omega (arith, grown_len bytes words, few);
    mark = number_stays bytes (replicate (8 * words) 0) 0 (omega (arith, heap.marked.some)) ∙ heap.marked.mark;
    format = number_stays bytes (replicate (8 * words) 0) 4 (omega (arith, heap.marked.some)) ∙ heap.marked.format;
  };
  blocks = subst (λ (n : ℕ). Holds (grown bytes words) n 8 uses) (sym (grown_len bytes words))
      (then_run (blocks_stay bytes (replicate (8 * words) 0) heap.blocks) (new_is_free bytes words));
}
