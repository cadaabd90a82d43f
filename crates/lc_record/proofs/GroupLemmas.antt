-- A group whose bytes are those of these words and of a zero word.
use Rattle.std.proofs.Common.{◌≡◌, ℕ, ◌+◌, ◌-◌, ◌*◌, ◌<◌, ◌≤◌, List, [], ◌∷◌, ◌++◌, length, get_or, take, drop, replicate, vec_capacity, refl, sym, ◌∙◌, ap, arith, append_assoc, length-append, append-nil}
use Rattle.std.proofs.lemmas.List.{length-take-le, take_at, drop_at}
use borrow.Rule.Slice.PartMut.{put_mid, post_of}
use Rattle.std.specs.Int.{w64, to_le_bytes}
use Rattle.lc_record.specs.Words.{words_of, bytes_of, AreWords}
use Rattle.lc_record.specs.Group.{all_but_last, group_words, group_view, IsGroupBytes}
use Rattle.lc_record.specs.declared.group.Group.TheInside.{Inside}
use Rattle.lc_record.proofs.DataLemmas.{bytes_of-next, drop_zeros}
use Rattle.lc_record.proofs.WordLemmas.{words_of-nil, words_of-bytes_of, bytes_of-append, length-bytes_of, AreWords-append}

all_but_last-push : (xs : List ℕ) (y : ℕ) → all_but_last (xs ++ y ∷ []) ≡ xs
all_but_last-push [] y = refl
all_but_last-push (x ∷ []) y = refl
all_but_last-push (x ∷ z ∷ zs) y = ap (λ (l : List ℕ). x ∷ l) (all_but_last-push (z ∷ zs) y)

-- the words of a group's bytes
group_words-bytes : (ws : List ℕ) → AreWords ws → all_but_last (words_of (bytes_of (ws ++ 0 ∷ []))) ≡ ws
group_words-bytes ws fit =
    let all : List ℕ = ws ++ 0 ∷ [] in
    let zero_fits : AreWords (0 ∷ []) = (omega arith, tt) in
    let read : words_of (bytes_of all ++ []) ≡ all ++ words_of [] = words_of-bytes_of all [] (AreWords-append ws (0 ∷ []) fit zero_fits) in
    let plain : bytes_of all ++ [] ≡ bytes_of all = append-nil (bytes_of all) in
    let end : all ++ words_of [] ≡ all = ap (λ (l : List ℕ). all ++ l) words_of-nil ∙ append-nil all in
    ap all_but_last (ap words_of (sym plain) ∙ read ∙ end) ∙ all_but_last-push ws 0

module _ (g : Inside) (ws : List ℕ) (text : g.bytes.items ≡ bytes_of (ws ++ 0 ∷ [])) (fit : AreWords ws) where
  pub words_are : group_words g ≡ ws
  words_are = rw text (group_words-bytes ws fit)

  pub view_is : group_view g ≡ record { words = ws; room = g.room }
  view_is = ap (λ (l : List ℕ). record { words = l; room = g.room }) words_are

  pub is_group : length ws ≤ g.room → 8 * (g.room + 1) ≤ vec_capacity g.bytes → IsGroupBytes g
  is_group few room = record {
    text = text ∙ ap (λ (l : List ℕ). bytes_of (l ++ 0 ∷ [])) (sym words_are);
    words = rw words_are fit;
    few = rw words_are few;
    room = room;
  }

-- how many bytes a group has
pub length-group : (ws : List ℕ) → length (bytes_of (ws ++ 0 ∷ [])) ≡ 8 * length ws + 8
length-group ws = omega (arith, length-bytes_of (ws ++ 0 ∷ []), length-append ws (0 ∷ []))

-- without its zero word
pub front_bytes : (bytes ws : List ℕ) (end : ℕ) → bytes ≡ bytes_of (ws ++ 0 ∷ []) → end ≡ length bytes - 8 → take end bytes ≡ bytes_of ws
front_bytes bytes ws end text at =
    let long : length bytes ≡ 8 * length ws + 8 = ap length text ∙ length-group ws in
    let end_is : length (bytes_of ws) ≡ end = omega (arith, at, long, length-bytes_of ws) in
    ap (take end) (text ∙ bytes_of-append ws (0 ∷ [])) ∙ take_at (bytes_of ws) (bytes_of (0 ∷ [])) end end_is

-- with one more word
pub pushed_bytes : (bytes ws : List ℕ) (end word : ℕ) → bytes ≡ bytes_of (ws ++ 0 ∷ []) → end ≡ length bytes - 8 →
    (take end bytes ++ to_le_bytes w64 word) ++ to_le_bytes w64 0 ≡ bytes_of ((ws ++ word ∷ []) ++ 0 ∷ [])
pushed_bytes bytes ws end word text at =
    ap (λ (l : List ℕ). (l ++ to_le_bytes w64 word) ++ to_le_bytes w64 0) (front_bytes bytes ws end text at)
    ∙ sym (bytes_of-append (ws ++ word ∷ []) (0 ∷ []) ∙ ap (λ (l : List ℕ). l ++ bytes_of (0 ∷ [])) (bytes_of-append ws (word ∷ [])))

-- with more words
pub extended_bytes : (bytes ws more : List ℕ) (end : ℕ) → bytes ≡ bytes_of (ws ++ 0 ∷ []) → end ≡ length bytes - 8 →
    (take end bytes ++ bytes_of more) ++ to_le_bytes w64 0 ≡ bytes_of ((ws ++ more) ++ 0 ∷ [])
extended_bytes bytes ws more end text at =
    ap (λ (l : List ℕ). (l ++ bytes_of more) ++ to_le_bytes w64 0) (front_bytes bytes ws end text at)
    ∙ sym (bytes_of-append (ws ++ more) (0 ∷ []) ∙ ap (λ (l : List ℕ). l ++ bytes_of (0 ∷ [])) (bytes_of-append ws more))

-- Words by chunks

-- the bytes of words, and zeros after them up to a chunk's
abbrev pub filled : List ℕ → List ℕ
filled words = bytes_of words ++ replicate (8 * (8 - length words)) 0

-- with one more word
pub filled_next : (chunk words ys : List ℕ) (index n word : ℕ) → index < length words → n ≡ 8 → word ≡ get_or words index 0 → ys ≡ to_le_bytes w64 word
    → chunk ≡ filled (take index words) → put_mid (8 * index) n chunk ys ≡ filled (take (index + 1) words)
filled_next chunk words ys index n word below eight is its so_far =
    let front : List ℕ = bytes_of (take index words) in
    let here : length (take index words) ≡ index = length-take-le index words (omega (arith, below)) in
    let next : length (take (index + 1) words) ≡ index + 1 = length-take-le (index + 1) words (omega (arith, below)) in
    let zeros : List ℕ = replicate (8 * (8 - length (take index words))) 0 in
    let long : length front ≡ 8 * index = omega (arith, length-bytes_of (take index words), here) in
    let front_is : take (8 * index) chunk ≡ front = ap (take (8 * index)) so_far ∙ take_at front zeros (8 * index) long in
    let count : 8 * (8 - length (take index words)) - n ≡ 8 * (8 - length (take (index + 1) words)) = omega (arith, here, next, eight) in
    let behind : drop n (drop (8 * index) chunk) ≡ replicate (8 * (8 - length (take (index + 1) words))) 0 =
    ap (λ (l : List ℕ). drop n (drop (8 * index) l)) so_far ∙ ap (drop n) (drop_at front zeros (8 * index) long)
    ∙ drop_zeros n (8 * (8 - length (take index words))) ∙ ap (λ (k : ℕ). replicate k 0) count in
    ap (λ (l : List ℕ). l ++ (ys ++ post_of (8 * index) n chunk)) front_is
    ∙ ap (λ (l : List ℕ). front ++ (ys ++ l)) behind
    ∙ ap (λ (l : List ℕ). front ++ (l ++ replicate (8 * (8 - length (take (index + 1) words))) 0)) its
    ∙ sym (append_assoc front (to_le_bytes w64 word) (replicate (8 * (8 - length (take (index + 1) words))) 0))
    ∙ ap (λ (l : List ℕ). l ++ replicate (8 * (8 - length (take (index + 1) words))) 0) (sym (bytes_of-next words index word below is))

-- before the first word
pub filled_none : (words : List ℕ) → filled (take 0 words) ≡ replicate 64 0
filled_none words = refl

-- the words of a chunk, and then those that are left
pub chunked : (before after start rest front behind all : List ℕ) → after ≡ before ++ bytes_of front → rest ≡ front ++ behind
    → before ++ bytes_of rest ≡ start ++ bytes_of all → after ++ bytes_of behind ≡ start ++ bytes_of all
chunked before after start rest front behind all grew is so_far =
    ap (λ (l : List ℕ). l ++ bytes_of behind) grew
    ∙ append_assoc before (bytes_of front) (bytes_of behind)
    ∙ ap (λ (l : List ℕ). before ++ l) (sym (ap bytes_of is ∙ bytes_of-append front behind))
    ∙ so_far
