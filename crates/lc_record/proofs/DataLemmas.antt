-- The bytes of a range as whole words, and back.
use Rattle.std.proofs.Common.{◌≡◌, ℕ, zero, suc, ◌+◌, ◌-◌, ◌*◌, ◌/◌, ◌<◌, ◌≤◌, min, true, eqb, List, [], ◌∷◌, ◌++◌, length, get_or, take, drop, replicate, refl, sym, ◌∙◌, ap, arith, append_assoc, length-append, length-drop, take-append-drop}
use Rattle.std.specs.List.{list_all, slice_index}
use Rattle.std.specs.Int.{w64, from_le_bytes, to_le_bytes}
use Rattle.std.proofs.lemmas.Bool.{and_parts, eqb-true}
use Rattle.std.proofs.lemmas.List.{length-take, length-take-le, length-replicate, take_at, take_all, take_min, take_more, drop_at, drop_all, drop-drop, append-nil, nil_from_length}
use Rattle.lc_record.specs.Words.{words_of, bytes_of, AreWords, AreBytes}
use Rattle.lc_record.specs.Record.{data_words}
use Rattle.lc_record.specs.Layout.{data_len}
use Rattle.lc_record.specs.Reading.{is_padded}
use Rattle.lc_record.proofs.WordLemmas.{AreBytes-append, AreBytes-take, AreBytes-bytes_of, AreWords-words_of, length-words_of, length-bytes_of, bytes_of-words_of, bytes_of-append, words_of-bytes_of-all, words_of-eight, words_of-first, words_of-nil}

-- zeros

zeros_fit : (n : ℕ) → AreBytes (replicate n 0)
zeros_fit zero = tt
zeros_fit (suc n) = (omega arith, zeros_fit n)

are_zero : (n : ℕ) → list_all (λ b. eqb b 0) (replicate n 0) ≡ true
are_zero zero = refl
are_zero (suc n) = are_zero n

zeros_from : (bs : List ℕ) → list_all (λ b. eqb b 0) bs ≡ true → bs ≡ replicate (length bs) 0
zeros_from [] h = refl
zeros_from (b ∷ bs) h =
    let both = and_parts (eqb b 0) (list_all (λ b. eqb b 0) bs) h in
    let head : b ≡ 0 = eqb-true b 0 both.0 in
    let tail : bs ≡ replicate (length bs) 0 = zeros_from bs both.1 in
    cc

-- the bytes, filled up
abbrev padded : List ℕ → List ℕ
padded bytes = bytes ++ replicate (8 * ((length bytes + 7) / 8) - length bytes) 0

module _ (bytes : List ℕ) where
  padded_len : length (padded bytes) ≡ 8 * data_len (length bytes)
  padded_len = omega (arith, length-append bytes (replicate (8 * ((length bytes + 7) / 8) - length bytes) 0), length-replicate {A = ℕ} (8 * ((length bytes + 7) / 8) - length bytes) 0)

  pub length-data_words : length (data_words bytes) ≡ data_len (length bytes)
  length-data_words = length-words_of (data_len (length bytes)) (padded bytes) padded_len

  module _ (fit : AreBytes bytes) where
    padded_fit : AreBytes (padded bytes)
    padded_fit = AreBytes-append bytes (replicate (8 * ((length bytes + 7) / 8) - length bytes) 0) fit (zeros_fit (8 * ((length bytes + 7) / 8) - length bytes))

    pub AreWords-data_words : AreWords (data_words bytes)
    AreWords-data_words = AreWords-words_of (data_len (length bytes)) (padded bytes) padded_len padded_fit

    pub bytes_of-data_words : bytes_of (data_words bytes) ≡ padded bytes
    bytes_of-data_words = bytes_of-words_of (data_len (length bytes)) (padded bytes) padded_len padded_fit

    pub data_again : take (length bytes) (bytes_of (data_words bytes)) ≡ bytes
    data_again = ap (λ (l : List ℕ). take (length bytes) l) bytes_of-data_words ∙ take_at bytes (replicate (8 * ((length bytes + 7) / 8) - length bytes) 0) (length bytes) refl

    pub padded_again : is_padded (length bytes) (data_words bytes) ≡ true
    padded_again =
        ap (λ (l : List ℕ). list_all (λ b. eqb b 0) (drop (length bytes) l)) bytes_of-data_words
        ∙ ap (λ (l : List ℕ). list_all (λ b. eqb b 0) l) (drop_at bytes (replicate (8 * ((length bytes + 7) / 8) - length bytes) 0) (length bytes) refl)
        ∙ are_zero (8 * ((length bytes + 7) / 8) - length bytes)

-- the bytes that words hold
pub record Holds (len : ℕ) (words : List ℕ) : Type 0 where
  pub spelled : data_words (take len (bytes_of words)) ≡ words
  pub same_len : length (take len (bytes_of words)) ≡ len
  pub fit : AreBytes (take len (bytes_of words))

pub data_takes : (len : ℕ) (words : List ℕ) → AreWords words → length words ≡ data_len len → is_padded len words ≡ true → Holds len words
data_takes len words fit long filled =
    let all = bytes_of words in
    let all_len : length all ≡ 8 * data_len len = omega (arith, length-bytes_of words, long) in
    let front_len : length (take len all) ≡ len = length-take-le len all (omega (arith, all_len)) in
    let zeros : drop len all ≡ replicate (length (drop len all)) 0 = zeros_from (drop len all) filled in
    let count : length (drop len all) ≡ 8 * ((length (take len all) + 7) / 8) - length (take len all) = length-drop len all ∙ ap (λ (n : ℕ). n - len) all_len ∙ ap (λ (n : ℕ). 8 * ((n + 7) / 8) - n) (sym front_len) in
    let whole : padded (take len all) ≡ all =
    ap (λ (n : ℕ). take len all ++ replicate n 0) (sym count) ∙ ap (λ (l : List ℕ). take len all ++ l) (sym zeros) ∙ take-append-drop len all in
    record {
      spelled = ap words_of whole ∙ words_of-bytes_of-all words fit;
      same_len = front_len;
      fit = AreBytes-take len all (AreBytes-bytes_of words);
    }

-- one word after another

pub drop_zeros : (n m : ℕ) → drop n (replicate {A = ℕ} m 0) ≡ replicate (m - n) 0
drop_zeros zero m = let same : m ≡ m - 0 = omega arith in ap (λ (k : ℕ). replicate k 0) same
drop_zeros (suc n) zero = let none : 0 ≡ 0 - suc n = omega arith in ap (λ (k : ℕ). replicate k 0) none
drop_zeros (suc n) (suc m) = let same : m - n ≡ suc m - suc n = omega arith in drop_zeros n m ∙ ap (λ (k : ℕ). replicate k 0) same

-- the word of at most eight bytes
abbrev pub word_of : List ℕ → ℕ
word_of bytes = from_le_bytes w64 (bytes ++ replicate (8 - length bytes) 0)

pub filled_at : (bytes : List ℕ) (n i : ℕ) → slice_index (bytes ++ replicate n 0) i ≡ slice_index bytes i
filled_at [] zero i = refl
filled_at [] (suc n) zero = refl
filled_at [] (suc n) (suc i) = filled_at [] n i
filled_at (b ∷ bytes) n zero = refl
filled_at (b ∷ bytes) n (suc i) = filled_at bytes n i

data_last : (bytes : List ℕ) → 0 < length bytes → length bytes < 8 → data_words bytes ≡ word_of bytes ∷ []
data_last bytes some short =
    let long : length (padded bytes) ≡ 8 * suc 0 = omega (arith, padded_len bytes) in
    let count : 8 * ((length bytes + 7) / 8) - length bytes ≡ 8 - length bytes = omega arith in
    let same : padded bytes ≡ bytes ++ replicate (8 - length bytes) 0 = ap (λ (n : ℕ). bytes ++ replicate n 0) count in
    words_of-first 0 (padded bytes) long
    ∙ ap (λ (l : List ℕ). from_le_bytes w64 l ∷ words_of (drop 8 (padded bytes))) (take_all 8 (padded bytes) (omega (arith, long)) ∙ same)
    ∙ ap (λ (l : List ℕ). word_of bytes ∷ l) (ap words_of (drop_all 8 (padded bytes) (omega (arith, long))) ∙ words_of-nil)

data_first : (bytes : List ℕ) → 8 ≤ length bytes → data_words bytes ≡ word_of (take 8 bytes) ∷ data_words (drop 8 bytes)
data_first bytes long =
    let front_len : length (take 8 bytes) ≡ 8 = length-take-le 8 bytes long in
    let rest_len : length (drop 8 bytes) ≡ length bytes - 8 = length-drop 8 bytes in
    let count : 8 * ((length bytes + 7) / 8) - length bytes ≡ 8 * ((length (drop 8 bytes) + 7) / 8) - length (drop 8 bytes) = omega (arith, rest_len) in
    let zeros : 8 - length (take 8 bytes) ≡ 0 = omega (arith, front_len) in
    let split : padded bytes ≡ take 8 bytes ++ padded (drop 8 bytes) =
    ap (λ (l : List ℕ). l ++ replicate (8 * ((length bytes + 7) / 8) - length bytes) 0) (sym (take-append-drop 8 bytes))
    ∙ append_assoc (take 8 bytes) (drop 8 bytes) (replicate (8 * ((length bytes + 7) / 8) - length bytes) 0)
    ∙ ap (λ (n : ℕ). take 8 bytes ++ (drop 8 bytes ++ replicate n 0)) count in
    let whole : take 8 bytes ≡ take 8 bytes ++ replicate (8 - length (take 8 bytes)) 0 = sym (ap (λ (n : ℕ). take 8 bytes ++ replicate n 0) zeros ∙ append-nil (take 8 bytes)) in
    ap words_of split ∙ words_of-eight (take 8 bytes) (padded (drop 8 bytes)) front_len ∙ ap (λ (l : List ℕ). from_le_bytes w64 l ∷ data_words (drop 8 bytes)) whole

data_none : data_words [] ≡ []
data_none = words_of-nil

data_eight : (bytes : List ℕ) → 8 ≤ length bytes → data_words bytes ≡ from_le_bytes w64 (take 8 bytes) ∷ data_words (drop 8 bytes)
data_eight bytes long =
    let none : 8 - length (take 8 bytes) ≡ 0 = omega (arith, length-take-le 8 bytes long) in
    let whole : take 8 bytes ++ replicate (8 - length (take 8 bytes)) 0 ≡ take 8 bytes = ap (λ (n : ℕ). take 8 bytes ++ replicate n 0) none ∙ append-nil (take 8 bytes) in
    data_first bytes long ∙ ap (λ (l : List ℕ). from_le_bytes w64 l ∷ data_words (drop 8 bytes)) whole

-- what the loop has pushed, and what is left

pub pushed : (front bytes all start : List ℕ) (w : ℕ) → 8 ≤ length bytes → w ≡ from_le_bytes w64 (take 8 bytes)
    → front ++ data_words bytes ≡ start ++ data_words all → (front ++ w ∷ []) ++ data_words (drop 8 bytes) ≡ start ++ data_words all
pushed front bytes all start w long word so_far =
    append_assoc front (w ∷ []) (data_words (drop 8 bytes))
    ∙ ap (λ (x : ℕ). front ++ x ∷ data_words (drop 8 bytes)) word
    ∙ ap (λ (l : List ℕ). front ++ l) (sym (data_eight bytes long))
    ∙ so_far

pub pushed_last : (front bytes all start : List ℕ) (w : ℕ) → 0 < length bytes → length bytes < 8 → w ≡ word_of bytes → front ++ data_words bytes ≡ start ++ data_words all → front ++ w ∷ [] ≡ start ++ data_words all
pushed_last front bytes all start w some short word so_far =
    ap (λ (x : ℕ). front ++ x ∷ []) word ∙ ap (λ (l : List ℕ). front ++ l) (sym (data_last bytes some short)) ∙ so_far

pub pushed_all : (front bytes all start : List ℕ) → length bytes ≡ 0 → front ++ data_words bytes ≡ start ++ data_words all → front ≡ start ++ data_words all
pushed_all front bytes all start none so_far =
    let empty : bytes ≡ [] = nil_from_length bytes none in
    sym (append-nil front) ∙ ap (λ (l : List ℕ). front ++ l) (sym (ap data_words empty ∙ data_none)) ∙ so_far

-- after all but the last word
drop_last : (front : List ℕ) (last used len : ℕ) → len ≡ 8 * length front + used → drop used (to_le_bytes w64 last) ≡ drop len (bytes_of (front ++ last ∷ []))
drop_last front last used len is =
    let at_last : drop (8 * length front) (bytes_of front ++ to_le_bytes w64 last) ≡ to_le_bytes w64 last = drop_at (bytes_of front) (to_le_bytes w64 last) (8 * length front) (length-bytes_of front) in
    sym (ap (λ (l : List ℕ). drop len l) (bytes_of-append front (last ∷ []))
    ∙ ap (λ (n : ℕ). drop n (bytes_of front ++ to_le_bytes w64 last)) is
    ∙ sym (drop-drop used (8 * length front) (bytes_of front ++ to_le_bytes w64 last))
    ∙ ap (λ (l : List ℕ). drop used l) at_last)

pub padding : (words bytes : List ℕ) (len : ℕ) → 1 ≤ length words → length words ≡ data_len len → bytes ≡ to_le_bytes w64 (get_or words (length words - 1) 0)
    → take (8 - (len - 8 * length (take (length words - 1) words))) (drop (len - 8 * length (take (length words - 1) words)) bytes) ≡ drop len (bytes_of words)
padding words bytes len some long is =
    let front = take (length words - 1) words in
    let last = get_or words (length words - 1) 0 in
    let front_len : length front ≡ length words - 1 = length-take-le (length words - 1) words (omega arith) in
    let used = len - 8 * length front in
    let within : length words - 1 < length words = omega arith in
    let one_more : length words - 1 + 1 ≡ length words = omega arith in
    let whole : front ++ last ∷ [] ≡ words = sym (take_more words (length words - 1) 0 within) ∙ ap (λ (n : ℕ). take n words) one_more ∙ take_all (length words) words (omega arith) in
    let place : len ≡ 8 * length front + used = omega (arith, front_len, long) in
    let bytes_len : length bytes ≡ 8 = ap (λ (l : List ℕ). length l) is in
    let all : length (drop used bytes) ≤ 8 - used = omega (arith, length-drop used bytes, bytes_len) in
    take_all (8 - used) (drop used bytes) all
    ∙ ap (λ (l : List ℕ). drop used l) is
    ∙ drop_last front last used len place
    ∙ ap (λ (l : List ℕ). drop len (bytes_of l)) whole

-- the front of two lists
take_two : (len n : ℕ) (xs ys : List ℕ) → min (len - min len (length xs)) (length ys) ≡ n → take len xs ++ take n ys ≡ take len (xs ++ ys)
take_two zero n xs ys is = let none : 0 ≡ n = omega (arith, is) in ap (λ (k : ℕ). take k ys) (sym none)
take_two (suc len) n [] ys is =
    let whole : min (suc len) (length ys) ≡ n = omega (arith, is) in
    ap (λ (k : ℕ). take k ys) (sym whole) ∙ take_min (suc len) ys
take_two (suc len) n (x ∷ xs) ys is = ap (λ (l : List ℕ). x ∷ l) (take_two len n xs ys (omega (arith, is)))

-- one more word
pub bytes_of-next : (words : List ℕ) (i w : ℕ) → i < length words → w ≡ get_or words i 0 → bytes_of (take (i + 1) words) ≡ bytes_of (take i words) ++ to_le_bytes w64 w
bytes_of-next words i w below is =
    ap bytes_of (take_more words i 0 below ∙ ap (λ (x : ℕ). take i words ++ x ∷ []) (sym is)) ∙ bytes_of-append (take i words) (w ∷ [])

pub take_word : (len n : ℕ) (words : List ℕ) (i w : ℕ) (bytes : List ℕ) → i < length words → w ≡ get_or words i 0 → bytes ≡ take len (bytes_of (take i words)) → n ≡ min (len - length bytes) 8
    → bytes ++ take n (to_le_bytes w64 w) ≡ take len (bytes_of (take (i + 1) words))
take_word len n words i w bytes below is so_far room =
    let before = bytes_of (take i words) in
    let count : length bytes ≡ min len (length before) = ap (λ (l : List ℕ). length l) so_far ∙ length-take len before in
    ap (λ (l : List ℕ). l ++ take n (to_le_bytes w64 w)) so_far
    ∙ take_two len n before (to_le_bytes w64 w) (ap (λ (k : ℕ). min (len - k) 8) (sym count) ∙ sym room)
    ∙ ap (λ (l : List ℕ). take len l) (sym (bytes_of-next words i w below is))
