-- Bytes and words.
use Rattle.std.proofs.Common.{◌≡◌, ℕ, zero, suc, ◌+◌, ◌*◌, ◌<◌, ◌^◌, ◌%◌, List, [], ◌∷◌, ◌++◌, length, get_or, take, drop, refl, sym, ◌∙◌, ap, arith, append_assoc, length-drop, take-append-drop}
use Rattle.std.specs.Int.{w64, from_le_bytes, to_le_bytes}
use Rattle.std.proofs.lemmas.Nat.{from_le_bytes-to_le_bytes_8, le_bytes_8}
use Rattle.std.proofs.lemmas.List.{length-take, append-nil}
use Rattle.std.proofs.Math.Seq.{drop-append-add}
use Rattle.lc_record.specs.Words.{words_of, bytes_of, AreWords, AreBytes}

-- each fits, at its place

pub AreBytes-at : (bs : List ℕ) → AreBytes bs → (i : ℕ) → get_or bs i 0 < 256
AreBytes-at [] fit i = omega arith
AreBytes-at (b ∷ bs) fit zero = fit.0
AreBytes-at (b ∷ bs) fit (suc i) = AreBytes-at bs fit.1 i

pub AreBytes-from : (bs : List ℕ) → ((i : ℕ) → get_or bs i 0 < 256) → AreBytes bs
AreBytes-from [] each = tt
AreBytes-from (b ∷ bs) each = (each 0, AreBytes-from bs (λ i. each (suc i)))

pub AreWords-from : (ws : List ℕ) → ((i : ℕ) → get_or ws i 0 < 2 ^ 64) → AreWords ws
AreWords-from [] each = tt
AreWords-from (w ∷ ws) each = (each 0, AreWords-from ws (λ i. each (suc i)))

-- parts

pub AreBytes-append : (xs ys : List ℕ) → AreBytes xs → AreBytes ys → AreBytes (xs ++ ys)
AreBytes-append [] ys h k = k
AreBytes-append (x ∷ xs) ys h k = (h.0, AreBytes-append xs ys h.1 k)

pub AreBytes-take : (n : ℕ) (xs : List ℕ) → AreBytes xs → AreBytes (take n xs)
AreBytes-take zero xs h = tt
AreBytes-take (suc n) [] h = tt
AreBytes-take (suc n) (x ∷ xs) h = (h.0, AreBytes-take n xs h.1)

pub AreBytes-drop : (n : ℕ) (xs : List ℕ) → AreBytes xs → AreBytes (drop n xs)
AreBytes-drop zero xs h = h
AreBytes-drop (suc n) [] h = tt
AreBytes-drop (suc n) (x ∷ xs) h = AreBytes-drop n xs h.1

pub AreWords-append : (xs ys : List ℕ) → AreWords xs → AreWords ys → AreWords (xs ++ ys)
AreWords-append [] ys h k = k
AreWords-append (x ∷ xs) ys h k = (h.0, AreWords-append xs ys h.1 k)

pub AreWords-take : (n : ℕ) (xs : List ℕ) → AreWords xs → AreWords (take n xs)
AreWords-take zero xs h = tt
AreWords-take (suc n) [] h = tt
AreWords-take (suc n) (x ∷ xs) h = (h.0, AreWords-take n xs h.1)

pub AreWords-drop : (n : ℕ) (xs : List ℕ) → AreWords xs → AreWords (drop n xs)
AreWords-drop zero xs h = h
AreWords-drop (suc n) [] h = tt
AreWords-drop (suc n) (x ∷ xs) h = AreWords-drop n xs h.1

-- from words to bytes

pub length-bytes_of : (ws : List ℕ) → length (bytes_of ws) ≡ 8 * length ws
length-bytes_of [] = refl
length-bytes_of (w ∷ ws) = omega (arith, length-bytes_of ws)

pub bytes_of-append : (xs ys : List ℕ) → bytes_of (xs ++ ys) ≡ bytes_of xs ++ bytes_of ys
bytes_of-append [] ys = refl
bytes_of-append (x ∷ xs) ys = ap (λ (l : List ℕ). to_le_bytes w64 x ++ l) (bytes_of-append xs ys) ∙ sym (append_assoc (to_le_bytes w64 x) (bytes_of xs) (bytes_of ys))

to_le_bytes_fit : (w : ℕ) → AreBytes (to_le_bytes w64 w)
to_le_bytes_fit w = (omega arith, (omega arith, (omega arith, (omega arith, (omega arith, (omega arith, (omega arith, (omega arith, tt))))))))

pub AreBytes-bytes_of : (ws : List ℕ) → AreBytes (bytes_of ws)
AreBytes-bytes_of [] = tt
AreBytes-bytes_of (w ∷ ws) = AreBytes-append (to_le_bytes w64 w) (bytes_of ws) (to_le_bytes_fit w) (AreBytes-bytes_of ws)

-- from bytes to words

-- the first word
pub words_of-eight : (front rest : List ℕ) → length front ≡ 8 → words_of (front ++ rest) ≡ from_le_bytes w64 front ∷ words_of rest
unfolding words_of
words_of-eight (a ∷ b ∷ c ∷ d ∷ e ∷ f ∷ g ∷ h ∷ []) rest len = refl
words_of-eight _ rest len = absurd (omega (arith, len))

pub words_of-bytes_of : (ws rest : List ℕ) → AreWords ws → words_of (bytes_of ws ++ rest) ≡ ws ++ words_of rest
words_of-bytes_of [] rest fit = refl
words_of-bytes_of (w ∷ ws) rest fit =
    ap words_of (append_assoc (to_le_bytes w64 w) (bytes_of ws) rest)
    ∙ words_of-eight (to_le_bytes w64 w) (bytes_of ws ++ rest) refl
    ∙ ap (λ (x : ℕ). x ∷ words_of (bytes_of ws ++ rest)) (from_le_bytes-to_le_bytes_8 w fit.0)
    ∙ ap (λ (l : List ℕ). w ∷ l) (words_of-bytes_of ws rest fit.1)

pub words_of-nil : words_of [] ≡ []
unfolding words_of
words_of-nil = refl

pub words_of-bytes_of-all : (ws : List ℕ) → AreWords ws → words_of (bytes_of ws) ≡ ws
words_of-bytes_of-all ws fit =
    ap words_of (sym (append-nil (bytes_of ws))) ∙ words_of-bytes_of ws [] fit ∙ ap (λ (l : List ℕ). ws ++ l) words_of-nil ∙ append-nil ws

-- the low byte of a word is its first
pub low_byte : (a b c d e f g h : ℕ) → a < 256 → from_le_bytes w64 (a ∷ b ∷ c ∷ d ∷ e ∷ f ∷ g ∷ h ∷ []) % 256 ≡ a
low_byte a b c d e f g h fits = omega arith

-- whole words of bytes
module _ (n : ℕ) (bs : List ℕ) (len : length bs ≡ 8 * suc n) where
  pub front_len : length (take 8 bs) ≡ 8
  front_len = omega (arith, length-take 8 bs, len)

  pub rest_len : length (drop 8 bs) ≡ 8 * n
  rest_len = omega (arith, length-drop 8 bs, len)

  pub words_of-first : words_of bs ≡ from_le_bytes w64 (take 8 bs) ∷ words_of (drop 8 bs)
  words_of-first = ap words_of (sym (take-append-drop 8 bs)) ∙ words_of-eight (take 8 bs) (drop 8 bs) front_len

pub length-words_of : (n : ℕ) (bs : List ℕ) → length bs ≡ 8 * n → length (words_of bs) ≡ n
length-words_of zero [] len = ap (λ (l : List ℕ). length l) words_of-nil
length-words_of zero (b ∷ bs) len = absurd (omega (arith, len))
length-words_of (suc n) bs len = ap (λ (l : List ℕ). length l) (words_of-first n bs len) ∙ ap suc (length-words_of n (drop 8 bs) (rest_len n bs len))

from_le_bytes_fits : (bs : List ℕ) → AreBytes bs → from_le_bytes w64 bs < 2 ^ 64
from_le_bytes_fits bs fit = let at = AreBytes-at bs fit in omega (arith, at 0, at 1, at 2, at 3, at 4, at 5, at 6, at 7)

pub AreWords-words_of : (n : ℕ) (bs : List ℕ) → length bs ≡ 8 * n → AreBytes bs → AreWords (words_of bs)
AreWords-words_of zero [] len fit = rw words_of-nil tt
AreWords-words_of zero (b ∷ bs) len fit = absurd (omega (arith, len))
AreWords-words_of (suc n) bs len fit = rw (words_of-first n bs len) (from_le_bytes_fits (take 8 bs) (AreBytes-take 8 bs fit), AreWords-words_of n (drop 8 bs) (rest_len n bs len) (AreBytes-drop 8 bs fit))

pub bytes_of-words_of : (n : ℕ) (bs : List ℕ) → length bs ≡ 8 * n → AreBytes bs → bytes_of (words_of bs) ≡ bs
bytes_of-words_of zero [] len fit = ap bytes_of words_of-nil
bytes_of-words_of zero (b ∷ bs) len fit = absurd (omega (arith, len))
bytes_of-words_of (suc n) bs len fit =
    let again : to_le_bytes w64 (from_le_bytes w64 (take 8 bs)) ≡ take 8 bs = le_bytes_8 (take 8 bs) _ (front_len n bs len) (AreBytes-at (take 8 bs) (AreBytes-take 8 bs fit)) refl in
    ap bytes_of (words_of-first n bs len)
    ∙ ap (λ (l : List ℕ). l ++ bytes_of (words_of (drop 8 bs))) again
    ∙ ap (λ (l : List ℕ). take 8 bs ++ l) (bytes_of-words_of n (drop 8 bs) (rest_len n bs len) (AreBytes-drop 8 bs fit))
    ∙ take-append-drop 8 bs

-- a word, of its bytes among those of all words
pub word_at : (ws rest : List ℕ) (i : ℕ) → AreWords ws → i < length ws → from_le_bytes w64 (take 8 (drop (8 * i) (bytes_of ws ++ rest))) ≡ get_or ws i 0
word_at [] rest i fit l = absurd (omega arith)
word_at (w ∷ ws) rest zero fit l = from_le_bytes-to_le_bytes_8 w fit.0
word_at (w ∷ ws) rest (suc i) fit l = let next : 8 * suc i ≡ 8 + 8 * i = omega arith in
    let behind : drop (8 + 8 * i) (to_le_bytes w64 w ++ (bytes_of ws ++ rest)) ≡ drop (8 * i) (bytes_of ws ++ rest) = drop-append-add (to_le_bytes w64 w) (bytes_of ws ++ rest) (8 * i) in
    ap (λ (k : ℕ). from_le_bytes w64 (take 8 (drop k (bytes_of (w ∷ ws) ++ rest)))) next
    ∙ (ap (λ (l : List ℕ). from_le_bytes w64 (take 8 l)) behind ∙ word_at ws rest i fit.1 (omega arith))
