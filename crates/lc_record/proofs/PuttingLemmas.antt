-- Bytes that are put over others.
use Rattle.std.proofs.Common.{◌≡◌, ◌≢◌, ℕ, zero, suc, ◌+◌, ◌-◌, ◌*◌, ◌/◌, ◌%◌, ◌<◌, ◌≤◌, Bool, true, List, [], ◌∷◌, ◌++◌, length, get_or, min, take, drop, Option, Some, None, refl, sym, ap, ◌∙◌, arith, inl, inr, ne_eqb, eq-eqb}
use Rattle.std.specs.Prelude.{is_some, slice_get, if◌then◌else◌}
use Rattle.std.specs.Int.{w64, to_le_bytes}
use Rattle.std.specs.Option.{option_or}
use Rattle.std.proofs.lemmas.List.{length-take, take_all}
use Rattle.std.proofs.lemmas.Bool.{cases_lt, true≢false}
use Rattle.std.proofs.lemmas.Option.{slice_get-get_or, slice_get_cases, slice_get_past}
use borrow.Rule.Slice.PartMut.{put_mid, post_of}
use Rattle.lc_record.specs.Words.{bytes_of}
use Rattle.lc_record.specs.Newest.{byte_from, byte_in, byte_of}
use Rattle.lc_record.specs.Reading.{◌>>=◌}
use Rattle.lc_record.specs.declared.record.RangeData.{RangeData}
use Rattle.lc_record.proofs.ViewLemmas.{byte_there, get_taken}
use Rattle.lc_record.proofs.WordLemmas.{length-bytes_of}
use Rattle.lc_record.proofs.ListLemmas.{slice_get-append_left as at_front, slice_get-drop as at_drop, option_or-none as none-behind, option_or_assoc as option_or-regroup}

-- A part that was written

at_behind : {A : Type 0} (xs ys : List A) (n i : ℕ) → length xs ≡ n → n ≤ i → slice_get (xs ++ ys) i ≡ slice_get ys (i - n)
at_behind [] ys n i long le = let same : i ≡ i - n = omega (arith, long) in ap (slice_get ys) same
at_behind (x ∷ xs) ys n zero long le = absurd (omega (arith, long, le))
at_behind (x ∷ xs) ys zero (suc i) long le = absurd (omega (arith, long))
at_behind (x ∷ xs) ys (suc n) (suc i) long le =
    let same : i - n ≡ suc i - suc n = omega arith in
    at_behind xs ys n i (omega (arith, long)) (omega (arith, le)) ∙ ap (slice_get ys) same

module _ (a n i : ℕ) (xs ys : List ℕ) (within : a ≤ length xs) (long : length ys ≡ n) where
  front_long : length (take a xs) ≡ a
  front_long = omega (arith, length-take a xs, within)

  pub put_before : i < a → slice_get (put_mid a n xs ys) i ≡ slice_get xs i
  put_before lt = at_front (take a xs) (ys ++ post_of a n xs) i (omega (arith, front_long, lt)) ∙ get_taken a xs i lt

  pub put_within : a ≤ i → i < a + n → slice_get (put_mid a n xs ys) i ≡ slice_get ys (i - a)
  put_within le lt = at_behind (take a xs) (ys ++ post_of a n xs) a i front_long le ∙ at_front ys (post_of a n xs) (i - a) (omega (arith, long, le, lt))

  pub put_past : a + n ≤ i → slice_get (put_mid a n xs ys) i ≡ slice_get xs i
  put_past le =
      let place : a + (n + (i - a - n)) ≡ i = omega (arith, le) in
      at_behind (take a xs) (ys ++ post_of a n xs) a i front_long (omega (arith, le))
      ∙ at_behind ys (post_of a n xs) n (i - a) long (omega (arith, le))
      ∙ at_drop n (i - a - n) (drop a xs)
      ∙ at_drop a (n + (i - a - n)) xs
      ∙ ap (slice_get xs) place

-- Bytes of words

-- a part of the word in which a place is
pub word_part : (words : List ℕ) (place some n j : ℕ) → place / 8 < length words → place % 8 + n ≤ 8 → some ≡ n → j < n
    → slice_get (take some (drop (place % 8) (to_le_bytes w64 (get_or words (place / 8) 0)))) j ≡ slice_get (bytes_of words) (place + j)
word_part words place some n j there short same lt =
    let w = get_or words (place / 8) 0 in
    let word : place / 8 ≡ (place + j) / 8 = omega (arith, short, lt) in
    let byte : place % 8 + j ≡ (place + j) % 8 = omega (arith, short, lt) in
    get_taken some (drop (place % 8) (to_le_bytes w64 w)) j (omega (arith, same, lt))
    ∙ at_drop (place % 8) j (to_le_bytes w64 w)
    ∙ ap (λ (i : ℕ). slice_get (to_le_bytes w64 w) i) byte
    ∙ ap (λ (o : Option ℕ). o >>= λ x. slice_get (to_le_bytes w64 x) ((place + j) % 8)) (sym (slice_get-get_or words (place / 8) 0 there))
    ∙ ap (λ (i : ℕ). slice_get words i >>= λ x. slice_get (to_le_bytes w64 x) ((place + j) % 8)) word
    ∙ sym (byte_there words (place + j))

pub byte_is_put : (words : List ℕ) (len place : ℕ) (old : Option ℕ) → len ≤ 8 * length words → place < len
    → slice_get (bytes_of words) place ≡ option_or (slice_get (take len (bytes_of words)) place) old
byte_is_put words len place old whole lt =
    let is : slice_get (bytes_of words) place ≡ Some (get_or (bytes_of words) place 0) = slice_get-get_or (bytes_of words) place 0 (omega (arith, length-bytes_of words, whole, lt)) in
    is ∙ ap (λ (o : Option ℕ). option_or o old) (sym (get_taken len (bytes_of words) place lt ∙ is))

pub no_byte_is_put : (words : List ℕ) (len place : ℕ) (old : Option ℕ) → len ≤ place → old ≡ option_or (slice_get (take len (bytes_of words)) place) old
no_byte_is_put words len place old le =
    ap (λ (o : Option ℕ). option_or o old) (sym (slice_get_past (take len (bytes_of words)) place (omega (arith, length-take len (bytes_of words), le))))

-- Bytes of a range

pub byte_from-before : (offset : ℕ) (bytes : List ℕ) (place : ℕ) → place < offset → byte_from offset bytes place ≡ None
byte_from-before zero bytes place lt = absurd (omega (arith, lt))
byte_from-before (suc offset) bytes zero lt = refl
byte_from-before (suc offset) bytes (suc place) lt = byte_from-before offset bytes place (omega (arith, lt))

pub byte_from-behind : (offset : ℕ) (bytes : List ℕ) (place i : ℕ) → offset + i ≡ place → byte_from offset bytes place ≡ slice_get bytes i
byte_from-behind zero bytes place i is = let same : place ≡ i = omega (arith, is) in ap (slice_get bytes) same
byte_from-behind (suc offset) bytes zero i is = absurd (omega (arith, is))
byte_from-behind (suc offset) bytes (suc place) i is = byte_from-behind offset bytes place i (omega (arith, is))

pub byte_from-some : (offset : ℕ) (bytes : List ℕ) (place : ℕ) → offset ≤ place → place < offset + length bytes → is_some (byte_from offset bytes place) ≡ true
byte_from-some zero bytes place from within =
    let inside : place < length bytes = omega (arith, within) in
    ap is_some (slice_get-get_or bytes place 0 inside)
byte_from-some (suc offset) bytes zero from within = absurd (omega (arith, from))
byte_from-some (suc offset) bytes (suc place) from within = byte_from-some offset bytes place (omega (arith, from)) (omega (arith, within))

pub byte_from-known : (offset : ℕ) (bytes : List ℕ) (place : ℕ) → is_some (byte_from offset bytes place) ≡ true → (offset ≤ place) × (place < offset + length bytes)
byte_from-known zero bytes place some = elim (slice_get_cases bytes place).1 [
  | inl there ↦ (omega arith, omega (arith, there.1))
  | inr past ↦ absurd (true≢false (sym some ∙ ap is_some past.1))
]
byte_from-known (suc offset) bytes zero some = absurd (true≢false (sym some))
byte_from-known (suc offset) bytes (suc place) some = let rest = byte_from-known offset bytes place some in (omega (arith, rest.0), omega (arith, rest.1))

-- one range more

pub byte_of-push : (segment place : ℕ) (front : List RangeData) (range : RangeData) → byte_of segment place (front ++ range ∷ []) ≡ option_or (byte_in segment place range) (byte_of segment place front)
byte_of-push segment place [] range = sym (none-behind (byte_in segment place range))
byte_of-push segment place (x ∷ front) range =
    ap (λ (o : Option ℕ). option_or o (byte_in segment place x)) (byte_of-push segment place front range)
    ∙ option_or-regroup (byte_in segment place range) (byte_of segment place front) (byte_in segment place x)

pub one_more : (segment place : ℕ) (front : List RangeData) (range : RangeData) (old : Option ℕ)
    → option_or (byte_in segment place range) (option_or (byte_of segment place front) old) ≡ option_or (byte_of segment place (front ++ range ∷ [])) old
one_more segment place front range old =
    sym (option_or-regroup (byte_in segment place range) (byte_of segment place front) old) ∙ ap (λ (o : Option ℕ). option_or o old) (sym (byte_of-push segment place front range))

pub byte_in-same : (segment place : ℕ) (range : RangeData) → range.segment ≡ segment → byte_in segment place range ≡ byte_from range.offset range.bytes place
byte_in-same segment place range same = ap (λ (b : Bool). if b then byte_from range.offset range.bytes place else None) (eq-eqb range.segment segment same)

pub byte_in-other : (segment place : ℕ) (range : RangeData) → range.segment ≢ segment → byte_in segment place range ≡ None
byte_in-other segment place range other = ap (λ (b : Bool). if b then byte_from range.offset range.bytes place else None) (ne_eqb range.segment segment other)

-- as many bytes as there are
take_least : {A : Type 0} (xs : List A) (n : ℕ) → take (min n (length xs)) xs ≡ take n xs
take_least xs n = elim (cases_lt n (length xs)) [
  | inl few ↦ (let same : min n (length xs) ≡ n = omega (arith, few) in ap (λ (m : ℕ). take m xs) same)
  | inr all ↦ (let same : min n (length xs) ≡ length xs = omega (arith, all) in ap (λ (m : ℕ). take m xs) same ∙ take_all (length xs) xs (omega arith) ∙ sym (take_all n xs (omega (arith, all))))
]

pub take_of_words : (words : List ℕ) (n : ℕ) → take (min n (8 * length words)) (bytes_of words) ≡ take n (bytes_of words)
take_of_words words n =
    let long : 8 * length words ≡ length (bytes_of words) = omega (arith, length-bytes_of words) in
    ap (λ (m : ℕ). take (min n m) (bytes_of words)) long ∙ take_least (bytes_of words) n
