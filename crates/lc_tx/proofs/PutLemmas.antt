-- Bytes laid over others.
use Rattle.std.proofs.Common.{◌≡◌, ℕ, zero, suc, ◌+◌, ◌-◌, ◌<◌, ◌==◌, true, false, min, List, [], ◌∷◌, ◌++◌, length, get_or, filter, take, drop, Option, Some, None, refl, sym, ap, ◌∙◌, arith}
use Rattle.std.specs.Prelude.{slice_get, if◌then◌else◌}
use Rattle.std.specs.Option.{option_or, unwrap_or}
use Rattle.std.proofs.lemmas.List.{drop-drop, ext_get_or}
use Rattle.std.proofs.lemmas.Option.{unwrap_or-slice_get}
use Rattle.lc_record.specs.Content.{put}
use Rattle.lc_record.specs.Newest.{byte_from, byte_of}
use Rattle.lc_record.specs.declared.record.RangeData.{RangeData}
use Rattle.lc_record.proofs.SegmentLemmas.{length-put}
use Rattle.lc_tx.specs.Image.{laid_over}

-- a put byte stands where it was put
pub put_in : (place : ℕ) (items xs : List ℕ) (k j : ℕ) → k ≡ place + j → j < length items → k < length xs → get_or (put place items xs) k 0 ≡ get_or items j 0
put_in place items [] k j e l m = absurd (omega arith)
put_in zero [] (x ∷ xs) k j e l m = absurd (omega arith)
put_in zero (i ∷ is) (x ∷ xs) zero zero e l m = refl
put_in zero (i ∷ is) (x ∷ xs) zero (suc j) e l m = absurd (omega arith)
put_in zero (i ∷ is) (x ∷ xs) (suc k) zero e l m = absurd (omega arith)
put_in zero (i ∷ is) (x ∷ xs) (suc k) (suc j) e l m = put_in zero is xs k j (omega arith) (omega arith) (omega arith)
put_in (suc p) items (x ∷ xs) zero j e l m = absurd (omega arith)
put_in (suc p) items (x ∷ xs) (suc k) j e l m = put_in p items xs k j (omega arith) l (omega arith)

-- each other byte stays
pub put_out : (place : ℕ) (items xs : List ℕ) (k : ℕ) → ((j : ℕ) → j < length items → k ≡ place + j → ⊥) → get_or (put place items xs) k 0 ≡ get_or xs k 0
put_out place items [] k n = refl
put_out zero [] (x ∷ xs) k n = refl
put_out zero (i ∷ is) (x ∷ xs) zero n = absurd (n 0 (omega arith) (omega arith))
put_out zero (i ∷ is) (x ∷ xs) (suc k) n = put_out zero is xs k (λ j l e. n (suc j) (omega arith) (omega arith))
put_out (suc p) items (x ∷ xs) zero n = refl
put_out (suc p) items (x ∷ xs) (suc k) n = put_out p items xs k (λ j l e. n j l (omega arith))

put_first : (items old : List ℕ) (n : ℕ) → n ≡ min (length items) (length old) → put 0 items old ≡ take n items ++ drop n old
put_first [] [] zero e = refl
put_first [] [] (suc n) e = absurd (omega arith)
put_first [] (o ∷ os) zero e = refl
put_first [] (o ∷ os) (suc n) e = absurd (omega arith)
put_first (i ∷ is) [] zero e = refl
put_first (i ∷ is) [] (suc n) e = absurd (omega arith)
put_first (i ∷ is) (o ∷ os) zero e = absurd (omega arith)
put_first (i ∷ is) (o ∷ os) (suc n) e = ap (λ (l : List ℕ). i ∷ l) (put_first is os n (omega arith))

-- the bytes before, those laid over, and the bytes after
pub put_parts : (place : ℕ) (items old : List ℕ) (start n : ℕ) → start ≡ min (length old) place → n ≡ min (length items) (length old - start)
    → put place items old ≡ take start old ++ (take n items ++ drop (start + n) old)
put_parts place items [] zero zero s e = refl
put_parts place items [] (suc start) n s e = absurd (omega arith)
put_parts place items [] start (suc n) s e = absurd (omega arith)
put_parts zero items (o ∷ os) zero n s e = let same : n ≡ 0 + n = omega arith in put_first items (o ∷ os) n (omega arith) ∙ ap (λ (k : ℕ). take n items ++ drop k (o ∷ os)) same
put_parts zero items (o ∷ os) (suc start) n s e = absurd (omega arith)
put_parts (suc place) items (o ∷ os) zero n s e = absurd (omega arith)
put_parts (suc place) items (o ∷ os) (suc start) n s e =
    let same : suc (start + n) ≡ suc start + n = omega arith in
    ap (λ (l : List ℕ). o ∷ l) (put_parts place items os start n (omega arith) (omega arith))
    ∙ ap (λ (k : ℕ). o ∷ (take start os ++ (take n items ++ drop k (o ∷ os)))) same

-- the bytes from a place on, written over
pub written_is : (place : ℕ) (items old new : List ℕ) (start n k : ℕ) → start ≡ min (length old) place → n ≡ min (length items) (length old - start)
    → k ≡ n → new ≡ take n items → take start old ++ (new ++ drop k (drop start old)) ≡ put place items old
written_is place items old new start n k s e same is =
    ap (λ (l : List ℕ). take start old ++ (l ++ drop k (drop start old))) is ∙ ap (λ (l : List ℕ). take start old ++ (take n items ++ l)) (drop-drop k start old)
    ∙ ap (λ (m : ℕ). take start old ++ (take n items ++ drop (start + m) old)) same ∙ sym (put_parts place items old start n s e)

-- Ranges laid over bytes

pub length-laid_over : (ranges : List RangeData) (old : List ℕ) → length (laid_over ranges old) ≡ length old
length-laid_over [] old = refl
length-laid_over (range ∷ ranges) old = length-laid_over ranges (put range.offset range.bytes old) ∙ length-put range.offset range.bytes old

get-put : (place : ℕ) (items old : List ℕ) (k : ℕ) → k < length old → slice_get (put place items old) k ≡ option_or (byte_from place items k) (slice_get old k)
get-put place items [] k within = absurd (omega (arith, within))
get-put zero [] (o ∷ os) k within = refl
get-put zero (i ∷ is) (o ∷ os) zero within = refl
get-put zero (i ∷ is) (o ∷ os) (suc k) within = get-put zero is os k (omega (arith, within))
get-put (suc place) items (o ∷ os) zero within = refl
get-put (suc place) items (o ∷ os) (suc k) within = get-put place items os k (omega (arith, within))

last_of : (x y z : Option ℕ) → option_or x (option_or y z) ≡ option_or (option_or x y) z
last_of None y z = refl
last_of (Some byte) y z = refl

none_of : (x : Option ℕ) → x ≡ option_or x None
none_of None = refl
none_of (Some byte) = refl

-- a byte of it, where the ranges are those of one segment
get-laid : (segment : ℕ) (ranges : List RangeData) (old : List ℕ) (k : ℕ) → k < length old
    → slice_get (laid_over (filter (λ range. range.segment == segment) ranges) old) k ≡ option_or (byte_of segment k ranges) (slice_get old k)
get-laid segment [] old k within = refl
get-laid segment (range ∷ ranges) old k within =
    let rest : List RangeData = filter (λ r. r.segment == segment) ranges in
    elim (range.segment == segment) as (λ b. slice_get (laid_over (if b then range ∷ rest else rest) old) k
    ≡ option_or (option_or (byte_of segment k ranges) (if b then byte_from range.offset range.bytes k else None)) (slice_get old k)) [
      | true ↦
          get-laid segment ranges (put range.offset range.bytes old) k (omega (arith, within, length-put range.offset range.bytes old))
          ∙ ap (option_or (byte_of segment k ranges)) (get-put range.offset range.bytes old k within)
          ∙ last_of (byte_of segment k ranges) (byte_from range.offset range.bytes k) (slice_get old k)
      | false ↦ get-laid segment ranges old k within ∙ ap (λ (o : Option ℕ). option_or o (slice_get old k)) (none_of (byte_of segment k ranges))
    ]

-- bytes of which each is the last that the ranges have there are what laying them over makes
pub laid_bytes : (segment : ℕ) (ranges : List RangeData) (old new : List ℕ) → length new ≡ length old
    → ((k : ℕ) → k < length old → slice_get new k ≡ option_or (byte_of segment k ranges) (slice_get old k))
    → new ≡ laid_over (filter (λ range. range.segment == segment) ranges) old
laid_bytes segment ranges old new long each =
    let whole : List ℕ = laid_over (filter (λ range. range.segment == segment) ranges) old in
    ext_get_or 0 new whole (long ∙ sym (length-laid_over (filter (λ range. range.segment == segment) ranges) old)) (λ k within.
    let there : k < length old = omega (arith, within, long) in
    sym (unwrap_or-slice_get new k 0) ∙ ap (λ (o : Option ℕ). unwrap_or o 0) (each k there ∙ sym (get-laid segment ranges old k there)) ∙ unwrap_or-slice_get whole k 0)
