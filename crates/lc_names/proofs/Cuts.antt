-- The entries of a table, one after another.
use Rattle.std.proofs.Common.{◌≡◌, ℕ, zero, suc, ◌+◌, ◌*◌, ◌/◌, ◌<◌, ◌≤◌, List, [], ◌∷◌, ◌++◌, length, set, take, drop, refl, ap, ◌∙◌, arith}
use Rattle.std.proofs.lemmas.List.{drop_at, length-drop, length-take-le, take_at}
use Rattle.lc_record.specs.Content.{put}
use Rattle.lc_record.proofs.SegmentLemmas.{length-put}
use Rattle.std.specs.Simd.{first_chunks}
use Rattle.lc_names.specs.Table.{entries_in}

pub length_cut : (size n : ℕ) (bytes : List ℕ) → length (first_chunks size n bytes) ≡ n
length_cut size zero bytes = refl
length_cut size (suc n) bytes = ap suc (length_cut size n (drop size bytes))

pub put_front : (items old : List ℕ) → length items ≤ length old → put 0 items old ≡ items ++ drop (length items) old
put_front [] [] l = refl
put_front [] (o ∷ os) l = refl
put_front (i ∷ is) [] l = absurd (omega arith)
put_front (i ∷ is) (o ∷ os) l = ap (λ (s : List ℕ). i ∷ s) (put_front is os (omega arith))

pub put_behind : (n m place : ℕ) (items old : List ℕ) → m ≡ n + place → n ≤ length old → put m items old ≡ take n old ++ put place items (drop n old)
put_behind zero m place items old e l = let same : m ≡ place = omega arith in ap (λ (x : ℕ). put x items old) same
put_behind (suc n) zero place items old e l = absurd (omega arith)
put_behind (suc n) (suc m) place items [] e l = absurd (omega arith)
put_behind (suc n) (suc m) place items (o ∷ os) e l = ap (λ (s : List ℕ). o ∷ s) (put_behind n m place items os (omega arith) (omega arith))

-- a head of one size, and what is after it, are what they are
headed : (size n : ℕ) (head rest bytes : List ℕ) → length head ≡ size → bytes ≡ head ++ rest → first_chunks size (suc n) bytes ≡ head ∷ first_chunks size n rest
headed size n head rest bytes long is =
    ap (λ (s : List ℕ). take size s ∷ first_chunks size n (drop size s)) is
    ∙ (ap (λ (s : List ℕ). s ∷ first_chunks size n (drop size (head ++ rest))) (take_at head rest size long)
    ∙ ap (λ (s : List ℕ). head ∷ first_chunks size n s) (drop_at head rest size long))

-- a piece that is put over a piece takes its place
pub cut_put : (size n : ℕ) (bytes piece : List ℕ) (k : ℕ) → length piece ≡ size → k < n → size * n ≤ length bytes → first_chunks size n (put (size * k) piece bytes) ≡ set (first_chunks size n bytes) k piece
cut_put size zero bytes piece k long l fits = absurd (omega arith)
cut_put size (suc n) bytes piece zero long l fits =
    let front : size * 0 ≡ 0 = omega arith in
    headed size n piece (drop size bytes) (put (size * 0) piece bytes) long
    (ap (λ (m : ℕ). put m piece bytes) front ∙ (put_front piece bytes (omega arith) ∙ ap (λ (m : ℕ). piece ++ drop m bytes) long))
cut_put size (suc n) bytes piece (suc k) long l fits =
    let behind : size * suc k ≡ size + size * k = omega arith in
    let first : size ≤ length bytes = omega arith in
    let rest : size * n ≤ length (drop size bytes) = omega (arith, length-drop size bytes) in
    headed size n (take size bytes) (put (size * k) piece (drop size bytes)) (put (size * suc k) piece bytes) (length-take-le size bytes first)
    (put_behind size (size * suc k) (size * k) piece bytes behind first)
    ∙ ap (λ (s : List (List ℕ)). take size bytes ∷ s) (cut_put size n (drop size bytes) piece k long (omega arith) rest)

pub length_entries : (table : List ℕ) → length (entries_in table) ≡ length table / 64
unfolding entries_in
length_entries table = length_cut 64 (length table / 64) table

pub entries_are : (table : List ℕ) → first_chunks 64 (length table / 64) table ≡ entries_in table
unfolding entries_in
entries_are table = refl

pub long_entries : (table : List ℕ) (k : ℕ) → k < length (entries_in table) → 64 * k + 64 ≤ length table
long_entries table k l = omega (arith, l, length_entries table)

pub entries_put : (table entry : List ℕ) (k : ℕ) → length entry ≡ 64 → k < length (entries_in table) → entries_in (put (64 * k) entry table) ≡ set (entries_in table) k entry
unfolding entries_in
entries_put table entry k long l =
    ap (λ (n : ℕ). first_chunks 64 (n / 64) (put (64 * k) entry table)) (length-put (64 * k) entry table)
    ∙ cut_put 64 (length table / 64) table entry k long (omega (arith, l, length_entries table)) (omega arith)
