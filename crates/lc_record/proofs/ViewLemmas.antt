-- Records that are read in their words.
use Rattle.std.proofs.Common.{◌≡◌, ℕ, zero, suc, ◌+◌, ◌-◌, ◌*◌, ◌/◌, ◌%◌, ◌^◌, ◌<◌, ◌≤◌, List, [], ◌∷◌, ◌++◌, length, get_or, take, drop, Option, Some, None, refl, sym, ap, subst, ◌∙◌, arith, append_assoc}
use Rattle.std.specs.Prelude.{slice_get, slice_range}
use Rattle.std.specs.Int.{w64, to_le_bytes}
use Rattle.std.specs.List.{flat_map, AllByRecursion}
use Rattle.std.specs.Option.{unwrap_or}
use Rattle.std.proofs.lemmas.List.{length-take-le, length-drop, take_all}
use Rattle.std.proofs.lemmas.Option.{none-some, same_Some}
use Rattle.lc_record.specs.Words.{bytes_of, AreWords}
use Rattle.lc_record.specs.Layout.{second_word}
use Rattle.lc_record.specs.Record.{record_len, header, lock_words, range_words, version_of, IsLock, IsRecord}
use Rattle.lc_record.specs.Codec.{BeginsWith}
use Rattle.lc_record.specs.Reading.{◌>>=◌, Gives, many, lock_at, len_at}
use Rattle.lc_record.specs.View.{record_in}
use Rattle.lc_record.specs.declared.record.Record.{Record}
use Rattle.lc_record.specs.declared.record.Lock.{Lock}
use Rattle.lc_record.proofs.ReadingLemmas.{bind_some, lock_again}
use Rattle.lc_record.proofs.LoopLemmas.{with_front, many_next}
use Rattle.lc_record.proofs.RecordLemmas.{header_tells, len_takes, record_is, record_length, record_some}

pub range_behind : (words : List ℕ) (place : ℕ) → slice_range words place (length words) ≡ drop place words
range_behind words place = take_all (length words - place) (drop place words) (omega (arith, length-drop place words))

-- The record of all words

pub in_is : (r : Record) (words : List ℕ) → IsRecord r words → record_in words ≡ r
in_is r words is = ap (λ (o : Option Record). unwrap_or o (record { node = 0; locks = []; ranges = [] })) (record_is r words is)

-- those that the record takes
pub record Found (words : List ℕ) (len : ℕ) : Type 0 where
  pub is : IsRecord (record_in (take len words)) (take len words)
  pub begins : BeginsWith words (record_in (take len words)) (record_len (record_in (take len words)))
  pub within : len ≤ length words

pub found : (words : List ℕ) (len : ℕ) → AreWords words → len_at words ≡ Some len → Found words len
found words len fit e =
    let its = len_takes words len fit e in
    let r : Record = its.its in
    let same : record_in (take len words) ≡ r = in_is r (take len words) its.begins.whole in
    let long : len ≡ record_len r = sym (length-take-le len words its.begins.within) ∙ record_length r (take len words) its.begins.whole in
    let begins : BeginsWith words r (record_len r) = subst (λ (n : ℕ). BeginsWith words r n) long its.begins in
    record {
      is = subst (λ (q : Record). IsRecord q (take len words)) (sym same) its.begins.whole;
      begins = subst (λ (q : Record). BeginsWith words q (record_len q)) (sym same) begins;
      within = its.begins.within;
    }

first_taken : (n : ℕ) (words : List ℕ) → 0 < n → get_or (take n words) 0 0 ≡ get_or words 0 0
first_taken zero words some = absurd (omega (arith, some))
first_taken (suc n) [] some = refl
first_taken (suc n) (w ∷ words) some = refl

-- those of the record that is known to begin the words
pub kept : (words : List ℕ) (len : ℕ) (r : Record) → BeginsWith words r (record_len r) → len ≡ get_or words 0 0 / 2 ^ 32 → Found words len
kept words len r begins tells =
    let front : List ℕ = take (record_len r) words in
    let long : length front ≡ record_len r = record_length r front begins.whole in
    let some : 0 < record_len r = omega (arith, long, record_some r front begins.whole) in
    let first : get_or front 0 0 ≡ get_or words 0 0 = first_taken (record_len r) words some in
    let len_is : record_len r ≡ len = sym (tells ∙ ap (λ (w : ℕ). w / 2 ^ 32) (sym first) ∙ header_tells r front begins.whole ∙ long) in
    let whole : IsRecord r (take len words) = subst (λ (n : ℕ). IsRecord r (take n words)) len_is begins.whole in
    let same : record_in (take len words) ≡ r = in_is r (take len words) whole in
    record {
      is = subst (λ (q : Record). IsRecord q (take len words)) (sym same) whole;
      begins = subst (λ (q : Record). BeginsWith words q (record_len q)) (sym same) begins;
      within = omega (arith, len_is, begins.within);
    }

-- what was read, where something stands
pub given : {X Y : Type 0} (view : X → Y) (o : Option X) (read : Option Y) (y : Y) → Gives view o read → read ≡ Some y → (x : X) × (o ≡ Some x) × (view x ≡ y)
given view None read y is there = absurd (none-some y (sym is ∙ there))
given view (Some x) read y is there = (x, refl, same_Some (view x) y (sym is ∙ there))

-- Locks

locks_there : (locks : List Lock) (rest : List ℕ) (i : ℕ) → AllByRecursion IsLock locks → i < length locks
    → (x : Lock × List ℕ) × (lock_at (drop (2 * i) (flat_map lock_words locks ++ rest)) ≡ Some x) × (slice_get locks i ≡ Some x.0)
locks_there [] rest i is lt = absurd (omega (arith, lt))
locks_there (lock ∷ locks) rest zero is lt = ((lock, flat_map lock_words locks ++ rest), lock_again lock (flat_map lock_words locks ++ rest) (omega (arith, is.0)), refl)
locks_there (lock ∷ locks) rest (suc i) is lt =
    let k : 2 * suc i ≡ suc (suc (2 * i)) = omega arith in
    rw k (locks_there locks rest i is.1 (omega (arith, lt)))

pub lock_there : (r : Record) (words : List ℕ) (i : ℕ) → IsRecord r words → i < length r.locks
    → (x : Lock × List ℕ) × (lock_at (slice_range words (2 + 2 * i) (length words)) ≡ Some x) × (slice_get r.locks i ≡ Some x.0)
lock_there r words i is lt =
    let ranges = flat_map (range_words (version_of r.ranges)) r.ranges in
    let its = locks_there r.locks (ranges ++ record_len r ∷ []) i is.canonical.each_lock lt in
    let split : words ≡ header r ∷ second_word r.node (length r.locks) ∷ (flat_map lock_words r.locks ++ (ranges ++ record_len r ∷ [])) =
    is.spelled ∙ ap (λ (t : List ℕ). header r ∷ second_word r.node (length r.locks) ∷ t) (append_assoc (flat_map lock_words r.locks) ranges (record_len r ∷ [])) in
    let k : 2 + 2 * i ≡ suc (suc (2 * i)) = omega arith in
    (its.0, ap lock_at (range_behind words (2 + 2 * i)) ∙ ap (λ (l : List ℕ). lock_at (drop (2 + 2 * i) l)) split ∙ rw k its.1, its.2)

-- the words have room for its locks
pub locks_within : (r : Record) (words : List ℕ) → IsRecord r words → 2 + 2 * length r.locks ≤ length words
locks_within r words is = omega (arith, record_length r words is)

-- One of many

pub front_none : {A : Type 0} (o : Option (List A × List ℕ)) → with_front [] o ≡ o
front_none None = refl
front_none (Some x) = refl

pub many_count : {A : Type 0} (read : List ℕ → Option (A × List ℕ)) (n : ℕ) (words : List ℕ) (x : List A × List ℕ) → many read n words ≡ Some x → length x.0 ≡ n
unfolding many
many_count {A} read zero words x e = ap (λ (y : List A × List ℕ). length y.0) (sym (same_Some ([], words) x e))
many_count {A} read (suc n) words x e =
    let a = bind_some (read words) (λ first. many read n first.1 >>= λ others. Some (first.0 ∷ others.0, others.1)) x e in
    let b = bind_some (many read n a.0.1) (λ others. Some (a.0.0 ∷ others.0, others.1)) x a.2 in
    ap (λ (y : List A × List ℕ). length y.0) (sym (same_Some _ _ b.2)) ∙ ap suc (many_count read n a.0.1 b.0 b.1)

at_seam : {A : Type 0} (front : List A) (x : A) (rest : List A) → slice_get ((front ++ x ∷ []) ++ rest) (length front) ≡ Some x
at_seam [] x rest = refl
at_seam (y ∷ front) x rest = at_seam front x rest

pub many_nth : {A : Type 0} (read : List ℕ → Option (A × List ℕ)) (front : List A) (n i : ℕ) (words : List ℕ) (total : Option (List A × List ℕ)) → with_front front (many read (n - i) words) ≡ total
    → (x : A) (behind : List ℕ) → i < n → read words ≡ Some (x, behind) → (xs : List A) (rest : List ℕ) → total ≡ Some (xs, rest) → slice_get xs (length front) ≡ Some x
many_nth {A} read front n i words total so_far x behind lt e xs rest all =
    let y = bind_some (many read (n - (i + 1)) behind) (λ y. Some ((front ++ x ∷ []) ++ y.0, y.1)) (xs, rest) (many_next read front n i words total so_far x behind lt e ∙ all) in
    let same : (front ++ x ∷ []) ++ y.0.0 ≡ xs = ap (λ (z : List A × List ℕ). z.0) (same_Some ((front ++ x ∷ []) ++ y.0.0, y.0.1) (xs, rest) y.2) in
    ap (λ (l : List A). slice_get l (length front)) (sym same) ∙ at_seam front x y.0.0

-- Bytes

pub byte_there : (ws : List ℕ) (place : ℕ) → slice_get (bytes_of ws) place ≡ (slice_get ws (place / 8) >>= λ w. slice_get (to_le_bytes w64 w) (place % 8))
byte_there [] place = refl
byte_there (w ∷ ws) zero = refl
byte_there (w ∷ ws) (suc zero) = refl
byte_there (w ∷ ws) (suc (suc zero)) = refl
byte_there (w ∷ ws) (suc (suc (suc zero))) = refl
byte_there (w ∷ ws) (suc (suc (suc (suc zero)))) = refl
byte_there (w ∷ ws) (suc (suc (suc (suc (suc zero))))) = refl
byte_there (w ∷ ws) (suc (suc (suc (suc (suc (suc zero)))))) = refl
byte_there (w ∷ ws) (suc (suc (suc (suc (suc (suc (suc zero))))))) = refl
byte_there (w ∷ ws) (suc (suc (suc (suc (suc (suc (suc (suc place)))))))) =
    let word : suc (suc (suc (suc (suc (suc (suc (suc place))))))) / 8 ≡ suc (place / 8) = omega arith in
    let byte : suc (suc (suc (suc (suc (suc (suc (suc place))))))) % 8 ≡ place % 8 = omega arith in
    rw (word, byte) (byte_there ws place)

pub get_taken : {A : Type 0} (len : ℕ) (xs : List A) (place : ℕ) → place < len → slice_get (take len xs) place ≡ slice_get xs place
get_taken zero xs place lt = absurd (omega (arith, lt))
get_taken (suc len) [] place lt = refl
get_taken (suc len) (x ∷ xs) zero lt = refl
get_taken (suc len) (x ∷ xs) (suc place) lt = get_taken len xs place (omega (arith, lt))
