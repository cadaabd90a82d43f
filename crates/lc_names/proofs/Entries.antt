-- What an entry tells.
use Rattle.std.proofs.Common.{◌≡◌, zero, suc, nat_lt, inl, inr, true≢false, ℕ, ◌+◌, ◌-◌, ◌≤◌, true, false, List, [], ◌∷◌, ◌++◌, length, get_or, take, drop, replicate, set, refl, sym, ap, subst, ◌∙◌, arith}
use Rattle.std.specs.Str.{bytes_eq}
use Rattle.std.proofs.lemmas.Bool.{and_from, and_left, and_parts, cases_Bool, cases_eq, false_from_ne_true, lt-ltb}
use Rattle.std.proofs.lemmas.List.{append_assoc, drop-drop, drop-replicate, drop_at, get_or_at, length-append, length-drop, length-replicate, length-take, replicate-append-replicate, take_at}
use Rattle.std.proofs.lemmas.Slice.Eq.{bytes_eq-Decides}
use Rattle.lc_names.specs.NameEntry.{AreAttributes, Fits, IsName, attributes_of, entry_of, filled, free_entry, is_named, is_used, name_of, text_at}
use Rattle.lc_names.specs.declared.name_entry.TheConstants.{NAME}

pub named_is : (name entry : List ℕ) → is_named name entry ≡ true → name_of entry ≡ name
unfolding is_named
named_is name entry h = (bytes_eq-Decides (name_of entry) name).0 (and_parts (is_used entry) (bytes_eq (name_of entry) name) h).1

pub named_used : (name entry : List ℕ) → is_named name entry ≡ true → is_used entry ≡ true
unfolding is_named
named_used name entry h = (and_parts (is_used entry) (bytes_eq (name_of entry) name) h).0

pub named_from : (name entry : List ℕ) → is_used entry ≡ true → name_of entry ≡ name → is_named name entry ≡ true
unfolding is_named
named_from name entry used is = and_from (is_used entry) (bytes_eq (name_of entry) name) used ((bytes_eq-Decides (name_of entry) name).1 is)

pub unused_unnamed : (name entry : List ℕ) → is_used entry ≡ false → is_named name entry ≡ false
unfolding is_named
unused_unnamed name entry unused = and_left (is_used entry) (bytes_eq (name_of entry) name) unused

-- its length tells whether it is in use
pub used_some : (entry : List ℕ) → (get_or entry NAME 0 ≡ 0 → ⊥) → is_used entry ≡ true
unfolding is_used
used_some entry some = lt-ltb 0 (get_or entry NAME 0) (omega (arith, some))

pub zero_unused : (entry : List ℕ) → get_or entry NAME 0 ≡ 0 → is_used entry ≡ false
unfolding is_used
zero_unused entry is = ap (λ (n : ℕ). nat_lt 0 n) is

pub unused_zero : (entry : List ℕ) → is_used entry ≡ false → get_or entry NAME 0 ≡ 0
unused_zero entry unused = elim (cases_eq (get_or entry NAME 0) 0) [
  | inl is ↦ is
  | inr some ↦ absurd (true≢false (sym (used_some entry some) ∙ unused))
]

-- the text of an entry in no use is empty
unused_text : (entry : List ℕ) → is_used entry ≡ false → name_of entry ≡ []
unfolding text_at
unused_text entry unused = ap (λ (n : ℕ). take n (drop 1 entry)) (unused_zero entry unused)

-- the entry whose text is a name is in use under it
pub named_by_text : (name entry : List ℕ) → IsName name → bytes_eq (name_of entry) name ≡ true → is_named name entry ≡ true
named_by_text name entry is same = elim (cases_Bool (is_used entry)) [
  | inl used ↦ named_from name entry used ((bytes_eq-Decides (name_of entry) name).0 same)
  | inr unused ↦ absurd (let empty : length name ≡ 0 = ap (λ (s : List ℕ). length s) (sym ((bytes_eq-Decides (name_of entry) name).0 same) ∙ unused_text entry unused) in omega (arith, is.0, empty))
]

pub other_by_text : (name entry : List ℕ) → bytes_eq (name_of entry) name ≡ false → is_named name entry ≡ false
other_by_text name entry other = false_from_ne_true (is_named name entry) (λ named. true≢false (sym ((bytes_eq-Decides (name_of entry) name).1 (named_is name entry named)) ∙ other))

-- the text of an entry in use that fits is a name
pub text_is_name : (entry : List ℕ) → length entry ≡ 64 → is_used entry ≡ true → Fits entry → IsName (name_of entry)
unfolding Fits text_at
text_is_name entry long used fit =
    let count = length-take (get_or entry 0 0) (drop 1 entry) in
    let rest = length-drop 1 entry in
    let some : get_or entry 0 0 ≡ 0 → ⊥ = λ is. true≢false (sym used ∙ zero_unused entry is) in
    (omega (arith, count, rest, long, some, fit.0), omega (arith, count, rest, long, fit.0))

-- The entry of a name

length-filled : (bytes : List ℕ) → length bytes ≤ 31 → length (filled bytes) ≡ 31
unfolding filled
length-filled bytes few =
    let zeros : List ℕ = replicate (31 - length bytes) 0 in
    let count : length zeros ≡ 31 - length bytes = length-replicate (31 - length bytes) 0 in
    let long : length (bytes ++ zeros) ≡ length bytes + length zeros = length-append bytes zeros in
    omega (arith, few, count, long)

front_long : (name : List ℕ) → IsName name → length (length name ∷ filled name) ≡ 32
front_long name is = omega (arith, length-filled name is.1)

pub length-entry_of : (name attributes : List ℕ) → IsName name → AreAttributes attributes → length (entry_of name attributes) ≡ 64
unfolding entry_of
length-entry_of name attributes is are =
    omega (arith, length-append (length name ∷ filled name) (length attributes ∷ filled attributes), length-filled name is.1, length-filled attributes are)

pub used_entry : (name attributes : List ℕ) → IsName name → is_used (entry_of name attributes) ≡ true
unfolding is_used entry_of
used_entry name attributes is = lt-ltb 0 (length name) is.0

taken : (bytes rest : List ℕ) → take (length bytes) (filled bytes ++ rest) ≡ bytes
unfolding filled
taken bytes rest = ap (λ (s : List ℕ). take (length bytes) s) (append_assoc bytes (replicate (31 - length bytes) 0) rest) ∙ take_at bytes (replicate (31 - length bytes) 0 ++ rest) (length bytes) refl

taken_all : (bytes : List ℕ) → take (length bytes) (filled bytes) ≡ bytes
unfolding filled
taken_all bytes = take_at bytes (replicate (31 - length bytes) 0) (length bytes) refl

pub name_of-entry_of : (name attributes : List ℕ) → name_of (entry_of name attributes) ≡ name
unfolding text_at entry_of
name_of-entry_of name attributes = taken name (length attributes ∷ filled attributes)

attributes_length : (name attributes : List ℕ) → IsName name → get_or (entry_of name attributes) 32 0 ≡ length attributes
unfolding entry_of
attributes_length name attributes is = get_or_at (length name ∷ filled name) (length attributes) (filled attributes) 0 32 (front_long name is)

behind : (name attributes : List ℕ) → IsName name → drop 33 (entry_of name attributes) ≡ filled attributes
unfolding entry_of
behind name attributes is =
    sym (drop-drop 1 32 ((length name ∷ filled name) ++ (length attributes ∷ filled attributes)))
    ∙ ap (λ (s : List ℕ). drop 1 s) (drop_at (length name ∷ filled name) (length attributes ∷ filled attributes) 32 (front_long name is))

pub attributes_of-entry_of : (name attributes : List ℕ) → IsName name → attributes_of (entry_of name attributes) ≡ attributes
unfolding text_at
attributes_of-entry_of name attributes is =
    ap (λ (n : ℕ). take n (drop 33 (entry_of name attributes))) (attributes_length name attributes is)
    ∙ (ap (λ (s : List ℕ). take (length attributes) s) (behind name attributes is) ∙ taken_all attributes)

pub fits_entry : (name attributes : List ℕ) → IsName name → AreAttributes attributes → Fits (entry_of name attributes)
unfolding Fits entry_of
fits_entry name attributes is are = (is.1, subst (λ (n : ℕ). n ≤ 31) (sym (attributes_length name attributes is)) are)

pub named_entry : (name attributes : List ℕ) → IsName name → is_named name (entry_of name attributes) ≡ true
named_entry name attributes is = named_from name (entry_of name attributes) (used_entry name attributes is) (name_of-entry_of name attributes)

pub named_entry_is : (name attributes other : List ℕ) → is_named other (entry_of name attributes) ≡ true → other ≡ name
named_entry_is name attributes other h = sym (named_is other (entry_of name attributes) h) ∙ name_of-entry_of name attributes

-- An entry in no use

pub free_unused : is_used free_entry ≡ false
unfolding is_used free_entry
free_unused = refl

pub length-free_entry : length free_entry ≡ 64
unfolding free_entry
length-free_entry = length-replicate {A = ℕ} 64 0

-- What is written into zeros

set_behind : (xs ys : List ℕ) (y v n : ℕ) → length xs ≡ n → set (xs ++ (y ∷ ys)) n v ≡ xs ++ (v ∷ ys)
set_behind [] ys y v zero long = refl
set_behind [] ys y v (suc n) long = absurd (omega (arith, long))
set_behind (x ∷ xs) ys y v zero long = absurd (omega (arith, long))
set_behind (x ∷ xs) ys y v (suc n) long = ap (λ (s : List ℕ). x ∷ s) (set_behind xs ys y v n (omega (arith, long)))

-- a name, and zeros after it
front_written : (name : List ℕ) (n : ℕ) → n ≡ length name → IsName name → name ++ drop n (replicate 63 0) ≡ filled name ++ (0 ∷ replicate 31 0)
unfolding filled
front_written name n count is =
    let most : 63 - length name ≡ 31 - length name + 32 = omega (arith, is.1) in
    ap (λ (k : ℕ). name ++ drop k (replicate 63 0)) count
    ∙ (ap (λ (s : List ℕ). name ++ s) (drop-replicate (length name) 63 0 ∙ (ap (λ (k : ℕ). replicate k 0) most ∙ sym (replicate-append-replicate (31 - length name) 32 0)))
    ∙ sym (append_assoc name (replicate (31 - length name) 0) (0 ∷ replicate 31 0)))

-- attributes, and zeros after them
back_written : (attributes : List ℕ) (m : ℕ) → m ≡ length attributes → attributes ++ drop m (replicate 31 0) ≡ filled attributes
unfolding filled
back_written attributes m count = ap (λ (k : ℕ). attributes ++ drop k (replicate 31 0)) count ∙ ap (λ (s : List ℕ). attributes ++ s) (drop-replicate (length attributes) 31 0)

halves_written : (name attributes front : List ℕ) (m : ℕ) → front ≡ filled name ++ (0 ∷ replicate 31 0) → m ≡ length attributes → IsName name
    → take 32 (set front 31 (length attributes)) ++ (attributes ++ drop m (drop 32 (set front 31 (length attributes)))) ≡ filled name ++ (length attributes ∷ filled attributes)
halves_written name attributes front m is count is_name =
    let long : length (filled name) ≡ 31 = length-filled name is_name.1 in
    let one : List ℕ = filled name ++ (length attributes ∷ []) in
    let long_one : length one ≡ 32 = omega (arith, long, length-append (filled name) (length attributes ∷ [])) in
    let laid : set front 31 (length attributes) ≡ one ++ replicate 31 0 =
    ap (λ (s : List ℕ). set s 31 (length attributes)) is
    ∙ (set_behind (filled name) (replicate 31 0) 0 (length attributes) 31 long ∙ sym (append_assoc (filled name) (length attributes ∷ []) (replicate 31 0))) in
    ap (λ (s : List ℕ). take 32 s ++ (attributes ++ drop m (drop 32 s))) laid
    ∙ (ap (λ (s : List ℕ). s ++ (attributes ++ drop m (drop 32 (one ++ replicate 31 0)))) (take_at one (replicate 31 0) 32 long_one)
    ∙ (ap (λ (s : List ℕ). one ++ (attributes ++ drop m s)) (drop_at one (replicate 31 0) 32 long_one)
    ∙ (ap (λ (s : List ℕ). one ++ s) (back_written attributes m count)
    ∙ append_assoc (filled name) (length attributes ∷ []) (filled attributes))))

pub entry_written : (name attributes front back : List ℕ) (n m : ℕ) → front ≡ name → back ≡ attributes → n ≡ length name → m ≡ length attributes → IsName name
    → length name ∷ (take 32 (set (front ++ drop n (replicate 63 0)) 31 (length attributes)) ++ (back ++ drop m (drop 32 (set (front ++ drop n (replicate 63 0)) 31 (length attributes)))))
    ≡ entry_of name attributes
unfolding entry_of
entry_written name attributes front back n m is_front is_back names many is =
    let old : List ℕ = front ++ drop n (replicate 63 0) in
    let written : old ≡ filled name ++ (0 ∷ replicate 31 0) = ap (λ (s : List ℕ). s ++ drop n (replicate 63 0)) is_front ∙ front_written name n names is in
    ap (λ (s : List ℕ). length name ∷ (take 32 (set old 31 (length attributes)) ++ (s ++ drop m (drop 32 (set old 31 (length attributes)))))) is_back
    ∙ ap (λ (s : List ℕ). length name ∷ s) (halves_written name attributes old m written many is)

-- What fits

pub attributes_fit : (entry : List ℕ) → Fits entry → AreAttributes (attributes_of entry)
unfolding Fits text_at
attributes_fit entry fit = let most = length-take (get_or entry 32 0) (drop 33 entry) in omega (arith, fit.1, most)
