-- Copies with more after them.
use Rattle.std.proofs.Common.{◌≡◌, ◌⊎◌, ℕ, zero, suc, ◌+◌, ◌-◌, ◌≤◌, Bool, true, false, eqb, ◌&&◌, if◌then◌else◌, List, [], ◌∷◌, ◌++◌, length, get_or, set, take, drop, Option, Some, None, refl, sym, ap, ◌∙◌, inl, inr, arith, length-append, length-drop}
use Rattle.std.specs.Prelude.{slice_index, slice_get}
use Rattle.std.proofs.lemmas.Option.{slice_get-get_or}
use Rattle.std.proofs.lemmas.List.{take-append-le, drop-append-le, take_all, take_at, length-set, nil_from_length, get_or_append_left, get_or-append_right}
use Rattle.std.specs.List.{refill}
use Rattle.std.proofs.lemmas.Bool.{cond_both, cases_lt, cases_eq, cases_Bool, cond-true, cond-false, and_parts, eqb-true}
use Rattle.lc_range.specs.RangeSet.{LiesBefore, IsCanonical, EndWithin, total_len}
use Rattle.lc_range.specs.Walk.{is_continued}
use Rattle.lc_range.specs.Undo.{OldBytes, byte_at, first_of, kept, bytes_kept, first_bytes, is_end, ends_at, continuing, TakeMemory}
use Rattle.lc_range.specs.Copies.{copies_of, AreSome, AreCopies, is_last_continued, with_range, with_copy, copy_at, with_copies}
use Rattle.lc_range.specs.declared.range.Range.{Range}
use Rattle.lc_range.proofs.CopyLemmas.{byte_in, byte_out, length_part}

-- Ranges and bytes, and the copies that they are

-- the first of some copies that lie flat, cut from the bytes
abbrev pub copy_of : Range → List ℕ → OldBytes
copy_of range bytes = record { segment = range.segment; offset = range.offset; bytes = bytes }

pub copies_with : (xs : List Range) (x : Range) (bytes part : List ℕ) → length bytes ≡ total_len xs → length part ≡ x.len
    → copies_of (with_range xs x) (bytes ++ part) ≡ with_copy (copies_of xs bytes) (copy_of x part)
copies_with [] x bytes part whole long =
    ap (λ (l : List ℕ). copy_of x (take x.len (l ++ part)) ∷ []) (nil_from_length bytes whole) ∙ ap (λ (l : List ℕ). copy_of x l ∷ []) (take_all x.len part (omega (arith, long)))
copies_with (r ∷ []) x bytes part whole long =
    let front : take r.len bytes ≡ bytes = take_all r.len bytes (omega (arith, whole)) in
    let n : length bytes ≡ r.len = omega (arith, whole) in
    let both : List OldBytes = copy_of r (bytes ++ part) ∷ [] in
    let apart : List OldBytes = copy_of r bytes ∷ copy_of x part ∷ [] in
    cond_both (is_continued r x) (record r { len = r.len + x.len } ∷ []) (r ∷ x ∷ []) (λ (l : List Range). copies_of l (bytes ++ part) ≡ (if is_continued r x then both else apart))
    (λ e.
    ap (λ (l : List ℕ). copy_of r l ∷ []) (take_all (r.len + x.len) (bytes ++ part) (omega (arith, length-append bytes part, whole, long)))
    ∙ sym (cond-true (is_continued r x) both apart e))
    (λ e.
    ap (λ (l : List ℕ). copy_of r l ∷ copy_of x (take x.len (drop r.len (bytes ++ part))) ∷ []) (take-append-le r.len bytes part (omega (arith, whole)) ∙ front)
    ∙ ap (λ (l : List ℕ). copy_of r bytes ∷ copy_of x (take x.len l) ∷ []) (drop-append-le r.len bytes part (omega (arith, whole)) ∙ ap (λ (l : List ℕ). l ++ part) (nil_from_length (drop r.len bytes) (omega (arith, length-drop r.len bytes, whole))))
    ∙ ap (λ (l : List ℕ). copy_of r bytes ∷ copy_of x l ∷ []) (take_all x.len part (omega (arith, long)))
    ∙ sym (cond-false (is_continued r x) both apart e))
    ∙ ap (λ (m : ℕ). if eqb r.segment x.segment && eqb (r.offset + m) x.offset then both else apart) (sym n)
    ∙ ap (λ (l : List ℕ). with_copy (copy_of r l ∷ []) (copy_of x part)) (sym front)
copies_with (r ∷ q ∷ rs) x bytes part whole long =
    ap (λ (l : List ℕ). copy_of r l ∷ copies_of (with_range (q ∷ rs) x) (drop r.len (bytes ++ part))) (take-append-le r.len bytes part (omega (arith, whole)))
    ∙ ap (λ (l : List ℕ). copy_of r (take r.len bytes) ∷ copies_of (with_range (q ∷ rs) x) l) (drop-append-le r.len bytes part (omega (arith, whole)))
    ∙ ap (λ (l : List OldBytes). copy_of r (take r.len bytes) ∷ l) (copies_with (q ∷ rs) x (drop r.len bytes) part (omega (arith, whole, length-drop r.len bytes)) long)

pub last_at : (xs : List Range) (x : Range) (i : ℕ) (d : Range) → i + 1 ≡ length xs → is_last_continued xs x ≡ is_continued (get_or xs i d) x
last_at [] x i d last = absurd (omega (arith, last))
last_at (r ∷ []) x zero d last = refl
last_at (r ∷ []) x (suc i) d last = absurd (omega (arith, last))
last_at (r ∷ q ∷ rs) x zero d last = absurd (omega (arith, last))
last_at (r ∷ q ∷ rs) x (suc i) d last = last_at (q ∷ rs) x i d (omega (arith, last))

pub last_is : (xs : List Range) (x last : Range) → Some last ≡ slice_get xs (length xs - 1) → is_continued last x ≡ is_last_continued xs x
last_is [] x last e = absurd cc
last_is (r ∷ rs) x last e =
    let i : ℕ = length (r ∷ rs) - 1 in
    let here : last ≡ get_or (r ∷ rs) i r = ap (unwrap_to r) (e ∙ slice_get-get_or (r ∷ rs) i r (omega arith)) in
    ap (λ (l : Range). is_continued l x) here ∙ sym (last_at (r ∷ rs) x i r (omega arith))
  where
    unwrap_to : Range → Option Range → Range
    unwrap_to d (Some l) = l
    unwrap_to d None = d

pub continued_end : (xs : List Range) (x : Range) (i : ℕ) (d : Range) → i + 1 ≡ length xs → is_last_continued xs x ≡ true → (get_or xs i d).offset + (get_or xs i d).len ≡ x.offset
continued_end xs x i d last e =
    let is = and_parts (eqb (get_or xs i d).segment x.segment) (eqb ((get_or xs i d).offset + (get_or xs i d).len) x.offset) (sym (last_at xs x i d last) ∙ e) in
    eqb-true _ _ is.1

-- the last range grows
grown : (xs : List Range) (x : Range) (i : ℕ) (d : Range) → i + 1 ≡ length xs → is_last_continued xs x ≡ true
    → set xs i (record (get_or xs i d) { len = (get_or xs i d).len + x.len }) ≡ with_range xs x
grown [] x i d last e = absurd (omega (arith, last))
grown (r ∷ []) x zero d last e = sym (cond-true (is_continued r x) (record r { len = r.len + x.len } ∷ []) (r ∷ x ∷ []) e)
grown (r ∷ []) x (suc i) d last e = absurd (omega (arith, last))
grown (r ∷ q ∷ rs) x zero d last e = absurd (omega (arith, last))
grown (r ∷ q ∷ rs) x (suc i) d last e = ap (λ (l : List Range). r ∷ l) (grown (q ∷ rs) x i d (omega (arith, last)) e)

-- there is a last range
pub one_at_least : (xs : List Range) (x : Range) → is_last_continued xs x ≡ true → 1 ≤ length xs
one_at_least [] x e = absurd cc
one_at_least (r ∷ rs) x e = omega arith

-- as the list of a vector is written back
pub grown_written : (n : ℕ) (xs base : List Range) (x : Range) (i : ℕ) (d : Range) → base ≡ xs → n ≡ length xs → i + 1 ≡ length xs → is_last_continued xs x ≡ true
    → refill n xs (set base i (record (get_or base i d) { len = (get_or base i d).len + x.len })) ≡ with_range xs x
grown_written n xs base x i d same long last e =
    let new : List Range = set base i (record (get_or base i d) { len = (get_or base i d).len + x.len }) in
    take_at new (drop (length new) xs) n (length-set base i _ ∙ ap length same ∙ sym long)
    ∙ ap (λ (r : List Range). set r i (record (get_or r i d) { len = (get_or r i d).len + x.len })) same
    ∙ grown xs x i d last e

-- the range stands alone
pub apart : (xs : List Range) (x : Range) → is_last_continued xs x ≡ false → xs ++ x ∷ [] ≡ with_range xs x
apart [] x e = refl
apart (r ∷ []) x e = sym (cond-false (is_continued r x) (record r { len = r.len + x.len } ∷ []) (r ∷ x ∷ []) e)
apart (r ∷ q ∷ rs) x e = ap (λ (l : List Range). r ∷ l) (apart (q ∷ rs) x e)

some_with : (xs : List Range) (x : Range) → AreSome xs → 1 ≤ x.len → AreSome (with_range xs x)
some_with [] x some more = (more, tt)
some_with (r ∷ []) x some more = cond_both (is_continued r x) (record r { len = r.len + x.len } ∷ []) (r ∷ x ∷ []) (λ (l : List Range). AreSome l) (λ e. (omega (arith, more), tt)) (λ e. (some.0, (more, tt)))
some_with (r ∷ q ∷ rs) x some more = (some.0, some_with (q ∷ rs) x some.1 more)

total_with : (xs : List Range) (x : Range) → total_len (with_range xs x) ≡ total_len xs + x.len
total_with [] x = omega arith
total_with (r ∷ []) x = cond_both (is_continued r x) (record r { len = r.len + x.len } ∷ []) (r ∷ x ∷ []) (λ (l : List Range). total_len l ≡ total_len (r ∷ []) + x.len) (λ e. omega arith) (λ e. omega arith)
total_with (r ∷ q ∷ rs) x = omega (arith, total_with (q ∷ rs) x)

pub are_copies_with : (xs : List Range) (x : Range) (bytes part : List ℕ) → AreCopies xs bytes → 1 ≤ x.len → length part ≡ x.len → AreCopies (with_range xs x) (bytes ++ part)
are_copies_with xs x bytes part copies more long = record {
  some = some_with xs x copies.some more;
  whole = omega (arith, length-append bytes part, total_with xs x, copies.whole, long);
}

-- What is kept with a copy more

first_of_none : (a : Option ℕ) → first_of a None ≡ a
first_of_none None = refl
first_of_none (Some x) = refl

first_of_assoc : (a b c : Option ℕ) → first_of a (first_of b c) ≡ first_of (first_of a b) c
first_of_assoc None b c = refl
first_of_assoc (Some x) b c = refl

-- a copy that another continues, as one
byte_in_both : (a b : OldBytes) (s k : ℕ) → is_end a b.segment b.offset ≡ true → byte_at (record a { bytes = a.bytes ++ b.bytes }) s k ≡ first_of (byte_at a s k) (byte_at b s k)
byte_in_both a b s k end =
    let is = and_parts (eqb a.segment b.segment) (eqb (a.offset + length a.bytes) b.offset) end in
    let same : a.segment ≡ b.segment = eqb-true _ _ is.0 in
    let next : a.offset + length a.bytes ≡ b.offset = eqb-true _ _ is.1 in
    let both : OldBytes = record a { bytes = a.bytes ++ b.bytes } in
    let long = length-append a.bytes b.bytes in
    let none : (byte_at both s k ≡ None) → (byte_at a s k ≡ None) → (byte_at b s k ≡ None) → byte_at both s k ≡ first_of (byte_at a s k) (byte_at b s k) =
    λ no one two. no ∙ sym (ap (λ (o : Option ℕ). first_of o (byte_at b s k)) one ∙ two) in
    elim (cases_eq a.segment s) [
      | inl here ↦ elim (cases_lt k a.offset) [
        | inl less ↦ none (byte_out both s k (λ e low high. omega (arith, low, less))) (byte_out a s k (λ e low high. omega (arith, low, less))) (byte_out b s k (λ e low high. omega (arith, low, less, next)))
        | inr low ↦ elim (cases_lt k (a.offset + length a.bytes)) [
          | inl high ↦
              byte_in both s k here low (omega (arith, high, long))
              ∙ ap (λ (n : ℕ). Some n) (get_or_append_left a.bytes b.bytes 0 (k - a.offset) (omega (arith, low, high)))
              ∙ sym (ap (λ (o : Option ℕ). first_of o (byte_at b s k)) (byte_in a s k here low high))
          | inr far ↦ elim (cases_lt k (b.offset + length b.bytes)) [
            | inl high ↦
                byte_in both s k here low (omega (arith, high, long, next))
                ∙ ap (λ (n : ℕ). Some n) (get_or-append_right a.bytes b.bytes (length a.bytes) (k - a.offset) 0 refl (omega (arith, far)) ∙ ap (λ (n : ℕ). slice_index b.bytes n) (omega (arith, far, next)))
                ∙ sym (ap (λ (o : Option ℕ). first_of o (byte_at b s k)) (byte_out a s k (λ e l h. omega (arith, h, far))) ∙ byte_in b s k (sym same ∙ here) (omega (arith, far, next)) high)
            | inr behind ↦ none (byte_out both s k (λ e l h. omega (arith, h, behind, long, next))) (byte_out a s k (λ e l h. omega (arith, h, far))) (byte_out b s k (λ e l h. omega (arith, h, behind)))
          ]
        ]
      ]
      | inr other ↦ none (byte_out both s k (λ e low high. other e)) (byte_out a s k (λ e low high. other e)) (byte_out b s k (λ e low high. other (same ∙ e)))
    ]

pub kept_with : (copies : List OldBytes) (more : OldBytes) (s k : ℕ) → kept (with_copy copies more) s k ≡ first_of (kept copies s k) (byte_at more s k)
kept_with [] more s k = first_of_none (byte_at more s k)
kept_with (copy ∷ []) more s k =
    cond_both (is_end copy more.segment more.offset) (record copy { bytes = copy.bytes ++ more.bytes } ∷ []) (copy ∷ more ∷ [])
    (λ (l : List OldBytes). kept l s k ≡ first_of (kept (copy ∷ []) s k) (byte_at more s k))
    (λ e. first_of_none (byte_at (record copy { bytes = copy.bytes ++ more.bytes }) s k) ∙ byte_in_both copy more s k e ∙ ap (λ (o : Option ℕ). first_of o (byte_at more s k)) (sym (first_of_none (byte_at copy s k))))
    (λ e. ap (first_of (byte_at copy s k)) (first_of_none (byte_at more s k)) ∙ ap (λ (o : Option ℕ). first_of o (byte_at more s k)) (sym (first_of_none (byte_at copy s k))))
kept_with (copy ∷ next ∷ copies) more s k = ap (first_of (byte_at copy s k)) (kept_with (next ∷ copies) more s k) ∙ first_of_assoc (byte_at copy s k) (kept (next ∷ copies) s k) (byte_at more s k)

-- the copies of an image's bytes at ranges
abbrev pub copies_at : List ℕ → List Range → List OldBytes
copies_at image [] = []
copies_at image (x ∷ xs) = copy_at image x ∷ copies_at image xs

pub kept_with_copies : (copies : List OldBytes) (image : List ℕ) (xs : List Range) (s k : ℕ) → kept (with_copies copies image xs) s k ≡ first_of (kept copies s k) (kept (copies_at image xs) s k)
kept_with_copies copies image [] s k = sym (first_of_none (kept copies s k))
kept_with_copies copies image (x ∷ xs) s k =
    kept_with_copies (with_copy copies (copy_at image x)) image xs s k
    ∙ ap (λ (o : Option ℕ). first_of o (kept (copies_at image xs) s k)) (kept_with copies (copy_at image x) s k)
    ∙ sym (first_of_assoc (kept copies s k) (byte_at (copy_at image x) s k) (kept (copies_at image xs) s k))

pub with_copies-append : (copies : List OldBytes) (image : List ℕ) (xs ys : List Range) → with_copies copies image (xs ++ ys) ≡ with_copies (with_copies copies image xs) image ys
with_copies-append copies image [] ys = refl
with_copies-append copies image (x ∷ xs) ys = with_copies-append (with_copy copies (copy_at image x)) image xs ys

-- How many bytes are kept, and the first of them

pub bytes_with : (copies : List OldBytes) (more : OldBytes) → bytes_kept (with_copy copies more) ≡ bytes_kept copies + length more.bytes
bytes_with [] more = omega arith
bytes_with (copy ∷ []) more = cond_both (is_end copy more.segment more.offset) (record copy { bytes = copy.bytes ++ more.bytes } ∷ []) (copy ∷ more ∷ [])
    (λ (l : List OldBytes). bytes_kept l ≡ bytes_kept (copy ∷ []) + length more.bytes) (λ e. omega (arith, length-append copy.bytes more.bytes)) (λ e. omega arith)
bytes_with (copy ∷ next ∷ copies) more = omega (arith, bytes_with (next ∷ copies) more)

pub bytes_with_copies : (copies : List OldBytes) (image : List ℕ) (xs : List Range) → EndWithin xs (length image) → bytes_kept (with_copies copies image xs) ≡ bytes_kept copies + total_len xs
bytes_with_copies copies image [] ends = omega arith
bytes_with_copies copies image (x ∷ xs) ends =
    omega (arith, bytes_with_copies (with_copy copies (copy_at image x)) image xs ends.1, bytes_with copies (copy_at image x), length_part image x.offset x.len ends.0)

none_left : (n : ℕ) → first_bytes n [] ≡ []
none_left zero = refl
none_left (suc n) = refl

first_with : (n : ℕ) (copies : List OldBytes) (more : OldBytes) → n ≤ bytes_kept copies → first_bytes n (with_copy copies more) ≡ first_bytes n copies
first_with zero copies more few = refl
first_with (suc n) [] more few = absurd (omega (arith, few))
first_with (suc n) (copy ∷ []) more few =
    let some : suc n ≤ length copy.bytes = omega (arith, few) in
    cond_both (is_end copy more.segment more.offset) (record copy { bytes = copy.bytes ++ more.bytes } ∷ []) (copy ∷ more ∷ [])
    (λ (l : List OldBytes). first_bytes (suc n) l ≡ first_bytes (suc n) (copy ∷ []))
    (λ e.
    ap (λ (l : List OldBytes). record copy { bytes = take (suc n) (copy.bytes ++ more.bytes) } ∷ l) (none_left (suc n - length (copy.bytes ++ more.bytes)))
    ∙ ap (λ (l : List ℕ). record copy { bytes = l } ∷ []) (take-append-le (suc n) copy.bytes more.bytes some)
    ∙ ap (λ (l : List OldBytes). record copy { bytes = take (suc n) copy.bytes } ∷ l) (sym (none_left (suc n - length copy.bytes))))
    (λ e.
    ap (λ (m : ℕ). record copy { bytes = take (suc n) copy.bytes } ∷ first_bytes m (more ∷ [])) (spent (suc n) (length copy.bytes) some)
    ∙ ap (λ (l : List OldBytes). record copy { bytes = take (suc n) copy.bytes } ∷ l) (sym (none_left (suc n - length copy.bytes))))
  where
    spent : (m k : ℕ) → m ≤ k → m - k ≡ 0
    spent m k le = omega arith
first_with (suc n) (copy ∷ next ∷ copies) more few =
    ap (λ (l : List OldBytes). record copy { bytes = take (suc n) copy.bytes } ∷ l) (first_with (suc n - length copy.bytes) (next ∷ copies) more (omega (arith, few)))

pub first_with_copies : (n : ℕ) (copies : List OldBytes) (image : List ℕ) (xs : List Range) → n ≤ bytes_kept copies → first_bytes n (with_copies copies image xs) ≡ first_bytes n copies
first_with_copies n copies image [] few = refl
first_with_copies n copies image (x ∷ xs) few =
    first_with_copies n (with_copy copies (copy_at image x)) image xs (omega (arith, few, bytes_with copies (copy_at image x))) ∙ first_with n copies (copy_at image x) few

-- How many copies there are

one_end : (a b : OldBytes) (s k : ℕ) → is_end a b.segment b.offset ≡ true → is_end (record a { bytes = a.bytes ++ b.bytes }) s k ≡ is_end b s k
one_end a b s k end =
    let is = and_parts (eqb a.segment b.segment) (eqb (a.offset + length a.bytes) b.offset) end in
    let next : a.offset + length (a.bytes ++ b.bytes) ≡ b.offset + length b.bytes = omega (arith, eqb-true _ _ is.1, length-append a.bytes b.bytes) in
    ap (λ (n : ℕ). eqb n s && eqb (a.offset + length (a.bytes ++ b.bytes)) k) (eqb-true _ _ is.0) ∙ ap (λ (n : ℕ). eqb b.segment s && eqb n k) next

ends_with : (copies : List OldBytes) (more : OldBytes) (s k : ℕ) → ends_at (with_copy copies more) s k ≡ is_end more s k
ends_with [] more s k = refl
ends_with (copy ∷ []) more s k = cond_both (is_end copy more.segment more.offset) (record copy { bytes = copy.bytes ++ more.bytes } ∷ []) (copy ∷ more ∷ [])
    (λ (l : List OldBytes). ends_at l s k ≡ is_end more s k) (λ e. one_end copy more s k e) (λ e. refl)
ends_with (copy ∷ next ∷ []) more s k = cond_both (is_end next more.segment more.offset) (record next { bytes = next.bytes ++ more.bytes } ∷ []) (next ∷ more ∷ [])
    (λ (l : List OldBytes). ends_at (copy ∷ l) s k ≡ is_end more s k) (λ e. one_end next more s k e) (λ e. refl)
ends_with (copy ∷ next ∷ later ∷ copies) more s k = ends_with (next ∷ later ∷ copies) more s k

copies_with_one : (copies : List OldBytes) (more : OldBytes) → length (with_copy copies more) + (if ends_at copies more.segment more.offset then 1 else 0) ≡ length copies + 1
copies_with_one [] more = refl
copies_with_one (copy ∷ []) more =
    let end : Bool = is_end copy more.segment more.offset in
    elim (cases_Bool end) [
      | inl e ↦
          ap (λ (l : List OldBytes). length l + (if end then 1 else 0)) (cond-true end (record copy { bytes = copy.bytes ++ more.bytes } ∷ []) (copy ∷ more ∷ []) e)
          ∙ ap (λ (n : ℕ). 1 + n) (cond-true end 1 0 e)
      | inr e ↦
          ap (λ (l : List OldBytes). length l + (if end then 1 else 0)) (cond-false end (record copy { bytes = copy.bytes ++ more.bytes } ∷ []) (copy ∷ more ∷ []) e)
          ∙ ap (λ (n : ℕ). 2 + n) (cond-false end 1 0 e)
    ]
copies_with_one (copy ∷ next ∷ copies) more = omega (arith, copies_with_one (next ∷ copies) more)

-- a run with a gap in front is no part of the copy of the one before
gap_behind : (x : Range) (xs : List Range) (copies : List OldBytes) (more : OldBytes) → more.segment ≡ x.segment → more.offset + length more.bytes ≡ x.offset + x.len → LiesBefore x xs → continuing (with_copy copies more) xs ≡ 0
gap_behind x [] copies more same end before = refl
gap_behind x (y ∷ ys) copies more same end before =
    cond-false (ends_at (with_copy copies more) y.segment y.offset) 1 0 (ends_with copies more y.segment y.offset ∙ apart (cases_Bool (is_end more y.segment y.offset)))
  where
    apart : (is_end more y.segment y.offset ≡ true) ⊎ (is_end more y.segment y.offset ≡ false) → is_end more y.segment y.offset ≡ false
    apart (inr e) = e
    apart (inl e) =
        let is = and_parts (eqb more.segment y.segment) (eqb (more.offset + length more.bytes) y.offset) e in
        let s = eqb-true _ _ is.0 in
        let o = eqb-true _ _ is.1 in
        elim before.0 [
          | inl less ↦ absurd (omega (arith, less, s, same))
          | inr both ↦ absurd (omega (arith, both.1, o, end))
        ]

pub copies_with_all : (copies : List OldBytes) (image : List ℕ) (xs : List Range) → IsCanonical xs → EndWithin xs (length image) → length (with_copies copies image xs) + continuing copies xs ≡ length copies + length xs
copies_with_all copies image [] c ends = refl
copies_with_all copies image (x ∷ xs) c ends =
    let more : OldBytes = copy_at image x in
    let long = length_part image x.offset x.len ends.0 in
    omega (arith, copies_with_all (with_copy copies more) image xs c.2 ends.1, gap_behind x xs copies more refl (omega (arith, long)) c.1, copies_with_one copies more)

-- Copies never get fewer

one_or_none : (b : Bool) → (if b then 1 else 0) ≤ 1
one_or_none true = omega arith
one_or_none false = omega arith

no_fewer : (copies : List OldBytes) (image : List ℕ) (xs : List Range) → length copies ≤ length (with_copies copies image xs)
no_fewer copies image [] = omega arith
no_fewer copies image (x ∷ xs) =
    let more : OldBytes = copy_at image x in
    omega (arith, no_fewer (with_copy copies more) image xs, copies_with_one copies more, one_or_none (ends_at copies more.segment more.offset))

no_less : (copies : List OldBytes) (image : List ℕ) (xs : List Range) → bytes_kept copies ≤ bytes_kept (with_copies copies image xs)
no_less copies image [] = omega arith
no_less copies image (x ∷ xs) = omega (arith, no_less (with_copy copies (copy_at image x)) image xs, bytes_with copies (copy_at image x))

-- where the first of these copies take memory, all do
pub take_more : (copies : List OldBytes) (image : List ℕ) (xs : List Range) → TakeMemory copies → TakeMemory (with_copies copies image xs)
take_more copies image xs take = elim take [
  | inl many ↦ inl (omega (arith, many, no_fewer copies image xs))
  | inr large ↦ inr (omega (arith, large, no_less copies image xs))
]
