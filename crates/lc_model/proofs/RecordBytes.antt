-- A transaction's record, byte by byte and number by number.
use Rattle.std.proofs.Common.{◌≡◌, ◌≢◌, ℕ, zero, suc, ◌+◌, ◌<◌, Bool, true, false, ◌==◌, List, [], ◌∷◌, ◌++◌, length, Option, Some, None, All, refl, sym, ◌∙◌, ap, subst, arith, inl, inr, true≢false, eqb-true, eq-eqb, ne_eqb, add-one}
use Rattle.std.specs.Prelude.{slice_get, if◌then◌else◌}
use Rattle.std.specs.Option.{unwrap_or, option_or}
use Rattle.std.proofs.lemmas.List.Elements.{All-nil, All-cons, All-head, All-tail}
use Rattle.lc_record.specs.Content.{Content, segment_of}
use Rattle.lc_record.specs.Transaction.{Transaction, Marks, IsWellFormed, locks, all_set, effect}
use Rattle.lc_record.specs.declared.record.RangeData.{RangeData}
use Rattle.lc_record.specs.Marks.{stretches}
use Rattle.lc_record.specs.Recorded.{with_byte, ranges_from, ranges_of, is_set, locks_of, laid}
use Rattle.lc_record.specs.Part.{number_in}
use Rattle.lc_record.specs.Newest.{byte_from, byte_in, byte_of, number_or_zero}
use Rattle.lc_model.specs.Merging.{byte_at, sets}
use Rattle.lc_record.proofs.SegmentLemmas.{length-writes_on, length-written_segment}
use Rattle.lc_record.proofs.ListLemmas.{option_or-none, option_or_assoc as option_or-assoc}
use Rattle.lc_model.proofs.Bytes.{over_byte, byte-laid, byte-unset, same-bytes, same-presence, length-laid, segment_of-zero}

-- The stretches of one segment

pub byte_of-append : (segment place : ℕ) (xs ys : List RangeData) → byte_of segment place (xs ++ ys) ≡ option_or (byte_of segment place ys) (byte_of segment place xs)
byte_of-append segment place [] ys = sym (option_or-none (byte_of segment place ys))
byte_of-append segment place (x ∷ xs) ys =
    ap (λ b. option_or b (byte_in segment place x)) (byte_of-append segment place xs ys)
    ∙ option_or-assoc (byte_of segment place ys) (byte_of segment place xs) (byte_in segment place x)

abbrev IsOf : ℕ → RangeData → Type 0
IsOf segment range = range.segment ≡ segment

of-with_byte : (segment offset byte : ℕ) (ranges : List RangeData) → All (IsOf segment) ranges → All (IsOf segment) (with_byte segment offset byte ranges)
of-with_byte segment offset byte [] all = All-cons (IsOf segment) (record { segment = segment; offset = offset; bytes = byte ∷ [] }) [] refl (All-nil (IsOf segment))
of-with_byte segment offset byte (range ∷ ranges) all =
    elim (range.offset == offset + 1) as (λ b. All (IsOf segment) (if b then record { segment = segment; offset = offset; bytes = byte ∷ range.bytes } ∷ ranges else record { segment = segment; offset = offset; bytes = byte ∷ [] } ∷ (range ∷ ranges))) [
      | true ↦ All-cons (IsOf segment) (record { segment = segment; offset = offset; bytes = byte ∷ range.bytes }) ranges refl (All-tail (IsOf segment) range ranges all)
      | false ↦ All-cons (IsOf segment) (record { segment = segment; offset = offset; bytes = byte ∷ [] }) (range ∷ ranges) refl all
    ]

of-ranges_from : (segment offset : ℕ) (marks : List Bool) (bytes : List ℕ) → All (IsOf segment) (ranges_from segment offset marks bytes)
of-ranges_from segment offset [] bytes = All-nil (IsOf segment)
of-ranges_from segment offset (mark ∷ marks) [] = All-nil (IsOf segment)
of-ranges_from segment offset (true ∷ marks) (byte ∷ bytes) = of-with_byte segment offset byte (ranges_from segment (offset + 1) marks bytes) (of-ranges_from segment (offset + 1) marks bytes)
of-ranges_from segment offset (false ∷ marks) (byte ∷ bytes) = of-ranges_from segment (offset + 1) marks bytes

byte_from-join : (offset byte : ℕ) (bytes : List ℕ) (place : ℕ) → byte_from offset (byte ∷ bytes) place ≡ option_or (byte_from (suc offset) bytes place) (byte_from offset (byte ∷ []) place)
byte_from-join zero byte bytes zero = refl
byte_from-join zero byte bytes (suc place) = sym (option_or-none (slice_get bytes place))
byte_from-join (suc offset) byte bytes zero = refl
byte_from-join (suc offset) byte bytes (suc place) = byte_from-join offset byte bytes place

-- one byte more in front
byte-with_byte : (segment place other offset byte : ℕ) (ranges : List RangeData) → All (IsOf other) ranges → byte_of segment place (with_byte other offset byte ranges) ≡ option_or (byte_of segment place ranges) (if other == segment then byte_from offset (byte ∷ []) place else None)
byte-with_byte segment place other offset byte [] of = refl
byte-with_byte segment place other offset byte (range ∷ ranges) of =
    let single : Option ℕ = if other == segment then byte_from offset (byte ∷ []) place else None in
    elim (range.offset == offset + 1) as (λ b. (range.offset == offset + 1) ≡ b → byte_of segment place (if b then record { segment = other; offset = offset; bytes = byte ∷ range.bytes } ∷ ranges else record { segment = other; offset = offset; bytes = byte ∷ [] } ∷ (range ∷ ranges)) ≡ option_or (byte_of segment place (range ∷ ranges)) (if other == segment then byte_from offset (byte ∷ []) place else None)) [
      | true ↦ λ e.
          let behind : range.offset ≡ suc offset = eqb-true range.offset (offset + 1) e ∙ add-one offset in
          let own : range.segment ≡ other = All-head (IsOf other) range ranges of in
          rw (own, behind)
          (elim (other == segment) as (λ b. option_or (byte_of segment place ranges) (if b then byte_from offset (byte ∷ range.bytes) place else None) ≡ option_or (option_or (byte_of segment place ranges) (if b then byte_from (suc offset) range.bytes place else None)) (if b then byte_from offset (byte ∷ []) place else None)) [
            | true ↦ ap (option_or (byte_of segment place ranges)) (byte_from-join offset byte range.bytes place)
                ∙ sym (option_or-assoc (byte_of segment place ranges) (byte_from (suc offset) range.bytes place) (byte_from offset (byte ∷ []) place))
            | false ↦ sym (option_or-none (option_or (byte_of segment place ranges) None))
          ])
      | false ↦ λ e. refl
    ] refl

-- the byte at a place, where it is marked
abbrev pub marked_byte : List Bool → List ℕ → ℕ → Option ℕ
marked_byte [] bytes place = None
marked_byte (mark ∷ marks) [] place = None
marked_byte (true ∷ marks) (byte ∷ bytes) zero = Some byte
marked_byte (false ∷ marks) (byte ∷ bytes) zero = None
marked_byte (mark ∷ marks) (byte ∷ bytes) (suc place) = marked_byte marks bytes place

abbrev marked_from : ℕ → List Bool → List ℕ → ℕ → Option ℕ
marked_from zero marks bytes place = marked_byte marks bytes place
marked_from (suc offset) marks bytes zero = None
marked_from (suc offset) marks bytes (suc place) = marked_from offset marks bytes place

marked-no_marks : (offset : ℕ) (bytes : List ℕ) (place : ℕ) → marked_from offset [] bytes place ≡ None
marked-no_marks zero bytes place = refl
marked-no_marks (suc offset) bytes zero = refl
marked-no_marks (suc offset) bytes (suc place) = marked-no_marks offset bytes place

marked-no_bytes : (offset : ℕ) (mark : Bool) (marks : List Bool) (place : ℕ) → marked_from offset (mark ∷ marks) [] place ≡ None
marked-no_bytes zero mark marks place = refl
marked-no_bytes (suc offset) mark marks zero = refl
marked-no_bytes (suc offset) mark marks (suc place) = marked-no_bytes offset mark marks place

marked-true : (offset byte : ℕ) (marks : List Bool) (bytes : List ℕ) (place : ℕ) → option_or (marked_from (suc offset) marks bytes place) (byte_from offset (byte ∷ []) place) ≡ marked_from offset (true ∷ marks) (byte ∷ bytes) place
marked-true zero byte marks bytes zero = refl
marked-true zero byte marks bytes (suc place) = option_or-none (marked_byte marks bytes place)
marked-true (suc offset) byte marks bytes zero = refl
marked-true (suc offset) byte marks bytes (suc place) = marked-true offset byte marks bytes place

marked-false : (offset byte : ℕ) (marks : List Bool) (bytes : List ℕ) (place : ℕ) → marked_from (suc offset) marks bytes place ≡ marked_from offset (false ∷ marks) (byte ∷ bytes) place
marked-false zero byte marks bytes zero = refl
marked-false zero byte marks bytes (suc place) = refl
marked-false (suc offset) byte marks bytes zero = refl
marked-false (suc offset) byte marks bytes (suc place) = marked-false offset byte marks bytes place

if-none : (b : Bool) (x : Option ℕ) → x ≡ None → None ≡ (if b then x else None)
if-none true x none = sym none
if-none false x none = refl

byte-ranges_from : (segment place other offset : ℕ) (marks : List Bool) (bytes : List ℕ) → byte_of segment place (ranges_from other offset marks bytes) ≡ (if other == segment then marked_from offset marks bytes place else None)
byte-ranges_from segment place other offset [] bytes = if-none (other == segment) (marked_from offset [] bytes place) (marked-no_marks offset bytes place)
byte-ranges_from segment place other offset (mark ∷ marks) [] = if-none (other == segment) (marked_from offset (mark ∷ marks) [] place) (marked-no_bytes offset mark marks place)
byte-ranges_from segment place other offset (true ∷ marks) (byte ∷ bytes) =
    byte-with_byte segment place other offset byte (ranges_from other (offset + 1) marks bytes) (of-ranges_from other (offset + 1) marks bytes)
    ∙ ap (λ x. option_or x (if other == segment then byte_from offset (byte ∷ []) place else None)) (byte-ranges_from segment place other (offset + 1) marks bytes)
    ∙ (elim (other == segment) as (λ b. option_or (if b then marked_from (offset + 1) marks bytes place else None) (if b then byte_from offset (byte ∷ []) place else None) ≡ (if b then marked_from offset (true ∷ marks) (byte ∷ bytes) place else None)) [
      | true ↦ ap (λ n. option_or (marked_from n marks bytes place) (byte_from offset (byte ∷ []) place)) (add-one offset) ∙ marked-true offset byte marks bytes place
      | false ↦ refl
    ])
byte-ranges_from segment place other offset (false ∷ marks) (byte ∷ bytes) =
    byte-ranges_from segment place other (offset + 1) marks bytes
    ∙ (elim (other == segment) as (λ b. (if b then marked_from (offset + 1) marks bytes place else None) ≡ (if b then marked_from offset (false ∷ marks) (byte ∷ bytes) place else None)) [
      | true ↦ ap (λ n. marked_from n marks bytes place) (add-one offset) ∙ marked-false offset byte marks bytes place
      | false ↦ refl
    ])

-- Segments counted from one on

abbrev pub part_from : {A : Type 0} → ℕ → List (List A) → ℕ → List A
part_from first [] segment = []
part_from first (x ∷ xs) segment = if first == segment then x else part_from (first + 1) xs segment

pub part_from-below : {A : Type 0} (first segment : ℕ) (xs : List (List A)) → segment < first → part_from first xs segment ≡ []
part_from-below first segment [] below = refl
part_from-below first segment (x ∷ xs) below =
    let differ : first ≢ segment = omega arith in
    let behind : segment < first + 1 = omega arith in
    rw (ne_eqb first segment differ) (part_from-below (first + 1) segment xs behind)

part_from-at : {A : Type 0} (first i : ℕ) (xs : List (List A)) → part_from first xs (first + i) ≡ segment_of (suc i) xs
part_from-at first i [] = refl
part_from-at {A} first zero (x ∷ xs) =
    let same : first ≡ first + 0 = omega arith in
    subst (λ (b : Bool). (if b then x else part_from (first + 1) xs (first + 0)) ≡ x) (sym (eq-eqb first (first + 0) same)) refl
part_from-at {A} first (suc i) (x ∷ xs) =
    let differ : first ≢ first + suc i = omega arith in
    let next : (first + 1) + i ≡ first + suc i = omega arith in
    rw (ne_eqb first (first + suc i) differ) (ap (λ s. part_from (first + 1) xs s) (sym next) ∙ part_from-at (first + 1) i xs)

pub part_from-segment : {A : Type 0} (xs : List (List A)) (segment : ℕ) → part_from 1 xs segment ≡ segment_of segment xs
part_from-segment xs zero =
    let below : 0 < 1 = omega arith in
    part_from-below 1 0 xs below ∙ sym (segment_of-zero xs)
part_from-segment xs (suc i) =
    let same : suc i ≡ 1 + i = omega arith in
    ap (λ s. part_from 1 xs s) same ∙ part_from-at 1 i xs

-- The ranges of a record

marked_byte-none : (marks : List Bool) (place : ℕ) → marked_byte marks [] place ≡ None
marked_byte-none [] place = refl
marked_byte-none (mark ∷ marks) place = refl

byte-ranges_of-from : (segment place first : ℕ) (marks : Marks) (content : Content) → byte_of segment place (ranges_of first marks content) ≡ marked_byte (part_from first marks segment) (part_from first content segment) place
byte-ranges_of-from segment place first [] content = refl
byte-ranges_of-from segment place first (m ∷ ms) [] = sym (marked_byte-none (part_from first (m ∷ ms) segment) place)
byte-ranges_of-from segment place first (m ∷ ms) (b ∷ bs) =
    byte_of-append segment place (ranges_from first 0 m b) (ranges_of (first + 1) ms bs)
    ∙ ap (option_or (byte_of segment place (ranges_of (first + 1) ms bs))) (byte-ranges_from segment place first 0 m b)
    ∙ (elim (first == segment) as (λ t. (first == segment) ≡ t → option_or (byte_of segment place (ranges_of (first + 1) ms bs)) (if t then marked_byte m b place else None) ≡ marked_byte (if t then m else part_from (first + 1) ms segment) (if t then b else part_from (first + 1) bs segment) place) [
      | true ↦ λ e.
          let same : first ≡ segment = eqb-true first segment e in
          let below : segment < first + 1 = omega arith in
          let none : byte_of segment place (ranges_of (first + 1) ms bs) ≡ None = byte-ranges_of-from segment place (first + 1) ms bs ∙ ap (λ xs. marked_byte xs (part_from (first + 1) bs segment) place) (part_from-below (first + 1) segment ms below) in
          ap (λ x. option_or x (marked_byte m b place)) none
      | false ↦ λ e. option_or-none (byte_of segment place (ranges_of (first + 1) ms bs)) ∙ byte-ranges_of-from segment place (first + 1) ms bs
    ] refl)

pub byte-ranges_of : (segment place : ℕ) (marks : Marks) (content : Content) → byte_of segment place (ranges_of 1 marks content) ≡ marked_byte (segment_of segment marks) (segment_of segment content) place
byte-ranges_of segment place marks content =
    byte-ranges_of-from segment place 1 marks content
    ∙ ap (λ ms. marked_byte ms (part_from 1 content segment) place) (part_from-segment marks segment)
    ∙ ap (λ bs. marked_byte (segment_of segment marks) bs place) (part_from-segment content segment)

pub marked_byte-set : (marks : List Bool) (bytes : List ℕ) (place : ℕ) → all_set place 1 marks ≡ true → marked_byte marks bytes place ≡ slice_get bytes place
marked_byte-set [] bytes place set = absurd (true≢false (sym set))
marked_byte-set (mark ∷ marks) [] place set = refl
marked_byte-set (true ∷ marks) (byte ∷ bytes) zero set = refl
marked_byte-set (false ∷ marks) (byte ∷ bytes) zero set = absurd (true≢false (sym set))
marked_byte-set (mark ∷ marks) (byte ∷ bytes) (suc place) set = marked_byte-set marks bytes place set

pub marked_byte-unset : (marks : List Bool) (bytes : List ℕ) (place : ℕ) → all_set place 1 marks ≡ false → marked_byte marks bytes place ≡ None
marked_byte-unset [] bytes place unset = refl
marked_byte-unset (mark ∷ marks) [] place unset = refl
marked_byte-unset (true ∷ marks) (byte ∷ bytes) zero unset = absurd (true≢false unset)
marked_byte-unset (false ∷ marks) (byte ∷ bytes) zero unset = refl
marked_byte-unset (mark ∷ marks) (byte ∷ bytes) (suc place) unset = marked_byte-unset marks bytes place unset

-- The record has what the effect leaves

-- what a record's byte and the one before it make, where the effect has one
pub record-byte : (t : Transaction) (content : Content) (segment place : ℕ) → IsWellFormed t → byte_at segment place (effect t content) ≡ option_or (byte_of segment place (ranges_of 1 t.marks (effect t content))) (byte_at segment place content)
record-byte t content segment place well =
    let new : Option ℕ = byte_at segment place (effect t content) in
    let old : Option ℕ = byte_at segment place content in
    let own : byte_of segment place (ranges_of 1 t.marks (effect t content)) ≡ marked_byte (segment_of segment t.marks) (segment_of segment (effect t content)) place = byte-ranges_of segment place t.marks (effect t content) in
    elim (all_set place 1 (segment_of segment t.marks)) as (λ b. all_set place 1 (segment_of segment t.marks) ≡ b → byte_at segment place (effect t content) ≡ option_or (byte_of segment place (ranges_of 1 t.marks (effect t content))) (byte_at segment place content)) [
      | true ↦ λ e.
          let is : byte_of segment place (ranges_of 1 t.marks (effect t content)) ≡ byte_at segment place (effect t content) = own ∙ marked_byte-set (segment_of segment t.marks) (segment_of segment (effect t content)) place e in
          elim (same-presence (segment_of segment (effect t content)) (segment_of segment content) place (length-written_segment segment t.writes content)) [
            | inl none ↦ none.0 ∙ sym (ap (λ x. option_or x (byte_at segment place content)) (is ∙ none.0) ∙ none.1)
            | inr some ↦ some.2 ∙ sym (ap (λ x. option_or x (byte_at segment place content)) (is ∙ some.2))
          ]
      | false ↦ λ e.
          byte-unset segment place t.marks t.writes content well.write_set e
          ∙ sym (ap (λ x. option_or x (byte_at segment place content)) (own ∙ marked_byte-unset (segment_of segment t.marks) (segment_of segment (effect t content)) place e))
    ] refl

over-else : (x : Option ℕ) (xs ys : List ℕ) (place : ℕ) → length xs ≡ length ys → slice_get xs place ≡ option_or x (slice_get ys place) → over_byte x (slice_get ys place) ≡ slice_get xs place
over-else None xs ys place long is = sym is
over-else (Some byte) xs ys place long is =
    elim (same-presence xs ys place long) [
      | inl none ↦ absurd (let some : None ≡ Some byte = sym none.0 ∙ is in cc)
      | inr some ↦ ap (over_byte (Some byte)) some.3 ∙ sym is
    ]

-- a record's bytes, put on the content at its reservation, are the effect
pub record-laid : (t : Transaction) (content : Content) → IsWellFormed t → laid (ranges_of 1 t.marks (effect t content)) content ≡ effect t content
record-laid t content well =
    same-bytes (laid (ranges_of 1 t.marks (effect t content)) content) (effect t content)
    (length-laid (ranges_of 1 t.marks (effect t content)) content ∙ sym (length-writes_on t.writes content))
    (λ segment place.
    byte-laid segment place (ranges_of 1 t.marks (effect t content)) content
    ∙ over-else (byte_of segment place (ranges_of 1 t.marks (effect t content))) (segment_of segment (effect t content)) (segment_of segment content) place
    (length-written_segment segment t.writes content) (record-byte t content segment place well))

-- Numbers

-- some place is set
pub set-place : (marks : List Bool) → is_set marks ≡ true → (place : ℕ) × (all_set place 1 marks ≡ true)
set-place [] set = absurd (true≢false (sym set))
set-place (true ∷ marks) set = (0, refl)
set-place (false ∷ marks) set =
    let behind : (place : ℕ) × (all_set place 1 marks ≡ true) = set-place marks set in
    (suc behind.0, behind.1)

pub place-set : (marks : List Bool) (place : ℕ) → all_set place 1 marks ≡ true → is_set marks ≡ true
place-set [] place set = absurd (true≢false (sym set))
place-set (true ∷ marks) place set =
    let some : 1 + stretches true marks ≢ 0 = omega arith in
    rw (ne_eqb (1 + stretches true marks) 0 some) refl
place-set (false ∷ marks) zero set = absurd (true≢false (sym set))
place-set (false ∷ marks) (suc place) set = place-set marks place set

-- what a transaction set, it locked
pub sets-locks : (t : Transaction) (segment : ℕ) → IsWellFormed t → sets segment t ≡ true → locks t segment ≡ true
sets-locks t segment well set =
    let place : (place : ℕ) × (all_set place 1 (segment_of segment t.marks) ≡ true) = set-place (segment_of segment t.marks) set in
    well.set_locked segment place.0 place.1

number-from : (numbers : ℕ → ℕ) (segment first : ℕ) (marks : Marks) → number_or_zero segment (locks_of numbers first marks) ≡ (if is_set (part_from first marks segment) then numbers segment + 1 else 0)
number-from numbers segment first [] = refl
number-from numbers segment first (m ∷ ms) =
    let next : number_or_zero segment (locks_of numbers (first + 1) ms) ≡ (if is_set (part_from (first + 1) ms segment) then numbers segment + 1 else 0) = number-from numbers segment (first + 1) ms in
    elim (is_set m) as (λ b. is_set m ≡ b → number_or_zero segment (if b then record { segment = first; seq = numbers first + 1 } ∷ locks_of numbers (first + 1) ms else locks_of numbers (first + 1) ms) ≡ (if is_set (part_from first (m ∷ ms) segment) then numbers segment + 1 else 0)) [
      | true ↦ λ set.
          (elim (first == segment) as (λ b. (first == segment) ≡ b → unwrap_or (if b then Some (numbers first + 1) else number_in segment (locks_of numbers (first + 1) ms)) 0 ≡ (if is_set (if b then m else part_from (first + 1) ms segment) then numbers segment + 1 else 0)) [
            | true ↦ λ e. ap (λ n. numbers n + 1) (eqb-true first segment e) ∙ sym (ap (λ b. if b then numbers segment + 1 else 0) set)
            | false ↦ λ e. next
          ] refl)
      | false ↦ λ unset.
          (elim (first == segment) as (λ b. (first == segment) ≡ b → number_or_zero segment (locks_of numbers (first + 1) ms) ≡ (if is_set (if b then m else part_from (first + 1) ms segment) then numbers segment + 1 else 0)) [
            | true ↦ λ e.
                let same : first ≡ segment = eqb-true first segment e in
                let below : segment < first + 1 = omega arith in
                next ∙ ap (λ xs. if is_set xs then numbers segment + 1 else 0) (part_from-below (first + 1) segment ms below) ∙ sym (ap (λ b. if b then numbers segment + 1 else 0) unset)
            | false ↦ λ e. next
          ] refl)
    ] refl

-- the number of a segment that it set is the next one
pub record-number : (numbers : ℕ → ℕ) (segment : ℕ) (t : Transaction) → number_or_zero segment (locks_of numbers 1 t.marks) ≡ (if sets segment t then numbers segment + 1 else 0)
record-number numbers segment t =
    number-from numbers segment 1 t.marks ∙ ap (λ xs. if is_set xs then numbers segment + 1 else 0) (part_from-segment t.marks segment)
