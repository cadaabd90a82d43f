-- Contents byte by byte: what is put on, and what writes leave.
use Rattle.std.proofs.Common.{◌≡◌, ◌≢◌, ◌⊎◌, ℕ, zero, suc, Bool, true, false, ◌==◌, List, [], ◌∷◌, length, Option, Some, None, All, IsTrue, refl, sym, ◌∙◌, ap, subst, arith, inl, inr, true≢false, eqb-true, eq-eqb}
use Rattle.std.specs.Prelude.{slice_get, if◌then◌else◌}
use Rattle.std.proofs.lemmas.List.Elements.{All-head, All-tail}
use Rattle.lc_record.specs.Content.{Content, put, on_segment, segment_of}
use Rattle.lc_record.specs.Transaction.{ByteWrite, Marks, all_set, writes_on}
use Rattle.lc_record.specs.declared.record.RangeData.{RangeData}
use Rattle.lc_record.specs.Recorded.{laid}
use Rattle.std.specs.Option.{option_or}
use Rattle.lc_record.specs.Newest.{byte_from, byte_in, byte_of}
use Rattle.lc_model.specs.Merging.{byte_at}
use Rattle.lc_record.proofs.SegmentLemmas.{segment_of-other, segment_of-same, length-on_segment}

-- a byte is put on where there is one
abbrev pub over_byte : Option ℕ → Option ℕ → Option ℕ
over_byte None old = old
over_byte (Some byte) None = None
over_byte (Some byte) (Some old) = Some byte

over-none : (new : Option ℕ) → over_byte new None ≡ None
over-none None = refl
over-none (Some byte) = refl

over-over : (last first old : Option ℕ) → over_byte last (over_byte first old) ≡ over_byte (option_or last first) old
over-over None first old = refl
over-over (Some byte) None old = refl
over-over (Some byte) (Some other) None = refl
over-over (Some byte) (Some other) (Some old) = refl

pub get-put : (offset : ℕ) (items xs : List ℕ) (place : ℕ) → slice_get (put offset items xs) place ≡ over_byte (byte_from offset items place) (slice_get xs place)
get-put offset items [] place = sym (over-none (byte_from offset items place))
get-put zero [] (x ∷ xs) place = refl
get-put zero (item ∷ items) (x ∷ xs) zero = refl
get-put zero (item ∷ items) (x ∷ xs) (suc place) = get-put zero items xs place
get-put (suc offset) items (x ∷ xs) zero = refl
get-put (suc offset) items (x ∷ xs) (suc place) = get-put offset items xs place

-- one change of a segment, at one byte
pub byte-change : (segment place other offset : ℕ) (items : List ℕ) (content : Content) → byte_at segment place (on_segment other (put offset items) content) ≡ over_byte (if other == segment then byte_from offset items place else None) (byte_at segment place content)
byte-change segment place other offset items content =
    elim (other == segment) as (λ b. (other == segment) ≡ b → byte_at segment place (on_segment other (put offset items) content) ≡ over_byte (if b then byte_from offset items place else None) (byte_at segment place content)) [
      | true ↦ λ e.
          let same : segment ≡ other = sym (eqb-true other segment e) in
          subst (λ (s : ℕ). byte_at s place (on_segment other (put offset items) content) ≡ over_byte (byte_from offset items place) (byte_at s place content)) (sym same)
          (ap (λ xs. slice_get xs place) (segment_of-same other (put offset items) content refl) ∙ get-put offset items (segment_of other content) place)
      | false ↦ λ e.
          let differ : segment ≢ other = λ same. true≢false (sym (eq-eqb other segment (sym same)) ∙ e) in
          ap (λ xs. slice_get xs place) (segment_of-other segment other (put offset items) content differ)
    ] refl

-- what ranges leave, at one byte
pub byte-laid : (segment place : ℕ) (ranges : List RangeData) (content : Content) → byte_at segment place (laid ranges content) ≡ over_byte (byte_of segment place ranges) (byte_at segment place content)
byte-laid segment place [] content = refl
byte-laid segment place (range ∷ ranges) content =
    byte-laid segment place ranges (on_segment range.segment (put range.offset range.bytes) content)
    ∙ ap (over_byte (byte_of segment place ranges)) (byte-change segment place range.segment range.offset range.bytes content)
    ∙ over-over (byte_of segment place ranges) (byte_in segment place range) (byte_at segment place content)

-- Contents with the same bytes

pub same-items : (xs ys : List ℕ) → ((place : ℕ) → slice_get xs place ≡ slice_get ys place) → xs ≡ ys
same-items [] [] same = refl
same-items [] (y ∷ ys) same = absurd (let none : None ≡ Some y = same 0 in cc)
same-items (x ∷ xs) [] same = absurd (let none : Some x ≡ None = same 0 in cc)
same-items (x ∷ xs) (y ∷ ys) same =
    let first : x ≡ y = (let some : Some x ≡ Some y = same 0 in cc) in
    let others : xs ≡ ys = same-items xs ys (λ place. same (suc place)) in
    cc

pub segment_of-zero : {A : Type 0} (xs : List (List A)) → segment_of 0 xs ≡ []
segment_of-zero [] = refl
segment_of-zero (x ∷ xs) = refl

same-behind : (x y : List ℕ) (xs ys : Content) → ((segment place : ℕ) → byte_at segment place (x ∷ xs) ≡ byte_at segment place (y ∷ ys)) → (segment place : ℕ) → byte_at segment place xs ≡ byte_at segment place ys
same-behind x y xs ys same zero place = ap (λ b. slice_get b place) (segment_of-zero xs ∙ sym (segment_of-zero ys))
same-behind x y xs ys same (suc i) place = same (suc (suc i)) place

pub same-bytes : (one two : Content) → length one ≡ length two → ((segment place : ℕ) → byte_at segment place one ≡ byte_at segment place two) → one ≡ two
same-bytes [] [] long same = refl
same-bytes [] (y ∷ ys) long same = absurd (omega (arith, long))
same-bytes (x ∷ xs) [] long same = absurd (omega (arith, long))
same-bytes (x ∷ xs) (y ∷ ys) long same =
    let shorter : length xs ≡ length ys = omega (arith, long) in
    let first : x ≡ y = same-items x y (λ place. same 1 place) in
    let others : xs ≡ ys = same-bytes xs ys shorter (same-behind x y xs ys same) in
    cc

-- Lengths

pub length-laid : (ranges : List RangeData) (content : Content) → length (laid ranges content) ≡ length content
length-laid [] content = refl
length-laid (range ∷ ranges) content =
    length-laid ranges (on_segment range.segment (put range.offset range.bytes) content) ∙ length-on_segment range.segment (put range.offset range.bytes) content

-- two lists of one length have an item at a place both, or neither has one
pub same-presence : (xs ys : List ℕ) (place : ℕ) → length xs ≡ length ys → ((slice_get xs place ≡ None) × (slice_get ys place ≡ None)) ⊎ ((x : ℕ) × (y : ℕ) × (slice_get xs place ≡ Some x) × (slice_get ys place ≡ Some y))
same-presence [] [] place long = inl (refl, refl)
same-presence [] (y ∷ ys) place long = absurd (omega (arith, long))
same-presence (x ∷ xs) [] place long = absurd (omega (arith, long))
same-presence (x ∷ xs) (y ∷ ys) zero long = inr (x, y, refl, refl)
same-presence (x ∷ xs) (y ∷ ys) (suc place) long =
    let shorter : length xs ≡ length ys = omega (arith, long) in
    same-presence xs ys place shorter

-- Writes leave what is not set

pub byte_from-unset : (offset : ℕ) (items : List ℕ) (marks : List Bool) (place : ℕ) → all_set offset (length items) marks ≡ true → all_set place 1 marks ≡ false → byte_from offset items place ≡ None
byte_from-unset zero [] marks place set unset = refl
byte_from-unset (suc offset) [] marks zero set unset = refl
byte_from-unset (suc offset) [] [] (suc place) set unset = byte_from-unset offset [] [] place refl refl
byte_from-unset (suc offset) [] (mark ∷ marks) (suc place) set unset = byte_from-unset offset [] marks place refl unset
byte_from-unset zero (item ∷ items) [] place set unset = absurd (true≢false (sym set))
byte_from-unset zero (item ∷ items) (true ∷ marks) zero set unset = absurd (true≢false unset)
byte_from-unset zero (item ∷ items) (false ∷ marks) zero set unset = absurd (true≢false (sym set))
byte_from-unset zero (item ∷ items) (true ∷ marks) (suc place) set unset = byte_from-unset zero items marks place set unset
byte_from-unset zero (item ∷ items) (false ∷ marks) (suc place) set unset = absurd (true≢false (sym set))
byte_from-unset (suc offset) (item ∷ items) [] place set unset = absurd (true≢false (sym set))
byte_from-unset (suc offset) (item ∷ items) (mark ∷ marks) zero set unset = refl
byte_from-unset (suc offset) (item ∷ items) (mark ∷ marks) (suc place) set unset = byte_from-unset offset (item ∷ items) marks place set unset

pub byte-unset : (segment place : ℕ) (marks : Marks) (ws : List ByteWrite) (content : Content) → All (λ (w : ByteWrite). IsTrue (all_set w.offset (length w.bytes) (segment_of w.segment marks))) ws → all_set place 1 (segment_of segment marks) ≡ false → byte_at segment place (writes_on ws content) ≡ byte_at segment place content
byte-unset segment place marks [] content set unset = refl
byte-unset segment place marks (w ∷ ws) content set unset =
    let Set : ByteWrite → Type 0 = λ (v : ByteWrite). IsTrue (all_set v.offset (length v.bytes) (segment_of v.segment marks)) in
    byte-unset segment place marks ws (on_segment w.segment (put w.offset w.bytes) content) (All-tail Set w ws set) unset
    ∙ byte-change segment place w.segment w.offset w.bytes content
    ∙ (elim (w.segment == segment) as (λ b. (w.segment == segment) ≡ b → over_byte (if b then byte_from w.offset w.bytes place else None) (byte_at segment place content) ≡ byte_at segment place content) [
      | true ↦ λ e.
          let here : all_set w.offset (length w.bytes) (segment_of segment marks) ≡ true = subst (λ (s : ℕ). all_set w.offset (length w.bytes) (segment_of s marks) ≡ true) (eqb-true w.segment segment e) (All-head Set w ws set) in
          ap (λ x. over_byte x (byte_at segment place content)) (byte_from-unset w.offset w.bytes (segment_of segment marks) place here unset)
      | false ↦ λ e. refl
    ] refl)
