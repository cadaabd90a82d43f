-- The lines of a script that are read one by one.
use Rattle.std.proofs.Common.{◌≡◌, ◌≢◌, ℕ, zero, suc, ◌-◌, ◌<◌, ◌≤◌, ◌==◌, Bool, true, false, List, [], ◌∷◌, ◌++◌, All, length, map, take, drop, Option, Some, None, IfSome, refl, sym, ap, subst, ◌∙◌, arith, eqb-true}
use Rattle.std.specs.Prelude.{if◌then◌else◌}
use Rattle.std.specs.Io.BufRead.{drop_through, take_through}
use Rattle.std.specs.Io.Buffered.{reader_buffer, reader_capacity, reader_inner, reader_remaining}
use Rattle.std.specs.Io.KnownBytes.{Consumes, prepend_known}
use Rattle.std.specs.Io.{StopsAt, appended_bytes}
use Rattle.std.specs.Str.Lines.{strip_carriage_return}
use Rattle.std.specs.declared.io.buffered.BufReader.{BufReader}
use Rattle.std.proofs.KnownBytes.{prepend_known-nil}
use Rattle.std.proofs.lemmas.Option.{same_Some}
use Rattle.lc_text.specs.Lines.{last_line, lines_behind}
use Rattle.lc_tool.specs.Following.{lines_from}

last_is : (acc line : List ℕ) (more : List (List ℕ)) → last_line acc ≡ line ∷ more → map Some (last_line acc) ≡ Some line ∷ []
last_is [] line more is = absurd cc
last_is (byte ∷ bytes) line more is = (let same : byte ∷ bytes ≡ line = cc in ap (λ (l : List ℕ). Some l ∷ []) same)

-- a line that is within the limit comes first
pub line_comes : (count room : ℕ) (acc bytes line : List ℕ) (more : List (List ℕ)) → lines_behind acc (take_through 10 bytes) ≡ line ∷ more → length (take_through 10 bytes) ≤ room
    → lines_from (suc count) room acc bytes ≡ Some line ∷ lines_from count 1048576 [] (drop_through 10 bytes)
line_comes count room acc [] line more behind few = last_is acc line more behind
line_comes count zero acc (byte ∷ bytes) line more behind few = elim (byte == 10) as (λ (b : Bool). (byte == 10) ≡ b → lines_from (suc count) zero acc (byte ∷ bytes) ≡ Some line ∷ lines_from count 1048576 [] (drop_through 10 (byte ∷ bytes))) [
  | true ↦ λ e. absurd (omega (arith, rw e at few))
  | false ↦ λ e. absurd (omega (arith, rw e at few))
] refl
line_comes count (suc room) acc (byte ∷ bytes) line more behind few = elim (byte == 10) as (λ (b : Bool). (byte == 10) ≡ b → lines_from (suc count) (suc room) acc (byte ∷ bytes) ≡ Some line ∷ lines_from count 1048576 [] (drop_through 10 (byte ∷ bytes))) [
  | true ↦ λ e.
      let ends = rw e at behind in
      let same : strip_carriage_return acc ≡ line = cc in
      rw e (ap (λ (l : List ℕ). Some l ∷ lines_from count 1048576 [] bytes) same)
  | false ↦ λ e.
      let goes : lines_behind (acc ++ byte ∷ []) (take_through 10 bytes) ≡ line ∷ more = rw e at (rw e at behind) in
      let fewer = rw e at few in
      rw e (line_comes count room (acc ++ byte ∷ []) bytes line more goes (omega (arith, fewer)))
] refl

-- one that is not ends the script
pub line_passes : (count room : ℕ) (acc bytes : List ℕ) → room < length (take_through 10 bytes) → lines_from count room acc bytes ≡ None ∷ []
line_passes count room acc [] many = absurd (omega (arith, many))
line_passes zero room acc (byte ∷ bytes) many = refl
line_passes (suc count) zero acc (byte ∷ bytes) many = refl
line_passes (suc count) (suc room) acc (byte ∷ bytes) many = elim (byte == 10) as (λ (b : Bool). (byte == 10) ≡ b → lines_from (suc count) (suc room) acc (byte ∷ bytes) ≡ None ∷ []) [
  | true ↦ λ e. absurd (omega (arith, rw e at many))
  | false ↦ λ e. (let more = rw e at many in rw e (line_passes (suc count) room (acc ++ byte ∷ []) bytes (omega (arith, more))))
] refl

-- so does one more than may come
pub none_comes : (room : ℕ) (acc bytes : List ℕ) → (bytes ≡ [] → ⊥) → lines_from 0 room acc bytes ≡ None ∷ []
none_comes room acc [] some = absurd (some refl)
none_comes room acc (byte ∷ bytes) some = refl

-- what is read without an end is no longer than the line
through_length : (line rest : List ℕ) (n : ℕ) → n < length line → All (λ x. x ≢ 10) (take n line) → n < length (take_through 10 (line ++ rest))
through_length [] rest n within none = absurd (omega (arith, within))
through_length (byte ∷ line) rest zero within none = elim (byte == 10) as (λ (b : Bool). 0 < length (if b then byte ∷ [] else byte ∷ take_through 10 (line ++ rest))) [
  | true ↦ omega arith
  | false ↦ omega arith
]
through_length (byte ∷ line) rest (suc n) within none = elim (byte == 10) as (λ (b : Bool). (byte == 10) ≡ b → suc n < length (if b then byte ∷ [] else byte ∷ take_through 10 (line ++ rest))) [
  | true ↦ λ e. absurd (none 0 0 (omega arith) (eqb-true byte 10 e))
  | false ↦ λ e. omega (arith, through_length line rest n (omega (arith, within)) (λ k d lt. none (suc k) d (omega (arith, lt))))
] refl

whole : (xs : List ℕ) → drop 0 xs ≡ xs
whole [] = refl
whole (x ∷ xs) = refl

-- so a line of which too many bytes were read is too long
pub long_line : (before o n : Option (List ℕ)) (old new : List ℕ) (most : ℕ) → before ≡ o → old ≡ [] → Consumes before n (appended_bytes old new) → StopsAt (appended_bytes old new) 10
    → most < length new → IfSome o (λ script. most < length (take_through 10 script))
long_line before o n (x ∷ old) new most is none consumes stops many = absurd cc
long_line before None n [] new most is none consumes stops many = tt
long_line None (Some xs) n [] new most is none consumes stops many = absurd cc
long_line (Some zs) (Some xs) None [] new most is none consumes stops many = absurd consumes
long_line (Some zs) (Some xs) (Some ys) [] new most is none consumes stops many =
    let same = whole new in
    let all : All (λ x. x ≢ 10) (take (length new - 1) new) = subst (λ (l : List ℕ). StopsAt l 10) same stops in
    let reads : xs ≡ zs = same_Some xs zs (sym is) in
    let begins : xs ≡ new ++ ys = reads ∙ consumes ∙ ap (λ (l : List ℕ). l ++ ys) same in
    let more = through_length new ys (length new - 1) (omega (arith, many)) all in
    subst (λ (l : List ℕ). most < length (take_through 10 l)) (sym begins) (omega (arith, many, more))

-- nothing is read at the end alone
pub none_through : (bytes : List ℕ) → take_through 10 bytes ≡ [] → bytes ≡ []
none_through [] is = refl
none_through (byte ∷ bytes) is = elim (byte == 10) as (λ (b : Bool). (if b then byte ∷ [] else byte ∷ take_through 10 bytes) ≡ [] → byte ∷ bytes ≡ []) [
  | true ↦ λ e. absurd cc
  | false ↦ λ e. absurd cc
] is

-- what a new buffer has left is what its reader has
pub first_left : {T A : Type 0} (remaining : T → Option (List ℕ)) (buffer : BufReader T A) → reader_capacity buffer ≡ 8192 → reader_buffer buffer ≡ []
    → reader_remaining remaining buffer ≡ remaining (reader_inner buffer)
first_left remaining buffer room none =
    ap (λ (n : ℕ). if n == 0 then None else prepend_known (reader_buffer buffer) (remaining (reader_inner buffer))) room
    ∙ ap (λ (bytes : List ℕ). prepend_known bytes (remaining (reader_inner buffer))) none ∙ prepend_known-nil (remaining (reader_inner buffer))
