-- How the first gate is closed over whatever stands after it.
use Rattle.std.proofs.Common.{◌≡◌, ◌≢◌, ◌↔◌, ℕ, zero, suc, ◌<◌, ◌%◌, Bool, true, false, IsTrue, if◌then◌else◌, List, [], ◌∷◌, ◌++◌, ◌≤◌, length, slice_index, slice_index_or, slice_get, Option, Some, None, drop, refl, sym, ◌∙◌, ap, subst, inl, inr, arith}
use Rattle.std.specs.Option.{unwrap_or}
use Rattle.std.proofs.lemmas.Option.{none-some}
use Rattle.std.proofs.lemmas.Bool.{cases_eq, false≢true}
use Rattle.lc_disk.specs.Area.{IsImage, IsSameOutside, BecomeDirty, IsClean, overlaid}
use Rattle.lc_disk.proofs.Images.{image_kept}
use Rattle.lc_disk.proofs.Outside.{same_after}
use Rattle.lc_record.specs.Words.{words_of, bytes_of}
use Rattle.lc_record.specs.declared.record.Record.{Record}
use Rattle.lc_record.proofs.WordLemmas.{low_byte, words_of-eight}
use Rattle.std.specs.Int.{w64, from_le_bytes}
use Rattle.lc_log.specs.LogText.{IsLogText, joined}
use Rattle.lc_log.specs.NodeLog.{IsAtRest, IsShut, EachImage, IsWithOrWithout}
use Rattle.lc_log.proofs.LogLemmas.{closed_text}
use Rattle.lc_log.proofs.StateLemmas.{group_gate}

closed_none : (gate : ℕ) (behind : List ℕ) → gate % 256 ≢ 165 → IsLogText (words_of (gate ∷ behind)) []
closed_none gate behind closed = closed_text [] gate behind tt closed

first_of : (now : List ℕ) → 0 < length now → now ≡ slice_index now 0 ∷ drop 1 now
first_of [] long = absurd (omega arith)
first_of (x ∷ xs) long = refl

first_fits : (now : List ℕ) → ((k : ℕ) → slice_index_or now k 0 < 256) → 0 < length now → slice_index now 0 < 256
first_fits [] fits long = absurd (omega (arith, long))
first_fits (x ∷ xs) fits long = fits 0

-- an open gate is written over

module _ (now next : List ℕ) (dirty soiled : ℕ → Bool) (behind : List ℕ) (opens : now ≡ 165 ∷ behind) (same : IsSameOutside 0 1 now next) (soils : BecomeDirty 0 1 dirty soiled) where
  each_byte : (y : ℕ) (ys : List ℕ) → IsImage next soiled (y ∷ ys) → y ≡ 165 → (k : ℕ) → dirty k ≡ false → slice_index_or (y ∷ ys) k 0 ≡ slice_index_or now k 0
  each_byte y ys is e zero clean = e ∙ sym (ap (λ (l : List ℕ). slice_index_or l 0 0) opens)
  each_byte y ys is e (suc k) clean = is.stable (suc k) (soils.after (suc k) (omega arith) ∙ clean) ∙ same_after 0 1 now next same (suc k) (omega arith)

  -- an image where the gate is open is one of before
  gate_torn : (records : List Record) → EachImage now dirty (λ words. IsLogText words records) → EachImage next soiled (IsWithOrWithout [] records)
  gate_torn records before [] is = absurd (omega (arith, is.same_length, same.same_length, ap (λ (l : List ℕ). length l) opens))
  gate_torn records before (y ∷ ys) is = elim (cases_eq y 165) [
    | inl e ↦ inr (before (y ∷ ys) (record { same_length = is.same_length ∙ same.same_length; bytes = is.bytes; stable = each_byte y ys is e }))
    | inr other ↦ inl (closed_none y ys (λ z. other (omega (arith, is.bytes 0, z))))
  ]

module _ (now next : List ℕ) (dirty soiled : ℕ → Bool) where
  -- a write of no bytes touches nothing
  pub untouched : IsSameOutside 0 0 now next → BecomeDirty 0 0 dirty soiled → (next ≡ now) × ((k : ℕ) → soiled k ≡ dirty k)
  untouched same soils = (same.after, λ k. soils.after k (omega arith))

  module _ (records : List Record) (before : EachImage now dirty (λ words. IsLogText words records)) (long : 0 < length now) where
    none_written : IsSameOutside 0 0 now next → BecomeDirty 0 0 dirty soiled → EachImage next soiled (IsWithOrWithout [] records)
    none_written same soils image is =
        let still = untouched same soils in
        inr (before image (image_kept now next dirty soiled still.0 (λ k clean. still.1 k ∙ clean) image is))

    one_written : slice_index now 0 ≡ 165 → IsSameOutside 0 1 now next → BecomeDirty 0 1 dirty soiled → EachImage next soiled (IsWithOrWithout [] records)
    one_written is_open same soils = gate_torn now next dirty soiled (drop 1 now) (first_of now long ∙ ap (λ (n : ℕ). n ∷ drop 1 now) is_open) same soils records before

    -- whatever is left of the write
    pub reset_torn : (is_open : Bool) → IsTrue is_open ↔ (slice_index now 0 ≡ 165) → (bytes : List ℕ) → bytes ≡ (if is_open then 0 ∷ [] else [])
        → IsSameOutside 0 (length bytes) now next → BecomeDirty 0 (length bytes) dirty soiled → EachImage next soiled (IsWithOrWithout [] records)
    reset_torn true reads bytes one same soils =
        let size : length bytes ≡ 1 = ap (λ (l : List ℕ). length l) one in
        one_written (reads.0 refl) (subst (λ (n : ℕ). IsSameOutside 0 n now next) size same) (subst (λ (n : ℕ). BecomeDirty 0 n dirty soiled) size soils)
    reset_torn false reads bytes none same soils =
        let size : length bytes ≡ 0 = ap (λ (l : List ℕ). length l) none in
        none_written (subst (λ (n : ℕ). IsSameOutside 0 n now next) size same) (subst (λ (n : ℕ). BecomeDirty 0 n dirty soiled) size soils)

    pub reset_written : (is_open : Bool) → IsTrue is_open ↔ (slice_index now 0 ≡ 165) → (bytes : List ℕ) → bytes ≡ (if is_open then 0 ∷ [] else [])
        → IsSameOutside 0 (length bytes) now next → BecomeDirty 0 (length bytes) dirty soiled
        → ((k : ℕ) → slice_index_or now k 0 < 256) → next ≡ overlaid now 0 bytes → IsShut next soiled records
    reset_written true reads bytes one same soils fits lies = record {
      gate = 0;
      behind = drop 1 now;
      text = lies ∙ ap (λ (l : List ℕ). overlaid now 0 l) one;
      closed = λ z. absurd (omega (arith, z));
      images = reset_torn true reads bytes one same soils;
    }
    reset_written false reads bytes none same soils fits lies = record {
      gate = slice_index now 0;
      behind = drop 1 now;
      text = lies ∙ ap (λ (l : List ℕ). overlaid now 0 l) none ∙ first_of now long;
      closed = λ z. absurd (false≢true (reads.1 (omega (arith, z, first_fits now fits long))));
      images = reset_torn false reads bytes none same soils;
    }

pub reset_over : (now : List ℕ) (dirty later : ℕ → Bool) (records : List Record) → IsShut now dirty records → IsClean later → IsAtRest now later 0 []
reset_over now dirty later records shut clean = record {
  gate = shut.gate;
  behind = shut.behind;
  text = shut.text;
  closed = shut.closed;
  whole = tt;
  size = refl;
  clean = λ k _. clean k;
}

-- which gate a log at rest begins with

none_of : (records : List Record) → length (joined records) ≡ 0 → records ≡ []
none_of [] e = refl
none_of (r ∷ rs) e = absurd (omega (arith, e))

some_of : (records : List Record) → 0 < length (joined records) → 0 < length records
some_of [] h = absurd (omega (arith, h))
some_of (r ∷ rs) h = omega arith

module _ (now : List ℕ) (dirty : ℕ → Bool) (end : ℕ) (stable : List Record) (rest : IsAtRest now dirty end stable) where
  gate_of_none : end ≡ 0 → slice_index now 0 ≢ 165
  gate_of_none empty opens =
      let none : stable ≡ [] = none_of stable (rest.size ∙ empty) in
      let text : now ≡ rest.gate ∷ rest.behind = rest.text ∙ ap (λ (rs : List Record). bytes_of (joined rs) ++ rest.gate ∷ rest.behind) none in
      let same : slice_index now 0 ≡ rest.gate = ap (λ (l : List ℕ). slice_index l 0) text in
      rest.closed (omega (arith, same, opens))

  gate_of_some : 0 < end → slice_index now 0 ≡ 165
  gate_of_some full =
      let some : 0 < length stable = some_of stable (omega (arith, rest.size, full)) in
      ap (λ (l : List ℕ). slice_index l 0) (rest.text ∙ ap (λ (l : List ℕ). l ++ rest.gate ∷ rest.behind) (group_gate stable some))

  -- it is open exactly where there is a record
  pub gate_reads : (is_open : Bool) → IsTrue is_open ↔ (end ≢ 0) → IsTrue is_open ↔ (slice_index now 0 ≡ 165)
  gate_reads is_open full =
      ((λ yes. gate_of_some (omega (arith, full.0 yes))), λ opens. full.1 (λ empty. gate_of_none empty opens))

-- the low byte of the first word is the first byte
pub first_word : (bytes ws : List ℕ) → ((k : ℕ) → slice_index_or bytes k 0 < 256) → 8 ≤ length bytes → ws ≡ words_of bytes → (0 < length ws) × (slice_index ws 0 % 256 ≡ slice_index bytes 0)
first_word (a ∷ b ∷ c ∷ d ∷ e ∷ f ∷ g ∷ h ∷ rest) ws fits long is =
    let first : a < 256 = fits 0 in
    let eight : words_of (a ∷ b ∷ c ∷ d ∷ e ∷ f ∷ g ∷ h ∷ rest) ≡ from_le_bytes w64 (a ∷ b ∷ c ∷ d ∷ e ∷ f ∷ g ∷ h ∷ []) ∷ words_of rest = words_of-eight (a ∷ b ∷ c ∷ d ∷ e ∷ f ∷ g ∷ h ∷ []) rest refl in
    let some_words : 0 < length (from_le_bytes w64 (a ∷ b ∷ c ∷ d ∷ e ∷ f ∷ g ∷ h ∷ []) ∷ words_of rest) = omega arith in
    subst (λ (l : List ℕ). (0 < length l) × (slice_index l 0 % 256 ≡ a)) (sym (is ∙ eight)) (some_words, low_byte a b c d e f g h first)
first_word [] ws fits long is = absurd (omega (arith, long))
first_word (a ∷ []) ws fits long is = absurd (omega (arith, long))
first_word (a ∷ b ∷ []) ws fits long is = absurd (omega (arith, long))
first_word (a ∷ b ∷ c ∷ []) ws fits long is = absurd (omega (arith, long))
first_word (a ∷ b ∷ c ∷ d ∷ []) ws fits long is = absurd (omega (arith, long))
first_word (a ∷ b ∷ c ∷ d ∷ e ∷ []) ws fits long is = absurd (omega (arith, long))
first_word (a ∷ b ∷ c ∷ d ∷ e ∷ f ∷ []) ws fits long is = absurd (omega (arith, long))
first_word (a ∷ b ∷ c ∷ d ∷ e ∷ f ∷ g ∷ []) ws fits long is = absurd (omega (arith, long))

pub front_some : (ws : List ℕ) (w : ℕ) → 0 < length ws → slice_get ws 0 ≡ Some w → slice_index ws 0 ≡ w
front_some [] w long is = absurd (omega (arith, long))
front_some (x ∷ xs) w long is = ap (λ (o : Option ℕ). unwrap_or o x) is

pub front_none : (ws : List ℕ) → 0 < length ws → slice_get ws 0 ≡ None → ⊥
front_none [] long is = omega (arith, long)
front_none (x ∷ xs) long is = none-some x (sym is)

-- the words of an area that begins with a closed gate have no record
pub closed_words : (now : List ℕ) → 8 ≤ length now → slice_index now 0 % 256 ≢ 165 → IsLogText (words_of now) []
closed_words [] long closed = absurd (omega (arith, long))
closed_words (gate ∷ behind) long closed = closed_none gate behind closed
