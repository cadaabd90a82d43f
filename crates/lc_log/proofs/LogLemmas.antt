-- The text of a log, and of a log at rest.
use Rattle.std.proofs.Common.{◌≡◌, ◌≢◌, ℕ, ◌≤◌, ◌%◌, Bool, false, subst, List, [], ◌∷◌, ◌++◌, length, slice_index, refl, sym, ◌∙◌, ap, ap₂, arith, append_assoc}
use Rattle.std.proofs.lemmas.List.{append_cancel_left}
use Rattle.std.specs.List.{AllByRecursion}
use Rattle.std.specs.Int.{w64, from_le_bytes}
use Rattle.lc_record.specs.Words.{words_of, bytes_of, AreWords}
use Rattle.lc_record.specs.Record.{spelling, IsRecord}
use Rattle.lc_record.specs.Codec.{BeginsNoRecord}
use Rattle.lc_record.specs.declared.record.Record.{Record}
use Rattle.lc_record.proofs.WordLemmas.{words_of-bytes_of, AreWords-append}
use Rattle.lc_record.proofs.SpellingLemmas.{AreWords-spelling, closed_begins_none, nothing_begins_none}
use Rattle.lc_record.proofs.RecordLemmas.{one_reading}
use Rattle.lc_log.specs.LogText.{IsWhole, IsLogText, joined}
use Rattle.lc_log.specs.NodeLog.{IsAtRest}

pub whole_record : (r : Record) → IsWhole r → IsRecord r (spelling r)
whole_record r w = record { canonical = w.canonical; short = w.short; spelled = refl }

-- behind a closed gate no record begins
rest_begins_none : (gate : ℕ) (behind : List ℕ) → gate % 256 ≢ 165 → BeginsNoRecord (words_of (gate ∷ behind))
unfolding words_of
rest_begins_none gate [] closed = nothing_begins_none
rest_begins_none gate (a ∷ []) closed = nothing_begins_none
rest_begins_none gate (a ∷ b ∷ []) closed = nothing_begins_none
rest_begins_none gate (a ∷ b ∷ c ∷ []) closed = nothing_begins_none
rest_begins_none gate (a ∷ b ∷ c ∷ d ∷ []) closed = nothing_begins_none
rest_begins_none gate (a ∷ b ∷ c ∷ d ∷ e ∷ []) closed = nothing_begins_none
rest_begins_none gate (a ∷ b ∷ c ∷ d ∷ e ∷ f ∷ []) closed = nothing_begins_none
rest_begins_none gate (a ∷ b ∷ c ∷ d ∷ e ∷ f ∷ g ∷ rest) closed =
    let low : from_le_bytes w64 (gate ∷ a ∷ b ∷ c ∷ d ∷ e ∷ f ∷ g ∷ []) % 256 ≡ gate % 256 = omega arith in
    closed_begins_none (from_le_bytes w64 (gate ∷ a ∷ b ∷ c ∷ d ∷ e ∷ f ∷ g ∷ [])) (words_of rest) (λ h. closed (sym low ∙ h))

pub joined_words : (rs : List Record) → AllByRecursion IsWhole rs → AreWords (joined rs)
joined_words [] ws = tt
joined_words (r ∷ rs) ws = AreWords-append (spelling r) (joined rs) (AreWords-spelling r ws.0.canonical ws.0.short) (joined_words rs ws.1)

-- the records, and then a closed gate
pub closed_text : (stable : List Record) (gate : ℕ) (behind : List ℕ) → AllByRecursion IsWhole stable → gate % 256 ≢ 165 → IsLogText (words_of (bytes_of (joined stable) ++ gate ∷ behind)) stable
closed_text stable gate behind whole closed = record {
  rest = words_of (gate ∷ behind);
  text = words_of-bytes_of (joined stable) (gate ∷ behind) (joined_words stable whole);
  whole = whole;
  end = rest_begins_none gate behind closed;
}

-- the words of a log at rest are the text of its stable records
pub text_at_rest : (now : List ℕ) (dirty : ℕ → Bool) (end : ℕ) (stable : List Record) → IsAtRest now dirty end stable → IsLogText (words_of now) stable
text_at_rest now dirty end stable rest = subst (λ (l : List ℕ). IsLogText (words_of l) stable) (sym rest.text) (closed_text stable rest.gate rest.behind rest.whole rest.closed)

pub joined-append : (rs qs : List Record) → joined (rs ++ qs) ≡ joined rs ++ joined qs
joined-append [] qs = refl
joined-append (r ∷ rs) qs = ap (λ (l : List ℕ). spelling r ++ l) (joined-append rs qs) ∙ sym (append_assoc (spelling r) (joined rs) (joined qs))

pub whole-append : (rs qs : List Record) → AllByRecursion IsWhole rs → AllByRecursion IsWhole qs → AllByRecursion IsWhole (rs ++ qs)
whole-append [] qs a b = b
whole-append (r ∷ rs) qs a b = (a.0, whole-append rs qs a.1 b)

-- an area whose first byte is no open gate holds no record
pub at_rest_none : (now : List ℕ) (dirty : ℕ → Bool) → 8 ≤ length now → slice_index now 0 % 256 ≢ 165 → dirty 0 ≡ false → IsAtRest now dirty 0 []
at_rest_none [] dirty long closed clean = absurd (omega arith)
at_rest_none (gate ∷ behind) dirty long closed clean = record {
  gate = gate;
  behind = behind;
  text = refl;
  closed = closed;
  whole = tt;
  size = refl;
  clean = λ k h. subst (λ (n : ℕ). dirty n ≡ false) (omega (arith, h)) clean;
}

-- no record is a prefix of another, so the rests are the same too
same_first : (r q : Record) (x y : List ℕ) → IsWhole r → IsWhole q → spelling r ++ x ≡ spelling q ++ y → (r ≡ q) × (x ≡ y)
same_first r q x y is are e =
    let same = one_reading r q (spelling r) (spelling q) x y (whole_record r is) (whole_record q are) e in
    (same.0, append_cancel_left (spelling q) x y (ap (λ (l : List ℕ). l ++ x) (sym same.1) ∙ e))

same_records : (rs qs : List Record) (x y : List ℕ) → AllByRecursion IsWhole rs → AllByRecursion IsWhole qs → BeginsNoRecord x → BeginsNoRecord y →
    joined rs ++ x ≡ joined qs ++ y → rs ≡ qs
same_records [] [] x y is are ends stops e = refl
same_records [] (q ∷ qs) x y is are ends stops e =
    absurd (ends q (spelling q) (joined qs ++ y) (whole_record q are.0) (e ∙ append_assoc (spelling q) (joined qs) y))
same_records (r ∷ rs) [] x y is are ends stops e =
    absurd (stops r (spelling r) (joined rs ++ x) (whole_record r is.0) (sym e ∙ append_assoc (spelling r) (joined rs) x))
same_records (r ∷ rs) (q ∷ qs) x y is are ends stops e =
    let parts = same_first r q (joined rs ++ x) (joined qs ++ y) is.0 are.0 (sym (append_assoc (spelling r) (joined rs) x) ∙ e ∙ append_assoc (spelling q) (joined qs) y) in
    let same : rs ≡ qs = same_records rs qs x y is.1 are.1 ends stops parts.1 in
    ap₂ (λ (a : Record) (b : List Record). a ∷ b) parts.0 same

-- a list of words is the text of one list of records at most
pub one_text-by : (words : List ℕ) (rs qs : List Record) → IsLogText words rs → IsLogText words qs → rs ≡ qs
one_text-by words rs qs is are = same_records rs qs is.rest are.rest is.whole are.whole is.end are.end (sym is.text ∙ are.text)
