-- The records that a log's words begin with, and where they stand.
use Rattle.std.proofs.Common.{◌≡◌, ℕ, zero, suc, ◌+◌, ◌≤◌, ◌<◌, ◌^◌, Bool, ltb, cond, List, [], ◌∷◌, ◌++◌, Option, Some, None, length, take, drop, refl, sym, ◌∙◌, ap, subst, inl, inr, arith, append_assoc, length-append, length-drop, take-append-drop}
use Rattle.std.specs.Prelude.{slice_get}
use Rattle.std.specs.Borrow.{Bor}
use Rattle.std.specs.Option.{option_map_or}
use Rattle.std.proofs.lemmas.Bool.{cases_Bool, ltb-true, lt-ltb}
use Rattle.std.proofs.lemmas.Option.{same_Some, none-some}
use Rattle.std.proofs.lemmas.List.{drop-drop, drop_at, take-append-le}
use Rattle.lc_record.specs.Words.{AreWords}
use Rattle.lc_record.specs.Record.{spelling, record_len, IsRecord}
use Rattle.lc_record.specs.Reading.{len_at, record_at}
use Rattle.lc_record.specs.Codec.{BeginsWith, BeginsNoRecord}
use Rattle.lc_record.specs.declared.record.Record.{Record}
use Rattle.lc_record.proofs.SpellingLemmas.{length-spelling, nothing_begins_none}
use Rattle.lc_record.proofs.ReadingLemmas.{bind_some}
use Rattle.lc_record.proofs.RecordLemmas.{Reads, len_takes, none_begins, record_length, record_some, record_words, begins_from}
use Rattle.lc_record.proofs.ListLemmas.{cases_Option as cases_option}
use Rattle.lc_log.specs.LogText.{IsLogText, joined}
use Rattle.lc_log.specs.InPlace.{spans_from, words_in_front, first_record, read_records, records_in, left_of}
use Rattle.lc_log.proofs.WalkLemmas.{begins_whole, begins_len}
use Rattle.lc_log.proofs.LogLemmas.{whole_record, one_text-by}

-- Words in front of what are none

record HasFront (ws : List ℕ) : Type 0 where
  rest : List ℕ
  split : ws ≡ words_in_front ws ++ rest
  words : AreWords (words_in_front ws)

has_front : (ws : List ℕ) → HasFront ws
has_front [] = record { rest = []; split = refl; words = tt }
has_front (w ∷ ws) = elim (cases_Bool (ltb w (2 ^ 64))) [
  | inl is ↦
      let behind = has_front ws in
      let P : List ℕ → Type 0 = λ l. (rest : List ℕ) × (w ∷ ws ≡ l ++ rest) × AreWords l in
      let made : P (cond (ltb w (2 ^ 64)) (w ∷ words_in_front ws) []) = subst (λ (b : Bool). P (cond b (w ∷ words_in_front ws) [])) (sym is) (behind.rest, ap (λ (l : List ℕ). w ∷ l) behind.split, (ltb-true w (2 ^ 64) is, behind.words)) in
      record { rest = made.0; split = made.1; words = made.2 }
  | inr none ↦
      let P : List ℕ → Type 0 = λ l. (rest : List ℕ) × (w ∷ ws ≡ l ++ rest) × AreWords l in
      let made : P (cond (ltb w (2 ^ 64)) (w ∷ words_in_front ws) []) = subst (λ (b : Bool). P (cond b (w ∷ words_in_front ws) [])) (sym none) (w ∷ ws, refl, tt) in
      record { rest = made.0; split = made.1; words = made.2 }
]

front-append : (xs ys : List ℕ) → AreWords xs → words_in_front (xs ++ ys) ≡ xs ++ words_in_front ys
front-append [] ys is = refl
front-append (x ∷ xs) ys is =
    ap (λ (b : Bool). cond b (x ∷ words_in_front (xs ++ ys)) []) (lt-ltb x (2 ^ 64) is.0)
    ∙ ap (λ (l : List ℕ). x ∷ l) (front-append xs ys is.1)

front_begins : (ws : List ℕ) (r : Record) (len : ℕ) → BeginsWith (words_in_front ws) r len → BeginsWith ws r len
front_begins ws r len b =
    let f = has_front ws in
    let front : List ℕ = words_in_front ws in
    let same : take len ws ≡ take len front = ap (λ (l : List ℕ). take len l) f.split ∙ take-append-le len front f.rest b.within in
    record {
      whole = subst (λ (l : List ℕ). IsRecord r l) (sym same) b.whole;
      within = omega (arith, b.within, ap (λ (l : List ℕ). length l) f.split, length-append front f.rest);
    }

front_begins_none : (ws : List ℕ) → BeginsNoRecord (words_in_front ws) → BeginsNoRecord ws
front_begins_none ws none r front rest is e =
    none r front (words_in_front rest) is (ap words_in_front e ∙ front-append front rest (record_words r front is))

-- The record at the front

begins_len_of : (ws : List ℕ) (r : Record) (len : ℕ) → BeginsWith ws r len → len ≡ record_len r
begins_len_of ws r len b = begins_len ws r len b ∙ length-spelling r

first_some : (ws : List ℕ) (r : Record) → first_record ws ≡ Some r → BeginsWith ws r (record_len r)
unfolding first_record
first_some ws r e =
    let front : List ℕ = words_in_front ws in
    let read = bind_some (len_at front) (λ _. record_at front) r e in
    let its : Reads front read.0 = len_takes front read.0 (has_front ws).words read.1 in
    let begins : BeginsWith front r read.0 = subst (λ (q : Record). BeginsWith front q read.0) (same_Some its.its r (sym its.is_read ∙ read.2)) its.begins in
    front_begins ws r (record_len r) (subst (λ (n : ℕ). BeginsWith front r n) (begins_len_of front r read.0 begins) begins)

first_none : (ws : List ℕ) → first_record ws ≡ None → BeginsNoRecord ws
unfolding first_record
first_none ws e =
    let front : List ℕ = words_in_front ws in
    front_begins_none ws (elim (cases_option (len_at front)) [
      | inl none ↦ none_begins front none
      | inr len ↦
          let its : Reads front len.0 = len_takes front len.0 (has_front ws).words len.1 in
          absurd (none-some its.its (sym (rw len.1 at e) ∙ its.is_read))
    ])

-- The text

begins_text : (ws : List ℕ) (r : Record) (len : ℕ) → BeginsWith ws r len → ws ≡ spelling r ++ drop len ws
begins_text ws r len b = sym (take-append-drop len ws) ∙ ap (λ (l : List ℕ). l ++ drop len ws) b.whole.spelled

text_more : (ws : List ℕ) (r : Record) (rs : List Record) → BeginsWith ws r (record_len r) → IsLogText (drop (record_len r) ws) rs → IsLogText ws (r ∷ rs)
text_more ws r rs b t = record {
  rest = t.rest;
  text = begins_text ws r (record_len r) b ∙ ap (λ (l : List ℕ). spelling r ++ l) t.text ∙ sym (append_assoc (spelling r) (joined rs) t.rest);
  whole = (begins_whole ws r (record_len r) b, t.whole);
  end = t.end;
}

text_none : (ws : List ℕ) → BeginsNoRecord ws → IsLogText ws []
text_none ws none = record { rest = ws; text = refl; whole = tt; end = none }

record_not_empty : (ws : List ℕ) (r : Record) (len : ℕ) → BeginsWith ws r len → 0 < record_len r
record_not_empty ws r len b = omega (arith, record_some r (take len ws) b.whole, record_length r (take len ws) b.whole)

read_text : (n : ℕ) (ws : List ℕ) → length ws ≤ n → IsLogText ws (read_records n ws)
unfolding read_records
read_text zero [] h = text_none [] nothing_begins_none
read_text zero (w ∷ ws) h = absurd (omega arith)
read_text (suc n) ws h =
    let P : Option Record → Type 0 = λ o. IsLogText ws (option_map_or (λ r. r ∷ read_records n (drop (record_len r) ws)) o []) in
    elim (cases_option (first_record ws)) [
      | inl none ↦ subst P (sym none) (text_none ws (first_none ws none))
      | inr r ↦
          let begins = first_some ws r.0 r.1 in
          let shorter : length (drop (record_len r.0) ws) ≤ n = omega (arith, h, length-drop (record_len r.0) ws, record_not_empty ws r.0 (record_len r.0) begins, begins.within) in
          subst P (sym r.1) (text_more ws r.0 (read_records n (drop (record_len r.0) ws)) begins (read_text n (drop (record_len r.0) ws) shorter))
    ]

-- every list of words is the text of the records that it begins with
pub records_text : (ws : List ℕ) → IsLogText ws (records_in ws)
unfolding records_in
records_text ws = read_text (length ws) ws (omega arith)

-- and of no others
pub records_are : (ws : List ℕ) (rs : List Record) → IsLogText ws rs → records_in ws ≡ rs
records_are ws rs is = one_text-by ws (records_in ws) rs (records_text ws) is

-- After the records before a place

pub left_first : (ws : List ℕ) (place : ℕ) (r : Record) → BeginsWith (drop place ws) r (record_len r)
    → spans_from place (records_in (drop place ws)) ≡ (place, record_len r) ∷ spans_from (place + record_len r) (records_in (drop (place + record_len r) ws))
left_first ws place r b =
    let behind : List ℕ = drop (place + record_len r) ws in
    let text : IsLogText (drop (record_len r) (drop place ws)) (records_in behind) = subst (λ (l : List ℕ). IsLogText l (records_in behind)) (sym (drop-drop (record_len r) place ws)) (records_text behind) in
    ap (spans_from place) (records_are (drop place ws) (r ∷ records_in behind) (text_more (drop place ws) r (records_in behind) b text))

pub left_none : (ws : List ℕ) (place : ℕ) → BeginsNoRecord (drop place ws) → spans_from place (records_in (drop place ws)) ≡ []
left_none ws place none = ap (spans_from place) (records_are (drop place ws) [] (text_none (drop place ws) none))

-- Each record stands at its place

record TextBehind (ws : List ℕ) (place : ℕ) (r : Record) (rs : List Record) : Type 0 where
  begins : BeginsWith (drop place ws) r (record_len r)
  behind : IsLogText (drop (place + record_len r) ws) rs

text_behind : (ws : List ℕ) (place : ℕ) (r : Record) (rs : List Record) → IsLogText (drop place ws) (r ∷ rs) → TextBehind ws place r rs
text_behind ws place r rs t =
    let rest : List ℕ = joined rs ++ t.rest in
    let text : drop place ws ≡ spelling r ++ rest = t.text ∙ append_assoc (spelling r) (joined rs) t.rest in
    let begins : BeginsWith (spelling r ++ rest) r (length (spelling r)) = begins_from r (spelling r) rest (whole_record r t.whole.0) in
    let its : drop (place + record_len r) ws ≡ rest = sym (drop-drop (record_len r) place ws) ∙ ap (drop (record_len r)) text ∙ drop_at (spelling r) rest (record_len r) (length-spelling r) in
    record {
      begins = subst (λ (l : List ℕ). BeginsWith l r (record_len r)) (sym text) (subst (λ (n : ℕ). BeginsWith (spelling r ++ rest) r n) (length-spelling r) begins);
      behind = record { rest = t.rest; text = its; whole = t.whole.1; end = t.end };
    }

pub span_begins : (ws : List ℕ) (place : ℕ) (rs : List Record) → IsLogText (drop place ws) rs → (i at len : ℕ) → slice_get (spans_from place rs) i ≡ Some (at, len)
    → (r : Record) × (slice_get rs i ≡ Some r) × (len ≡ record_len r) × BeginsWith (drop at ws) r (record_len r)
span_begins ws place [] t i at len is = absurd (none-some (at, len) is)
span_begins ws place (r ∷ rs) t zero at len is =
    let same : (place, record_len r) ≡ (at, len) = same_Some (place, record_len r) (at, len) is in
    (r, refl, sym (ap (λ (x : ℕ × ℕ). x.1) same), subst (λ (n : ℕ). BeginsWith (drop n ws) r (record_len r)) (ap (λ (x : ℕ × ℕ). x.0) same) (text_behind ws place r rs t).begins)
span_begins ws place (r ∷ rs) t (suc i) at len is = span_begins ws (place + record_len r) rs (text_behind ws place r rs t).behind i at len is

pub record_stands : (ws : List ℕ) (place : ℕ) (rs : List Record) → IsLogText (drop place ws) rs → (i : ℕ) (r : Record) → slice_get rs i ≡ Some r
    → (at : ℕ) × (slice_get (spans_from place rs) i ≡ Some (at, record_len r)) × BeginsWith (drop at ws) r (record_len r)
record_stands ws place [] t i r is = absurd (none-some r is)
record_stands ws place (q ∷ rs) t zero r is =
    let P : Record → Type 0 = λ x. (at : ℕ) × (◌≡◌ {A = Option (ℕ × ℕ)} (Some (place, record_len q)) (Some (at, record_len x))) × BeginsWith (drop at ws) x (record_len x) in
    subst P (same_Some q r is) (place, refl, (text_behind ws place q rs t).begins)
record_stands ws place (q ∷ rs) t (suc i) r is = record_stands ws (place + record_len q) rs (text_behind ws place q rs t).behind i r is

-- The iterator

pub yields_first : (ws : Bor (List ℕ)) (place len : ℕ) (r : Record) → BeginsWith (drop place ws.now) r (record_len r) → len ≡ record_len r
    → left_of (record { words = ws; place = place }) ≡ (place, len) ∷ left_of (record { words = ws; place = place + len })
unfolding left_of
yields_first ws place len r b is =
    subst (λ (n : ℕ). spans_from place (records_in (drop place ws.now)) ≡ (place, n) ∷ spans_from (place + n) (records_in (drop (place + n) ws.now))) (sym is) (left_first ws.now place r b)

pub yields_none : (ws : Bor (List ℕ)) (place : ℕ) → BeginsNoRecord (drop place ws.now) → left_of (record { words = ws; place = place }) ≡ []
unfolding left_of
yields_none ws place none = left_none ws.now place none
