-- The number and the source that an option has.
use Rattle.std.proofs.Common.{◌≡◌, ◌∙◌, ◌<◌, ◌^◌, ◌&&◌, ℕ, Bool, List, [], ◌∷◌, Option, Some, None, true, false, refl, sym, ap, cond, nat_lt, length}
use Rattle.std.specs.Prelude.{Result, Ok, Err, find, option_and_then, option_map}
use Rattle.std.specs.List.{list_all}
use Rattle.std.specs.Char.{digit_value}
use Rattle.std.specs.Str.Parse.{AllDigits, IsNumeral, ParsesUnsigned, digits_value, without_leading_plus}
use Rattle.std.specs.Str.{bytes_eq}
use Rattle.std.proofs.lemmas.Bool.{lt-ltb, ltb-true}
use Rattle.clap.specs.Facts.{Entry}
use Rattle.clap.specs.Walk.{row_of}
use Rattle.clap.specs.Words.{matched_of, ReadsOne, Row, Text, one_of, one_text, rows_of, without_minus}
use Rattle.clap.specs.ValueTests.{accepts, is_numeral}
use Rattle.clap.specs.declared.parser.matches.Found.{Found}
use Rattle.clap.proofs.CallerReads.{signed_reads}
use Rattle.clap.proofs.ValueTestLemmas.{accepts-Accepts}
use Rattle.clap.proofs.WalkLemmas.{both, find_row, one_text-rows}
use Rattle.lc_words.specs.CommandLine.{HasNumberIn, from_to, number_at, number_of_text}

digits_pass : (ds : List ℕ) → AllDigits 10 ds → list_all (λ d. nat_lt (digit_value d) 10) ds ≡ true
digits_pass [] h = refl
digits_pass (d ∷ ds) h = rw (lt-ltb (digit_value d) 10 h.0) (digits_pass ds h.1)

digits_from : (ds : List ℕ) → list_all (λ d. nat_lt (digit_value d) 10) ds ≡ true → AllDigits 10 ds
digits_from [] e = tt
digits_from (d ∷ ds) e =
    let parts = both _ _ e in
    (ltb-true _ _ parts.0, digits_from ds parts.1)

abbrev is_number : List ℕ → Bool
is_number ds = is_numeral ds && nat_lt (digits_value 10 ds) (2 ^ 32)

numeral_from : (ds : List ℕ) → is_number ds ≡ true → IsNumeral 10 ds × (digits_value 10 ds < 2 ^ 32)
numeral_from ds e =
    let outer = both _ _ e in
    let inner = both _ _ outer.0 in
    ((ltb-true _ _ inner.0, digits_from ds inner.1), ltb-true _ _ outer.1)

numeral_back : (ds : List ℕ) → IsNumeral 10 ds × (digits_value 10 ds < 2 ^ 32) → is_number ds ≡ true
numeral_back ds h = rw (lt-ltb 0 (length ds) h.0.0, digits_pass ds h.0.1, lt-ltb (digits_value 10 ds) (2 ^ 32) h.1) refl

text_is : (E : Type 0) (t : Text) (r : Option ℕ) → ReadsOne {T = ℕ} {E = E} (λ u x. ParsesUnsigned 32 10 u x) t r → r ≡ number_of_text t
text_is E t (Some n) h =
    let ds = without_leading_plus t in
    rw (numeral_back ds h.0, h.1) refl
text_is E t None h = go (is_number (without_leading_plus t)) refl
  where
    go : (b : Bool) → is_number (without_leading_plus t) ≡ b → None ≡ number_of_text t
    go false e = rw e refl
    go true e = absurd (h.1 (numeral_from (without_leading_plus t) e))

text_reads : (t : Text) → ReadsOne {T = ℕ} {E = ℕ} (λ u x. ParsesUnsigned 32 10 u x) t (number_of_text t)
text_reads t = go (is_number (without_leading_plus t)) refl
  where
    go : (b : Bool) → is_number (without_leading_plus t) ≡ b
        → ReadsOne {T = ℕ} {E = ℕ} (λ u x. ParsesUnsigned 32 10 u x) t (cond b (Some (digits_value 10 (without_leading_plus t))) None)
    go true e = (numeral_from (without_leading_plus t) e, refl)
    go false e = (0, λ h. let bad : true ≡ false = sym (numeral_back (without_leading_plus t) h) ∙ e in cc)

pub reads_number : (E : Type 0) (G : List ℕ → Result ℕ E → Type 0) (f : Found) (id : Text) (r : Option ℕ)
    → (one_text f id ≡ None → r ≡ None) → ((t : List ℕ) → one_text f id ≡ Some t → ReadsOne G t r)
    → ((u : List ℕ) (x : Result ℕ E) → G u x → ParsesUnsigned 32 10 u x)
    → r ≡ number_at id (rows_of f)
reads_number E G f id r none value only = go (one_text f id) refl ∙ ap (λ o. option_and_then number_of_text o) (one_text-rows f id)
  where
    weaker : (t : Text) (q : Option ℕ) → ReadsOne G t q → ReadsOne {T = ℕ} {E = E} (λ u x. ParsesUnsigned 32 10 u x) t q
    weaker t (Some n) h = only t (Ok n) h
    weaker t None h = (h.0, only t (Err h.0) h.1)

    go : (o : Option Text) → one_text f id ≡ o → r ≡ option_and_then number_of_text o
    go None e = none e
    go (Some t) e = text_is E t r (weaker t r (value t e))

-- a value that the option takes is a number in its range
pub in_range : (name v : Text) (rows : List Row) (least most : ℕ) → most < 2 ^ 32 → one_of name rows ≡ Some (without_minus v)
    → accepts false (from_to least most) v ≡ true → HasNumberIn name least most rows
in_range name v rows least most small at passed =
    let got = signed_reads ℕ (λ u x. ParsesUnsigned 32 10 u x) 32 least most v (number_of_text (without_minus v)) (text_reads (without_minus v)) (λ u x h. h) small
    (accepts-Accepts false (from_to least most) v passed) in
    record {
      number = got.0;
      read = ap (λ o. option_and_then number_of_text o) at ∙ got.1;
      not_less = got.2;
      not_more = got.3;
    }

-- where a value came from
pub source_read : (f : Found) (id : Text) → option_and_then (λ a. a.source) (matched_of f id) ≡ option_and_then (λ row. row.source) (find (λ row. bytes_eq row.id id) (rows_of f))
source_read f id = go (find (λ e. bytes_eq e.0.now id) f.entries.items) ∙ ap (option_and_then (λ (r : Row). r.source)) (sym (find_row f.entries.items id))
  where
    go : (o : Option Entry) → option_and_then (λ a. a.source) (option_map (λ e. e.1) o) ≡ option_and_then (λ row. row.source) (option_map row_of o)
    go None = refl
    go (Some e) = refl
