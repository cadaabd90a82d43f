-- Which of two slots is the page.
use Rattle.std.proofs.Common.{◌≡◌, ◌≢◌, ℕ, ◌<◌, ◌≤◌, ◌^◌, Bool, true, false, cond, leb, ltb, Option, Some, None, List, [], ◌∷◌, length, get_or, set, take, refl, sym, ◌∙◌, ap, arith}
use Rattle.std.proofs.lemmas.Bool.{ne_eqb, leb-true, le-leb, le-ltb, lt-ltb, and_parts}
use Rattle.std.proofs.lemmas.Nat.{from_le_bytes-to_le_bytes_8}
use Rattle.std.proofs.lemmas.List.{take_all}
use Rattle.lc_page.specs.declared.slot.Slot.{Slot}
use Rattle.lc_page.specs.declared.slot.Slot.TheVariants.{First, Second}
use Rattle.lc_page.specs.declared.page_text.PageText.{PageText}
use Rattle.lc_page.specs.Slot.{number_of, other, next_slot}
use Rattle.lc_page.specs.Page.{Page, has_gate, sequence_of, is_open, page_of_slot, no_page, chosen_slot, present_slot, page_at, page_of, text_of}
use Rattle.lc_page.specs.PageVector.{gate_of}
use Rattle.lc_page.specs.PageWrite.{behind_gate, alone}

-- a slot whose gate does not read as open is not open
pub shut : (slot : List ℕ) → get_or slot 0 0 ≢ 165 → is_open slot ≡ false
unfolding is_open
shut slot closed = rw (ne_eqb (get_or slot 0 0) 165 closed) refl

pub alone_open : (slot : List ℕ) → is_open slot ≡ true → alone slot ≡ page_of_slot slot
alone_open slot is = rw is refl

module _ (slots : Slot → List ℕ) where
  first_shut : (second newer : Bool) → page_at slots (chosen_slot false second newer) ≡ cond second (page_of_slot (slots Second)) no_page
  first_shut true newer = refl
  first_shut false newer = refl

  second_shut : (first newer : Bool) → page_at slots (chosen_slot first false newer) ≡ cond first (page_of_slot (slots First)) no_page
  second_shut true newer = refl
  second_shut false newer = refl

  first_not : (first second newer : Bool) → chosen_slot first second newer ≢ Some First → page_at slots (chosen_slot first second newer) ≡ cond second (page_of_slot (slots Second)) no_page
  first_not true true true h = refl
  first_not true true false h = absurd (h refl)
  first_not true false newer h = absurd (h refl)
  first_not false true newer h = refl
  first_not false false newer h = refl

  second_not : (first second newer : Bool) → chosen_slot first second newer ≢ Some Second → page_at slots (chosen_slot first second newer) ≡ cond first (page_of_slot (slots First)) no_page
  second_not true true true h = absurd (h refl)
  second_not true true false h = refl
  second_not true false newer h = refl
  second_not false true newer h = absurd (h refl)
  second_not false false newer h = refl

  newer_here : Bool
  newer_here = ltb (sequence_of (slots First)) (sequence_of (slots Second))

  -- with one slot closed, the page is that of the other
  pub only_other : (slot : Slot) → is_open (slots slot) ≡ false → page_of slots ≡ alone (slots (other slot))
  unfolding newer_here
  only_other First closed = ap (λ (b : Bool). page_at slots (chosen_slot b (is_open (slots Second)) newer_here)) closed ∙ first_shut (is_open (slots Second)) newer_here
  only_other Second closed = ap (λ (b : Bool). page_at slots (chosen_slot (is_open (slots First)) b newer_here)) closed ∙ second_shut (is_open (slots First)) newer_here

  -- and so where one slot is not the present one
  pub not_present : (slot : Slot) → present_slot slots ≢ Some slot → page_of slots ≡ alone (slots (other slot))
  unfolding newer_here
  not_present First h = first_not (is_open (slots First)) (is_open (slots Second)) newer_here h
  not_present Second h = second_not (is_open (slots First)) (is_open (slots Second)) newer_here h

  first_wins : (second newer : Bool) → (second ≡ true → newer ≡ false) → chosen_slot true second newer ≡ Some First
  first_wins true true h = absurd (let e : true ≡ false = h refl in cc)
  first_wins true false h = refl
  first_wins false newer h = refl

  second_wins : (first newer : Bool) → (first ≡ true → newer ≡ true) → chosen_slot first true newer ≡ Some Second
  second_wins true true h = refl
  second_wins true false h = absurd (let e : false ≡ true = h refl in cc)
  second_wins false newer h = refl

  -- an open slot with the greater sequence is the present one
  pub newer_wins : (slot : Slot) → is_open (slots slot) ≡ true → (alone (slots (other slot))).sequence < sequence_of (slots slot) → present_slot slots ≡ Some slot
  unfolding newer_here
  newer_wins First is below =
      ap (λ (b : Bool). chosen_slot b (is_open (slots Second)) newer_here) is
      ∙ first_wins (is_open (slots Second)) newer_here (λ e.
      let seq : (alone (slots Second)).sequence ≡ sequence_of (slots Second) = ap (λ (p : Page). p.sequence) (alone_open (slots Second) e) in
      le-ltb (sequence_of (slots First)) (sequence_of (slots Second)) (omega (arith, seq, below)))
  newer_wins Second is below =
      ap (λ (b : Bool). chosen_slot (is_open (slots First)) b newer_here) is
      ∙ second_wins (is_open (slots First)) newer_here (λ e.
      let seq : (alone (slots First)).sequence ≡ sequence_of (slots First) = ap (λ (p : Page). p.sequence) (alone_open (slots First) e) in
      lt-ltb (sequence_of (slots First)) (sequence_of (slots Second)) (omega (arith, seq, below)))

-- the next slot is not the present one
pub next_is_free : (slot : Option Slot) → slot ≢ Some (next_slot slot)
next_is_free None = λ e. absurd (cc)
next_is_free (Some First) = λ e. absurd (cc)
next_is_free (Some Second) = λ e. absurd (cc)

-- two slots in order
pub two : Slot → List ℕ → List ℕ → Slot → List ℕ
two First here there First = here
two First here there Second = there
two Second here there First = there
two Second here there Second = here

pub two_here : (slot : Slot) (here there : List ℕ) → two slot here there slot ≡ here
unfolding two
two_here First here there = refl
two_here Second here there = refl

pub two_there : (slot : Slot) (here there : List ℕ) → two slot here there (other slot) ≡ there
unfolding two
two_there First here there = refl
two_there Second here there = refl

-- what holds of one slot and of the other holds of both
pub each_slot : (P : Slot → Type 0) (slot : Slot) → P slot → P (other slot) → (s : Slot) → P s
each_slot P First here there First = here
each_slot P First here there Second = there
each_slot P Second here there First = there
each_slot P Second here there Second = here

-- the same slots, the same page
same_at : (slots others : Slot → List ℕ) (present : Option Slot) → ((slot : Slot) → slots slot ≡ others slot) → page_at slots present ≡ page_at others present
same_at slots others None h = refl
same_at slots others (Some slot) h = ap page_of_slot (h slot)

pub same_present : (slots others : Slot → List ℕ) → ((slot : Slot) → slots slot ≡ others slot) → present_slot slots ≡ present_slot others
same_present slots others h =
    ap (λ (l : List ℕ). chosen_slot (is_open l) (is_open (slots Second)) (ltb (sequence_of l) (sequence_of (slots Second)))) (h First)
    ∙ ap (λ (l : List ℕ). chosen_slot (is_open (others First)) (is_open l) (ltb (sequence_of (others First)) (sequence_of l))) (h Second)

pub same_page : (slots others : Slot → List ℕ) → ((slot : Slot) → slots slot ≡ others slot) → page_of slots ≡ page_of others
same_page slots others h = same_at slots others (present_slot slots) h ∙ ap (page_at others) (same_present slots others h)

-- a text of these parts
abbrev pub made_text : ℕ → Option Slot → Bool → Bool → PageText
made_text seq slot first second = record { seq = seq; slot = slot; gates = first ∷ second ∷ [] }

pub same_text : (slots others : Slot → List ℕ) → ((slot : Slot) → slots slot ≡ others slot) → text_of slots ≡ text_of others
same_text slots others h =
    ap (λ (n : ℕ). made_text n (present_slot slots) (has_gate (slots First)) (has_gate (slots Second))) (ap (λ (p : Page). p.sequence) (same_page slots others h))
    ∙ ap (λ (s : Option Slot). made_text (page_of others).sequence s (has_gate (slots First)) (has_gate (slots Second))) (same_present slots others h)
    ∙ ap (λ (l : List ℕ). made_text (page_of others).sequence (present_slot others) (has_gate l) (has_gate (slots Second))) (h First)
    ∙ ap (λ (l : List ℕ). made_text (page_of others).sequence (present_slot others) (has_gate (others First)) (has_gate l)) (h Second)

-- the gates of a text
pub gate_is : (slots : Slot → List ℕ) (text : PageText) → text_of slots ≡ text → (slot : Slot) → has_gate (slots slot) ≡ gate_of text slot
gate_is slots text e First = ap (λ (t : PageText). gate_of t First) e
gate_is slots text e Second = ap (λ (t : PageText). gate_of t Second) e

pub two_gates : (slots : Slot → List ℕ) (text : PageText) → text_of slots ≡ text → length text.gates ≡ 2
two_gates slots text e = sym (ap (λ (t : PageText). length t.gates) e)

pub gates_get : (slots : Slot → List ℕ) (slot : Slot) → get_or (has_gate (slots First) ∷ has_gate (slots Second) ∷ []) (number_of slot) false ≡ has_gate (slots slot)
gates_get slots First = refl
gates_get slots Second = refl

-- two slots once the page is written in one of them
pub written_gates : (gates : List Bool) (slot : Slot) (first second : Bool) → length gates ≡ 2
    → get_or (first ∷ second ∷ []) (number_of slot) false ≡ true
    → get_or (first ∷ second ∷ []) (number_of (other slot)) false ≡ get_or gates (number_of (other slot)) false
    → first ∷ second ∷ [] ≡ set gates (number_of slot) true
written_gates [] slot first second long here there = absurd (omega (arith, long))
written_gates (a ∷ []) slot first second long here there = absurd (omega (arith, long))
written_gates (a ∷ b ∷ c ∷ rest) slot first second long here there = absurd (omega (arith, long))
written_gates (a ∷ b ∷ []) First first second long here there = cc
written_gates (a ∷ b ∷ []) Second first second long here there = cc

-- a slot that was written whole is open, and has the page
pub written_open : (seq : ℕ) (bytes : List ℕ) → seq ≤ 2 ^ 60 → is_open (165 ∷ behind_gate seq bytes) ≡ true
unfolding is_open
written_open seq bytes small = ap (λ (n : ℕ). leb n (2 ^ 60)) (from_le_bytes-to_le_bytes_8 seq (omega arith)) ∙ le-leb seq (2 ^ 60) small

pub written_page : (seq : ℕ) (bytes : List ℕ) → seq ≤ 2 ^ 60 → length bytes ≡ 256 → page_of_slot (165 ∷ behind_gate seq bytes) ≡ record { sequence = seq; content = bytes }
written_page seq bytes small long =
    let of : ℕ → List ℕ → Page = λ n l. record { sequence = n; content = l } in
    ap (λ (n : ℕ). of n (take 256 bytes)) (from_le_bytes-to_le_bytes_8 seq (omega arith)) ∙ ap (λ (l : List ℕ). of seq l) (take_all 256 bytes (omega (arith, long)))

-- bounds of a page that is read

open_small : (slot : List ℕ) → is_open slot ≡ true → sequence_of slot ≤ 2 ^ 60
unfolding is_open
open_small slot e = leb-true _ _ (and_parts _ _ e).1

-- the present slot is open
first_open : (first second newer : Bool) → chosen_slot first second newer ≡ Some First → first ≡ true
first_open true second newer e = refl
first_open false true newer e = absurd (cc)
first_open false false newer e = absurd (cc)

second_open : (first second newer : Bool) → chosen_slot first second newer ≡ Some Second → second ≡ true
second_open first true newer e = refl
second_open true false newer e = absurd (cc)
second_open false false newer e = absurd (cc)

pub first_small : (first second : List ℕ) (newer : Bool) → chosen_slot (is_open first) (is_open second) newer ≡ Some First → sequence_of first ≤ 2 ^ 60
first_small first second newer e = open_small first (first_open (is_open first) (is_open second) newer e)

pub second_small : (first second : List ℕ) (newer : Bool) → chosen_slot (is_open first) (is_open second) newer ≡ Some Second → sequence_of second ≤ 2 ^ 60
second_small first second newer e = open_small second (second_open (is_open first) (is_open second) newer e)
