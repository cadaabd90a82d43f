-- Records in front of a place.
use Rattle.std.proofs.Common.{◌≡◌, ℕ, zero, suc, ◌+◌, ◌/◌, ◌^◌, ◌≤◌, ◌<◌, List, [], ◌∷◌, ◌++◌, length, get_or, All, refl, sym, ap, ◌∙◌, arith, append_assoc, length-append}
use Rattle.std.specs.List.{concat}
use Rattle.std.proofs.Math.ListN.{take, drop}
use lib.ListN.{get_or-append}
use lib.Seq.{get_or-append-add}
use Rattle.std.proofs.lemmas.List.{ext_get_or, append-nil, get_or-take, get_or-drop, take-append-drop, length-take-le, length-drop, nil_from_length as no_words}
use Rattle.std.proofs.lemmas.List.Elements.{All-head, All-tail, All-append}
use Rattle.std.proofs.lemmas.List.Folds.{concat-append}
use Rattle.lc_stage.specs.Staging.{IsOneRecord, AreRecords}
use Rattle.lc_stage.proofs.Records.{some_record, header_tells}
use Rattle.lc_log_side.specs.Among.{AreInFront, IsAmong}

-- so many records are passed, and the others are to come
pub record IsPassing (words : List ℕ) (place at count : ℕ) : Type 0 where
  pub passed : List (List ℕ)
  pub coming : List (List ℕ)
  pub passed_whole : All IsOneRecord passed
  pub coming_whole : All IsOneRecord coming
  pub text : take place words ≡ concat passed ++ concat coming
  pub at_is : length (concat passed) ≡ at
  pub count_is : length passed ≡ count
  pub within : at ≤ place
  pub few : count ≤ at

pub none_passed : (words : List ℕ) (place : ℕ) → AreRecords (take place words) → IsPassing words place 0 0
none_passed words place rs = record { passed = []; coming = rs.0; passed_whole = λ k d l. absurd (omega arith); coming_whole = rs.1; text = rs.2; at_is = refl; count_is = refl; within = omega arith; few = omega arith }

abbrev pub Next : List ℕ → ℕ → ℕ → ℕ → Type 0
Next words place at count = IsPassing words place (at + get_or words at 0 / 2 ^ 32) (count + 1) × (0 < get_or words at 0 / 2 ^ 32) × (count < place)

pub one_alone : (x : List ℕ) → IsOneRecord x → All IsOneRecord (x ∷ [])
one_alone x h zero d l = h
one_alone x h (suc k) d l = absurd (omega arith)

step : (words : List ℕ) (place at count : ℕ) → place ≤ length words → at < place → count ≤ at → (passed coming : List (List ℕ)) → All IsOneRecord passed → All IsOneRecord coming
    → take place words ≡ concat passed ++ concat coming → length (concat passed) ≡ at → length passed ≡ count → Next words place at count
step words place at count fit more few passed [] whole rest text at_is count_is =
    let long = length-take-le place words fit in let same : length (take place words) ≡ length (concat passed ++ []) = ap (λ (l : List ℕ). length l) text in let n = length-append (concat passed) [] in absurd (omega arith)
step words place at count fit more few passed (x ∷ xs) whole rest text at_is count_is = let one = All-head IsOneRecord x xs rest in let some = some_record x one in
    let long = length-take-le place words fit in let same : length (take place words) ≡ length (concat passed ++ (x ++ concat xs)) = ap (λ (l : List ℕ). length l) text in let n = length-append (concat passed) (x ++ concat xs) in let m = length-append x (concat xs) in
    let header : get_or words at 0 ≡ get_or x 0 0 = sym (get_or-take place words at 0 more) ∙ (ap (λ (l : List ℕ). get_or l at 0) text ∙ (ap (λ (k : ℕ). get_or (concat passed ++ (x ++ concat xs)) k 0) (let e : at ≡ length (concat passed) + 0 = omega arith in e) ∙ (get_or-append-add (concat passed) (x ++ concat xs) 0 0 ∙ get_or-append x (concat xs) 0 0 some))) in
    let tells : get_or words at 0 / 2 ^ 32 ≡ length x = ap (λ (k : ℕ). k / 2 ^ 32) header ∙ header_tells x one in
    let last : concat (passed ++ x ∷ []) ≡ concat passed ++ x = concat-append passed (x ∷ []) ∙ ap (λ (l : List ℕ). concat passed ++ l) (append-nil x) in
    let further : length (concat (passed ++ x ∷ [])) ≡ at + length x = ap (λ (l : List ℕ). length l) last ∙ (length-append (concat passed) x ∙ ap (λ (k : ℕ). k + length x) at_is) in (
      record {
        passed = passed ++ x ∷ [];
        coming = xs;
        passed_whole = All-append IsOneRecord passed (x ∷ []) whole (one_alone x one);
        coming_whole = All-tail IsOneRecord x xs rest;
        text = text ∙ (sym (append_assoc (concat passed) x (concat xs)) ∙ ap (λ (l : List ℕ). l ++ concat xs) (sym last));
        at_is = further ∙ ap (λ (k : ℕ). at + k) (sym tells);
        count_is = length-append passed (x ∷ []) ∙ ap (λ (k : ℕ). k + 1) count_is;
        within = omega arith;
        few = omega arith;
      },
      omega arith,
      omega arith,
    )

pub one_passed : (words : List ℕ) (place at count : ℕ) → place ≤ length words → IsPassing words place at count → at < place → Next words place at count
one_passed words place at count fit p more = step words place at count fit more p.few p.passed p.coming p.passed_whole p.coming_whole p.text p.at_is p.count_is

pub all_passed : (words : List ℕ) (place at count : ℕ) → place ≤ length words → IsPassing words place at count → place ≤ at → AreInFront words place count
all_passed words place at count fit p end = let long = length-take-le place words fit in let in_range = p.within in let at_is = p.at_is in
    let same : length (take place words) ≡ length (concat p.passed ++ concat p.coming) = ap (λ (l : List ℕ). length l) p.text in let n = length-append (concat p.passed) (concat p.coming) in
    let none = no_words (concat p.coming) (omega arith) in
    (p.passed, p.passed_whole, p.text ∙ (ap (λ (l : List ℕ). concat p.passed ++ l) none ∙ append-nil (concat p.passed)), p.count_is)

-- the words of one record that stand at a place after records are those of the record with this index
pub among : (log : List ℕ) (place count : ℕ) (ws : List ℕ) → AreInFront log place count → IsOneRecord ws → place + length ws ≤ length log → ((i : ℕ) → i < length ws → get_or log (place + i) 0 ≡ get_or ws i 0) → IsAmong log count place ws
among log place count ws f one fit same = let rest : List ℕ = drop place log in let n : ℕ = length ws in let room : length rest + place ≡ length log = (let d = length-drop place log in omega arith) in
    let long = length-take-le n rest (omega arith) in
    let here : take n rest ≡ ws = ext_get_or 0 (take n rest) ws long (λ i l. let b : i < n = omega arith in get_or-take n rest i 0 b ∙ (get_or-drop place log i 0 ∙ same i b)) in record {
      front = f.0;
      behind = drop n rest;
      text = sym (take-append-drop place log) ∙ (ap (λ (l : List ℕ). l ++ rest) f.2 ∙ ap (λ (l : List ℕ). concat f.0 ++ l) (sym (take-append-drop n rest) ∙ ap (λ (l : List ℕ). l ++ drop n rest) here));
      in_front = f.1;
      one = one;
      at_index = f.3;
      at_place = ap (λ (l : List ℕ). length l) (sym f.2) ∙ length-take-le place log (omega arith);
    }
