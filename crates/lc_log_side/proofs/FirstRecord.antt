-- The first of the records that some words are, and those that are dropped one after another.
use Rattle.std.proofs.Common.{◌≡◌, ℕ, zero, suc, ◌+◌, ◌/◌, ◌^◌, ◌<◌, ◌≤◌, Bool, true, false, ◌&&◌, List, [], ◌∷◌, ◌++◌, length, take, drop, get_or, Some, All, refl, sym, ◌∙◌, ap, subst, arith, append_assoc, length-append}
use Rattle.std.specs.Prelude.{slice_get}
use Rattle.std.specs.List.{list_all}
use Rattle.std.proofs.Math.Seq.{take-append_seam, drop-append_seam}
use Rattle.std.proofs.lemmas.List.Elements.{All-head}
use Rattle.std.proofs.lemmas.Option.{same_Some as same_some}
use Rattle.lc_log.specs.LogText.{IsWhole, joined}
use Rattle.lc_log.proofs.LogLemmas.{whole_record}
use Rattle.lc_record.specs.Record.{IsRecord, spelling}
use Rattle.lc_record.specs.declared.record.Record.{Record}
use Rattle.lc_record.proofs.ListLemmas.{All-append_right as all_behind}
use Rattle.lc_record.proofs.RecordLemmas.{header_tells, record_some}
use Rattle.lc_rest.specs.Merge.{counted_by}
use Rattle.lc_log_side.specs.Trims.{AreDropped, Drops, Trims, is_due}

pub first-tells : (r : Record) (rest words : List ℕ) (n : ℕ) → IsWhole r → words ≡ spelling r ++ rest → n ≡ get_or words 0 0 / 2 ^ 32 → (0 < n) × (n ≤ length words) × (take n words ≡ spelling r) × (drop n words ≡ rest)
first-tells r rest words n whole text is =
    let one : IsRecord r (spelling r) = whole_record r whole in
    let some : 0 < length (spelling r) = record_some r (spelling r) one in
    let header : get_or words 0 0 ≡ get_or (spelling r) 0 0 = ap (λ (l : List ℕ). get_or l 0 0) text in
    let tells : n ≡ length (spelling r) = is ∙ ap (λ (k : ℕ). k / 2 ^ 32) header ∙ header_tells r (spelling r) one in
    let long : length words ≡ length (spelling r) + length rest = ap length text ∙ length-append (spelling r) rest in (
      omega (arith, tells, some),
      omega (arith, tells, long),
      ap (λ (k : ℕ). take k words) tells ∙ ap (take (length (spelling r))) text ∙ take-append_seam (spelling r) rest,
      ap (λ (k : ℕ). drop k words) tells ∙ ap (drop (length (spelling r))) text ∙ drop-append_seam (spelling r) rest,
    )

pub all_pass : {A : Type 0} (p : A → Bool) (xs : List A) → ((k : ℕ) (x : A) → slice_get xs k ≡ Some x → p x ≡ true) → list_all p xs ≡ true
all_pass p [] each = refl
all_pass p (x ∷ xs) each = ap (λ b. b && list_all p xs) (each 0 x refl) ∙ all_pass p xs (λ k y is. each (suc k) y is)

and_false : (b : Bool) → (b && false) ≡ false
and_false true = refl
and_false false = refl

pub list_all_fails : {A : Type 0} (p : A → Bool) (xs : List A) (k : ℕ) (x : A) → slice_get xs k ≡ Some x → p x ≡ false → list_all p xs ≡ false
list_all_fails p [] k x is fails = absurd cc
list_all_fails p (y ∷ xs) zero x is fails = ap (λ b. b && list_all p xs) (ap p (same_some y x is) ∙ fails)
list_all_fails p (y ∷ xs) (suc k) x is fails = ap (λ b. p y && b) (list_all_fails p xs k x is fails) ∙ and_false (p y)

pub some_at : {A : Type 0} (xs : List A) (k : ℕ) → k < length xs → (x : A) × (slice_get xs k ≡ Some x)
some_at [] k below = absurd (omega (arith, below))
some_at (x ∷ xs) zero below = (x, refl)
some_at (x ∷ xs) (suc k) below = (let less : k < length xs = omega (arith, below) in some_at xs k less)

-- One record more is dropped

dropped-more : (applied before : List ℕ) (front : List Record) (after later : List ℕ) (r : Record) → AreDropped applied before front after → is_due applied after r ≡ true → later ≡ counted_by r.locks after → AreDropped applied before (front ++ r ∷ []) later
dropped-more applied before [] after later r are due is = (subst (λ (l : List ℕ). is_due applied l r ≡ true) are due, is ∙ ap (counted_by r.locks) are)
dropped-more applied before (q ∷ front) after later r are due is = (are.0, dropped-more applied (counted_by q.locks before) front after later r are.1 due is)

pub drops-more : (applied before : List ℕ) (rs : List Record) (count : ℕ) (left after left_now after_now : List ℕ) → All IsWhole rs → Drops applied before rs count left after
    → ((r : Record) (rest : List ℕ) → IsWhole r → left ≡ spelling r ++ rest → (is_due applied after r ≡ true) × (left_now ≡ rest) × (after_now ≡ counted_by r.locks after))
    → length left_now < length left → Drops applied before rs (count + 1) left_now after_now
drops-more applied before rs count left after left_now after_now whole t step less = go t.rest refl
  where
    go : (rest : List Record) → t.rest ≡ rest → Drops applied before rs (count + 1) left_now after_now
    go [] is = absurd (let none : length left ≡ 0 = ap length (t.left_is ∙ ap joined is) in omega (arith, less, none))
    go (r ∷ rest) is =
        let parts : rs ≡ t.front ++ r ∷ rest = t.parts ∙ ap (λ (l : List Record). t.front ++ l) is in
        let own : IsWhole r = All-head IsWhole r rest (all_behind IsWhole t.front (r ∷ rest) (subst (λ (l : List Record). All IsWhole l) parts whole)) in
        let text : left ≡ spelling r ++ joined rest = t.left_is ∙ ap joined is in
        let does : (is_due applied after r ≡ true) × (left_now ≡ joined rest) × (after_now ≡ counted_by r.locks after) = step r (joined rest) own text in
        record {
          front = t.front ++ r ∷ [];
          rest = rest;
          parts = parts ∙ sym (append_assoc t.front (r ∷ []) rest);
          dropped_are = dropped-more applied before t.front after after_now r t.dropped_are does.0 does.2;
          count_is = (let one = t.count_is in let more = length-append t.front (r ∷ []) in omega (arith, one, more));
          left_is = does.1;
        }

-- none more may be, where the first record of what is left is not due
pub trims-all : (applied before : List ℕ) (rs : List Record) (count : ℕ) (left after : List ℕ) → All IsWhole rs → Drops applied before rs count left after
    → ((r : Record) (rest : List ℕ) → IsWhole r → left ≡ spelling r ++ rest → is_due applied after r ≡ false) → Trims applied before rs count left after
trims-all applied before rs count left after whole d not = record {
  drops = d;
  stays = λ r later is.
      not r (joined later) (All-head IsWhole r later (all_behind IsWhole d.front (r ∷ later) (subst (λ (l : List Record). All IsWhole (d.front ++ l)) is (subst (λ (l : List Record). All IsWhole l) d.parts whole))))
      (d.left_is ∙ ap joined is);
}
