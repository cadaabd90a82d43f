-- What is found among entries, also where one is changed.
use Rattle.std.proofs.Common.{◌≡◌, ◌≢◌, ℕ, zero, suc, ◌<◌, Bool, true, false, cond, List, [], ◌∷◌, length, get_or, set, Option, Some, None, refl, sym, ap, subst, ◌∙◌, inl, inr, arith, get_or-set_other, get_or-set_same}
use Rattle.std.specs.Prelude.{IsTrue}
use Rattle.std.proofs.lemmas.Bool.{cases_eq, false_from_ne_true, true≢false}
use Rattle.std.proofs.lemmas.List.{length-set}
use Rattle.lc_names.specs.NameEntry.{Fits, attributes_of, is_named, is_used}
use Rattle.lc_names.specs.Table.{IsTable, attributes_among, entry_at}

pub passed : (name entry : List ℕ) (rest : Option (List ℕ)) → is_named name entry ≡ false → cond (is_named name entry) (Some (attributes_of entry)) rest ≡ rest
passed name entry rest not = ap (λ (b : Bool). cond b (Some (attributes_of entry)) rest) not

pub met : (name entry : List ℕ) (rest : Option (List ℕ)) → is_named name entry ≡ true → cond (is_named name entry) (Some (attributes_of entry)) rest ≡ Some (attributes_of entry)
met name entry rest is = ap (λ (b : Bool). cond b (Some (attributes_of entry)) rest) is

pub none_among : (name : List ℕ) (entries : List (List ℕ)) → ((k : ℕ) → k < length entries → is_named name (get_or entries k []) ≡ false) → attributes_among name entries ≡ None
none_among name [] never = refl
none_among name (entry ∷ entries) never = passed name entry (attributes_among name entries) (never 0 (omega arith)) ∙ none_among name entries (λ k l. never (suc k) (omega arith))

pub some_among : (name : List ℕ) (entries : List (List ℕ)) (k : ℕ) → k < length entries → is_named name (get_or entries k []) ≡ true
    → ((j : ℕ) → j < k → is_named name (get_or entries j []) ≡ false) → attributes_among name entries ≡ Some (attributes_of (get_or entries k []))
some_among name [] k l is first = absurd (omega arith)
some_among name (entry ∷ entries) zero l is first = met name entry (attributes_among name entries) is
some_among name (entry ∷ entries) (suc k) l is first =
    passed name entry (attributes_among name entries) (first 0 (omega arith)) ∙ some_among name entries k (omega arith) is (λ j m. first (suc j) (omega arith))

cond_none : (b : Bool) (found : List ℕ) (rest : Option (List ℕ)) → cond b (Some found) rest ≡ None → (b ≡ false) × (rest ≡ None)
cond_none true found rest h = absurd cc
cond_none false found rest h = (refl, h)

pub absent_each : (name : List ℕ) (entries : List (List ℕ)) → attributes_among name entries ≡ None → (k : ℕ) → k < length entries → is_named name (get_or entries k []) ≡ false
absent_each name [] none k l = absurd (omega arith)
absent_each name (entry ∷ entries) none zero l = (cond_none (is_named name entry) (attributes_of entry) (attributes_among name entries) none).0
absent_each name (entry ∷ entries) none (suc k) l =
    absent_each name entries (cond_none (is_named name entry) (attributes_of entry) (attributes_among name entries) none).1 k (omega arith)

-- One entry is changed

pub set_other : (name : List ℕ) (entries : List (List ℕ)) (k : ℕ) (entry : List ℕ) → is_named name entry ≡ false → is_named name (get_or entries k []) ≡ false
    → attributes_among name (set entries k entry) ≡ attributes_among name entries
set_other name [] k entry new old = refl
set_other name (x ∷ xs) zero entry new old = passed name entry (attributes_among name xs) new ∙ sym (passed name x (attributes_among name xs) old)
set_other name (x ∷ xs) (suc k) entry new old =
    ap (λ (rest : Option (List ℕ)). cond (is_named name x) (Some (attributes_of x)) rest) (set_other name xs k entry new old)

-- no entry but that at k has the name
abbrev pub IsElsewhereNot : List ℕ → List (List ℕ) → ℕ → Type 0
IsElsewhereNot name entries k = (j : ℕ) → j < length entries → j ≢ k → is_named name (get_or entries j []) ≡ false

other_entry : (name : List ℕ) (entries : List (List ℕ)) (k : ℕ) (entry : List ℕ) → IsElsewhereNot name entries k → (j : ℕ) → j < length entries → j ≢ k → is_named name (get_or (set entries k entry) j []) ≡ false
other_entry name entries k entry never j l apart = ap (λ (x : List ℕ). is_named name x) (get_or-set_other entries k j entry [] apart) ∙ never j l apart

pub set_here : (name : List ℕ) (entries : List (List ℕ)) (k : ℕ) (entry : List ℕ) → k < length entries → is_named name entry ≡ true → IsElsewhereNot name entries k
    → attributes_among name (set entries k entry) ≡ Some (attributes_of entry)
set_here name entries k entry l is never =
    let same = get_or-set_same entries k entry [] l in
    some_among name (set entries k entry) k (omega (arith, length-set entries k entry)) (ap (λ (x : List ℕ). is_named name x) same ∙ is)
    (λ j less. other_entry name entries k entry never j (omega (arith, less)) (λ e. omega (arith, e, less)))
    ∙ ap (λ (x : List ℕ). Some (attributes_of x)) same

pub set_gone : (name : List ℕ) (entries : List (List ℕ)) (k : ℕ) (entry : List ℕ) → k < length entries → is_named name entry ≡ false → IsElsewhereNot name entries k
    → attributes_among name (set entries k entry) ≡ None
set_gone name entries k entry l not never = none_among name (set entries k entry) (λ j m. elim (cases_eq j k) [
  | inl e ↦ ap (λ (i : ℕ). is_named name (get_or (set entries k entry) i [])) e ∙ (ap (λ (x : List ℕ). is_named name x) (get_or-set_same entries k entry [] l) ∙ not)
  | inr apart ↦ other_entry name entries k entry never j (omega (arith, m, length-set entries k entry)) apart
])

-- Tables

-- who has a name is the only one
pub elsewhere_not : (entries : List (List ℕ)) (name : List ℕ) (k : ℕ) → IsTable entries → k < length entries → is_named name (entry_at entries k) ≡ true → IsElsewhereNot name entries k
elsewhere_not entries name k holds l is j m apart = false_from_ne_true (is_named name (entry_at entries j)) (λ other. apart (holds.once name j k m l other is))

pub nowhere_not : (name : List ℕ) (entries : List (List ℕ)) (k : ℕ) → attributes_among name entries ≡ None → IsElsewhereNot name entries k
nowhere_not name entries k none j l apart = absent_each name entries none j l

-- a table with one entry changed is one where the entry fits and its name is in no other
module _ (entries left : List (List ℕ)) (k : ℕ) (entry : List ℕ) (l : k < length entries) (is : left ≡ set entries k entry) where
  same_length : length left ≡ length entries
  same_length = ap (λ (es : List (List ℕ)). length es) is ∙ length-set entries k entry

  at_place : entry_at left k ≡ entry
  at_place = ap (λ (es : List (List ℕ)). get_or es k []) is ∙ get_or-set_same entries k entry [] l

  at_other : (j : ℕ) → j ≢ k → entry_at left j ≡ entry_at entries j
  at_other j apart = ap (λ (es : List (List ℕ)). get_or es j []) is ∙ get_or-set_other entries k j entry [] apart

  module _ (holds : IsTable entries) (fit : IsTrue (is_used entry) → Fits entry) (alone : (name : List ℕ) → is_named name entry ≡ true → IsElsewhereNot name entries k) where
    fit_at : (j : ℕ) → j < length left → IsTrue (is_used (entry_at left j)) → Fits (entry_at left j)
    fit_at j m used = elim (cases_eq j k) [
      | inl e ↦
          let here : entry_at left j ≡ entry = ap (λ (i : ℕ). entry_at left i) e ∙ at_place in
          subst Fits (sym here) (fit (subst (λ (x : List ℕ). IsTrue (is_used x)) here used))
      | inr apart ↦ subst Fits (sym (at_other j apart)) (holds.fit j (omega (arith, m, same_length)) (subst (λ (x : List ℕ). IsTrue (is_used x)) (at_other j apart) used))
    ]

    named_there : (name : List ℕ) (j : ℕ) → j ≢ k → is_named name (entry_at left j) ≡ true → is_named name (entry_at entries j) ≡ true
    named_there name j apart named = sym (ap (λ (x : List ℕ). is_named name x) (at_other j apart)) ∙ named

    -- the changed entry and another have no name in common
    not_both : (name : List ℕ) (i j : ℕ) → i ≡ k → j ≢ k → j < length left → is_named name (entry_at left i) ≡ true → is_named name (entry_at left j) ≡ true → ⊥
    not_both name i j here apart m one two =
        true≢false (sym (named_there name j apart two)
        ∙ alone name (sym (ap (λ (x : List ℕ). is_named name x) (ap (λ (n : ℕ). entry_at left n) here ∙ at_place)) ∙ one) j (omega (arith, m, same_length)) apart)

    once_at : (name : List ℕ) (i j : ℕ) → i < length left → j < length left → is_named name (entry_at left i) ≡ true → is_named name (entry_at left j) ≡ true → i ≡ j
    once_at name i j m n one two = elim (cases_eq i k) [
      | inl here ↦ elim (cases_eq j k) [
        | inl too ↦ here ∙ sym too
        | inr apart ↦ absurd (not_both name i j here apart n one two)
      ]
      | inr apart ↦ elim (cases_eq j k) [
        | inl here ↦ absurd (not_both name j i here apart m two one)
        | inr too ↦ holds.once name i j (omega (arith, m, same_length)) (omega (arith, n, same_length)) (named_there name i apart one) (named_there name j too two)
      ]
    ]

    pub holds_left : IsTable left
    holds_left = record { fit = fit_at; once = once_at }
