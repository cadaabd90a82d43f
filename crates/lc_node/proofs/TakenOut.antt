-- What is left of a list where the first thing of each of some kinds is taken out, one kind after another.
use Rattle.std.proofs.Common.{◌≡◌, ◌≢◌, ℕ, zero, suc, ◌+◌, ◌<◌, ◌≤◌, Bool, true, false, cond, eqb, List, [], ◌∷◌, Option, Some, None, inl, inr, refl, sym, ap, subst, ◌∙◌, arith}
use Rattle.std.specs.Prelude.{position, remove, slice_get}
use Rattle.std.specs.List.{find, position_from}
use Rattle.std.proofs.lemmas.Bool.{cases_Bool, cond-true, cond-false, eq-eqb, eqb-true}
use Rattle.std.proofs.lemmas.Iterator.Adapters.{position_from-zero}
use Rattle.std.proofs.lemmas.Option.{same_Some, none-some as none_found}

-- the kinds with one more, and with one less
abbrev pub with_one : ℕ → (ℕ → Bool) → ℕ → Bool
with_one kind kinds other = cond (eqb other kind) true (kinds other)

abbrev pub with_none : ℕ → (ℕ → Bool) → ℕ → Bool
with_none kind kinds other = cond (eqb other kind) false (kinds other)

none_some : (a : ℕ) → None ≡ Some a → ⊥
none_some a e = cc

same_false : (b : Bool) → b ≡ true → b ≡ false → ⊥
same_false b holds lacks = cc

not_eqb : (a b : ℕ) → a ≢ b → eqb a b ≡ false
not_eqb a b differ = elim (cases_Bool (eqb a b)) [ inl e ↦ absurd (differ (eqb-true a b e)) | inr e ↦ e ]

is_with_one : (kind : ℕ) (kinds : ℕ → Bool) (other : ℕ) → kinds other ≡ true → with_one kind kinds other ≡ true
is_with_one kind kinds other holds = elim (cases_Bool (eqb other kind)) [ inl e ↦ cond-true (eqb other kind) true (kinds other) e | inr e ↦ cond-false (eqb other kind) true (kinds other) e ∙ holds ]

is_added : (kind : ℕ) (kinds : ℕ → Bool) (other : ℕ) → other ≡ kind → with_one kind kinds other ≡ true
is_added kind kinds other same = cond-true (eqb other kind) true (kinds other) (eq-eqb other kind same)

not_with_one : (kind : ℕ) (kinds : ℕ → Bool) (other : ℕ) → kinds other ≡ false → other ≢ kind → with_one kind kinds other ≡ false
not_with_one kind kinds other lacks differ = cond-false (eqb other kind) true (kinds other) (not_eqb other kind differ) ∙ lacks

not_with_none : (kind : ℕ) (kinds : ℕ → Bool) (other : ℕ) → kinds other ≡ false → with_none kind kinds other ≡ false
not_with_none kind kinds other lacks = elim (cases_Bool (eqb other kind)) [ inl e ↦ cond-true (eqb other kind) false (kinds other) e | inr e ↦ cond-false (eqb other kind) false (kinds other) e ∙ lacks ]

is_with_none : (kind : ℕ) (kinds : ℕ → Bool) (other : ℕ) → kinds other ≡ true → other ≢ kind → with_none kind kinds other ≡ true
is_with_none kind kinds other holds differ = cond-false (eqb other kind) false (kinds other) (not_eqb other kind differ) ∙ holds

-- it was one, and another kind
was_one : (kind : ℕ) (kinds : ℕ → Bool) (other : ℕ) → with_none kind kinds other ≡ true → (other ≢ kind) × (kinds other ≡ true)
was_one kind kinds other holds = elim (cases_Bool (eqb other kind)) [
  | inl e ↦ absurd (same_false (with_none kind kinds other) holds (cond-true (eqb other kind) false (kinds other) e))
  | inr e ↦ ((λ same. same_false (eqb other kind) (eq-eqb other kind same) e), sym (cond-false (eqb other kind) false (kinds other) e) ∙ holds)
]

-- one more and one less of different kinds
one_and_none : (kind other : ℕ) (kinds : ℕ → Bool) → kind ≢ other → (k : ℕ) → with_one kind (with_none other kinds) k ≡ with_none other (with_one kind kinds) k
one_and_none kind other kinds differ k = elim (cases_Bool (eqb k kind)) [
  | inl e ↦ cond-true (eqb k kind) true (with_none other kinds k) e
      ∙ sym (cond-false (eqb k other) false (with_one kind kinds k) (not_eqb k other (λ same. differ (sym (eqb-true k kind e) ∙ same))) ∙ cond-true (eqb k kind) true (kinds k) e)
  | inr e ↦ cond-false (eqb k kind) true (with_none other kinds k) e ∙ ap (λ (b : Bool). cond (eqb k other) false b) (sym (cond-false (eqb k kind) true (kinds k) e))
]

-- one more and less again
one_less : (kind : ℕ) (kinds : ℕ → Bool) → kinds kind ≡ false → (k : ℕ) → kinds k ≡ with_none kind (with_one kind kinds) k
one_less kind kinds lacks k = elim (cases_Bool (eqb k kind)) [
  | inl e ↦ ap kinds (eqb-true k kind e) ∙ lacks ∙ sym (cond-true (eqb k kind) false (with_one kind kinds k) e)
  | inr e ↦ sym (cond-false (eqb k kind) false (with_one kind kinds k) e ∙ cond-false (eqb k kind) true (kinds k) e)
]

-- the kinds from 1 on up to this one
abbrev pub up_to : ℕ → ℕ → Bool
up_to zero other = false
up_to (suc n) other = with_one (suc n) (up_to n) other

pub outside : (n other : ℕ) → n < other → up_to n other ≡ false
outside zero other above = refl
outside (suc n) other above = not_with_one (suc n) (up_to n) other (outside n other (omega (arith, above))) (λ same. absurd (omega (arith, above, same)))

pub inside : (n other : ℕ) → up_to n other ≡ true → (1 ≤ other) × (other ≤ n)
inside zero other is = absurd (same_false (up_to zero other) is refl)
inside (suc n) other is = elim (cases_Bool (eqb other (suc n))) [
  | inl e ↦ (let same : other ≡ suc n = eqb-true other (suc n) e in (omega (arith, same), omega (arith, same)))
  | inr e ↦ (let its = inside n other (sym (cond-false (eqb other (suc n)) true (up_to n other) e) ∙ is) in (its.0, omega (arith, its.1)))
]

pub is_inside : (n other : ℕ) → 1 ≤ other → other ≤ n → up_to n other ≡ true
is_inside zero other from within = absurd (omega (arith, from, within))
is_inside (suc n) other from within = elim (cases_Bool (eqb other (suc n))) [
  | inl e ↦ cond-true (eqb other (suc n)) true (up_to n other) e
  | inr e ↦ is_with_one (suc n) (up_to n) other (is_inside n other from (let differ : other ≢ suc n = λ same. same_false (eqb other (suc n)) (eq-eqb other (suc n) same) e in omega (arith, within, differ)))
]

module _ {A : Type 0} (kind_of : A → ℕ) where
  -- without the first of a kind
  abbrev pub without : ℕ → List A → List A
  without kind [] = []
  without kind (x ∷ xs) = cond (eqb (kind_of x) kind) xs (x ∷ without kind xs)

  -- without the first of each of these kinds
  abbrev pub left : (ℕ → Bool) → List A → List A
  left kinds [] = []
  left kinds (x ∷ xs) = cond (kinds (kind_of x)) (left (with_none (kind_of x) kinds) xs) (x ∷ left kinds xs)

  left_out : (kinds : ℕ → Bool) (x : A) (xs : List A) → kinds (kind_of x) ≡ true → left kinds (x ∷ xs) ≡ left (with_none (kind_of x) kinds) xs
  left_out kinds x xs out = cond-true (kinds (kind_of x)) (left (with_none (kind_of x) kinds) xs) (x ∷ left kinds xs) out

  left_in : (kinds : ℕ → Bool) (x : A) (xs : List A) → kinds (kind_of x) ≡ false → left kinds (x ∷ xs) ≡ x ∷ left kinds xs
  left_in kinds x xs stays = cond-false (kinds (kind_of x)) (left (with_none (kind_of x) kinds) xs) (x ∷ left kinds xs) stays

  -- where none is taken out all is left
  pub left_all : (kinds : ℕ → Bool) (xs : List A) → ((kind : ℕ) → kinds kind ≡ false) → left kinds xs ≡ xs
  left_all kinds [] none = refl
  left_all kinds (x ∷ xs) none = left_in kinds x xs (none (kind_of x)) ∙ ap (λ (l : List A). x ∷ l) (left_all kinds xs none)

  -- the first of one kind more is taken out
  pub without_left : (kind : ℕ) (kinds : ℕ → Bool) (xs : List A) → kinds kind ≡ false → without kind (left kinds xs) ≡ left (with_one kind kinds) xs
  without_left kind kinds [] lacks = refl
  without_left kind kinds (x ∷ xs) lacks = elim (cases_Bool (kinds (kind_of x))) [
    | inl out ↦ (
        let differ : kind ≢ kind_of x = λ same. same_false (kinds (kind_of x)) out (sym (ap kinds same) ∙ lacks) in
        ap (without kind) (left_out kinds x xs out)
        ∙ (without_left kind (with_none (kind_of x) kinds) xs (not_with_none (kind_of x) kinds kind lacks)
        ∙ ((λ k. left (λ other. one_and_none kind (kind_of x) kinds differ other k) xs)
        ∙ sym (left_out (with_one kind kinds) x xs (is_with_one kind kinds (kind_of x) out)))))
    | inr stays ↦ ap (without kind) (left_in kinds x xs stays) ∙ (elim (cases_Bool (eqb (kind_of x) kind)) [
      | inl same ↦ (
          let is : kind_of x ≡ kind = eqb-true (kind_of x) kind same in
          cond-true (eqb (kind_of x) kind) (left kinds xs) (x ∷ without kind (left kinds xs)) same
          ∙ ((λ k. left (λ other. one_less (kind_of x) kinds stays other k) xs)
          ∙ (ap (λ (j : ℕ). left (with_none (kind_of x) (with_one j kinds)) xs) is
          ∙ sym (left_out (with_one kind kinds) x xs (is_added kind kinds (kind_of x) is)))))
      | inr other ↦ (
          let differ : kind_of x ≢ kind = λ same. same_false (eqb (kind_of x) kind) (eq-eqb (kind_of x) kind same) other in
          cond-false (eqb (kind_of x) kind) (left kinds xs) (x ∷ without kind (left kinds xs)) other
          ∙ (ap (λ (l : List A). x ∷ l) (without_left kind kinds xs lacks)
          ∙ sym (left_in (with_one kind kinds) x xs (not_with_one kind kinds (kind_of x) stays differ))))
    ])
  ]

  -- and the first of a kind that is not taken out stays the first
  pub first_left : (kind : ℕ) (kinds : ℕ → Bool) (xs : List A) → kinds kind ≡ false → find (λ x. eqb (kind_of x) kind) (left kinds xs) ≡ find (λ x. eqb (kind_of x) kind) xs
  first_left kind kinds [] lacks = refl
  first_left kind kinds (x ∷ xs) lacks =
      let test : A → Bool = λ y. eqb (kind_of y) kind in
      elim (cases_Bool (kinds (kind_of x))) [
        | inl out ↦ (
            let differ : kind_of x ≢ kind = λ same. same_false (kinds (kind_of x)) out (ap kinds same ∙ lacks) in
            ap (find test) (left_out kinds x xs out)
            ∙ (first_left kind (with_none (kind_of x) kinds) xs (not_with_none (kind_of x) kinds kind lacks)
            ∙ sym (cond-false (eqb (kind_of x) kind) (Some x) (find test xs) (not_eqb (kind_of x) kind differ))))
        | inr stays ↦ ap (find test) (left_in kinds x xs stays) ∙ ap (λ (o : Option A). cond (eqb (kind_of x) kind) (Some x) o) (first_left kind kinds xs lacks)
      ]

  -- the thing at this place is the first of its kind, which is one of these
  pub record IsTakenOut (kinds : ℕ → Bool) (xs : List A) (place : ℕ) : Type 0 where
    pub thing : A
    pub here : slice_get xs place ≡ Some thing
    pub kind : kinds (kind_of thing) ≡ true
    pub before : (other : ℕ) (another : A) → other < place → slice_get xs other ≡ Some another → kind_of another ≢ kind_of thing

  -- the first that is left stands at the first place that is not taken out
  pub record IsFirstLeft (kinds : ℕ → Bool) (xs : List A) (y : A) : Type 0 where
    pub place : ℕ
    pub here : slice_get xs place ≡ Some y
    pub stays : IsTakenOut kinds xs place → ⊥
    pub before : (other : ℕ) → other < place → IsTakenOut kinds xs other

  at_front : (kinds : ℕ → Bool) (x : A) (xs : List A) → kinds (kind_of x) ≡ true → IsTakenOut kinds (x ∷ xs) 0
  at_front kinds x xs out = record { thing = x; here = refl; kind = out; before = λ other another less. absurd (omega (arith, less)) }

  others_before : (x : A) (xs : List A) (place : ℕ) (thing : A) → kind_of thing ≢ kind_of x
      → ((other : ℕ) (another : A) → other < place → slice_get xs other ≡ Some another → kind_of another ≢ kind_of thing)
      → (other : ℕ) (another : A) → other < suc place → slice_get (x ∷ xs) other ≡ Some another → kind_of another ≢ kind_of thing
  others_before x xs place thing differ before zero another less got = λ same. differ (sym same ∙ ap kind_of (sym (same_Some x another got)))
  others_before x xs place thing differ before (suc other) another less got = before other another (omega (arith, less)) got

  -- one place further
  further : (kinds : ℕ → Bool) (x : A) (xs : List A) (place : ℕ) → IsTakenOut (with_none (kind_of x) kinds) xs place → IsTakenOut kinds (x ∷ xs) (suc place)
  further kinds x xs place is =
      let was = was_one (kind_of x) kinds (kind_of is.thing) is.kind in record {
        thing = is.thing;
        here = is.here;
        kind = was.1;
        before = others_before x xs place is.thing was.0 is.before;
      }

  nearer : (kinds : ℕ → Bool) (x : A) (xs : List A) (place : ℕ) → IsTakenOut kinds (x ∷ xs) (suc place) → IsTakenOut (with_none (kind_of x) kinds) xs place
  nearer kinds x xs place is = record {
    thing = is.thing;
    here = is.here;
    kind = is_with_none (kind_of x) kinds (kind_of is.thing) is.kind (λ same. is.before 0 x (omega arith) refl (sym same));
    before = λ other another less got. is.before (suc other) another (omega (arith, less)) got;
  }

  all_before : (kinds : ℕ → Bool) (x : A) (xs : List A) (place : ℕ) → kinds (kind_of x) ≡ true → ((other : ℕ) → other < place → IsTakenOut (with_none (kind_of x) kinds) xs other)
      → (other : ℕ) → other < suc place → IsTakenOut kinds (x ∷ xs) other
  all_before kinds x xs place out before zero less = at_front kinds x xs out
  all_before kinds x xs place out before (suc other) less = further kinds x xs other (before other (omega (arith, less)))

  heads : (x y : A) (xs ys : List A) → x ∷ xs ≡ y ∷ ys → x ≡ y
  heads x y xs ys e = cc

  pub is_first_left : (kinds : ℕ → Bool) (xs : List A) (y : A) (ys : List A) → left kinds xs ≡ y ∷ ys → IsFirstLeft kinds xs y
  is_first_left kinds [] y ys is = absurd cc
  is_first_left kinds (x ∷ xs) y ys is = elim (cases_Bool (kinds (kind_of x))) [
    | inl out ↦ (
        let its = is_first_left (with_none (kind_of x) kinds) xs y ys (sym (left_out kinds x xs out) ∙ is) in record {
          place = suc its.place;
          here = its.here;
          stays = λ taken. its.stays (nearer kinds x xs its.place taken);
          before = all_before kinds x xs its.place out its.before;
        })
    | inr stays ↦ (
        let same : x ≡ y = heads x y (left kinds xs) ys (sym (left_in kinds x xs stays) ∙ is) in record {
          place = 0;
          here = ap Some same;
          stays = λ taken. same_false (kinds (kind_of x)) (ap (λ (z : A). kinds (kind_of z)) (same_Some x taken.thing taken.here) ∙ taken.kind) stays;
          before = λ other less. absurd (omega (arith, less));
        })
  ]

  -- the place of the first of a kind
  pub record IsPlaceOf (kind : ℕ) (xs : List A) (place : ℕ) : Type 0 where
    pub first : find (λ x. eqb (kind_of x) kind) xs ≡ slice_get xs place
    pub rest : remove xs place ≡ without kind xs

  place_from : (kind from : ℕ) (xs : List A) (place : ℕ) → position_from (λ x. eqb (kind_of x) kind) from xs ≡ Some place → (k : ℕ) × (place ≡ from + k) × IsPlaceOf kind xs k
  place_from kind from [] place is = absurd cc
  place_from kind from (x ∷ xs) place is =
      let test : A → Bool = λ y. eqb (kind_of y) kind in
      elim (cases_Bool (eqb (kind_of x) kind)) [
        | inl same ↦ (
            let here : from ≡ place = same_Some from place (sym (cond-true (eqb (kind_of x) kind) (Some from) (position_from test (from + 1) xs) same) ∙ is) in (
              0,
              omega (arith, here),
              record {
                first = cond-true (eqb (kind_of x) kind) (Some x) (find test xs) same;
                rest = sym (cond-true (eqb (kind_of x) kind) xs (x ∷ without kind xs) same);
              },
            ))
        | inr other ↦ (
            let its = place_from kind (from + 1) xs place (sym (cond-false (eqb (kind_of x) kind) (Some from) (position_from test (from + 1) xs) other) ∙ is) in (
              suc its.0,
              omega (arith, its.1),
              record {
                first = cond-false (eqb (kind_of x) kind) (Some x) (find test xs) other ∙ its.2.first;
                rest = ap (λ (l : List A). x ∷ l) its.2.rest ∙ sym (cond-false (eqb (kind_of x) kind) xs (x ∷ without kind xs) other);
              },
            ))
      ]

  none_from : (kind from : ℕ) (xs : List A) → position_from (λ x. eqb (kind_of x) kind) from xs ≡ None → find (λ x. eqb (kind_of x) kind) xs ≡ None
  none_from kind from [] is = refl
  none_from kind from (x ∷ xs) is =
      let test : A → Bool = λ y. eqb (kind_of y) kind in
      elim (cases_Bool (eqb (kind_of x) kind)) [
        | inl same ↦ absurd (none_some from (sym is ∙ cond-true (eqb (kind_of x) kind) (Some from) (position_from test (from + 1) xs) same))
        | inr other ↦ cond-false (eqb (kind_of x) kind) (Some x) (find test xs) other
            ∙ none_from kind (from + 1) xs (sym (cond-false (eqb (kind_of x) kind) (Some from) (position_from test (from + 1) xs) other) ∙ is)
      ]

  pub place_of : (kind : ℕ) (xs : List A) (place : ℕ) → position (λ x. eqb (kind_of x) kind) xs ≡ Some place → IsPlaceOf kind xs place
  place_of kind xs place is =
      let its = place_from kind 0 xs place (sym (position_from-zero (λ (x : A). eqb (kind_of x) kind) xs) ∙ is) in
      subst (IsPlaceOf kind xs) (let same : its.0 ≡ place = omega (arith, its.1) in same) its.2

  pub no_place : (kind : ℕ) (xs : List A) → position (λ x. eqb (kind_of x) kind) xs ≡ None → find (λ x. eqb (kind_of x) kind) xs ≡ None
  no_place kind xs is = none_from kind 0 xs (sym (position_from-zero (λ (x : A). eqb (kind_of x) kind) xs) ∙ is)

  -- what is found is of the kind
  pub of_kind : (kind : ℕ) (xs : List A) (y : A) → find (λ x. eqb (kind_of x) kind) xs ≡ Some y → kind_of y ≡ kind
  of_kind kind [] y is = absurd (none_found y is)
  of_kind kind (x ∷ xs) y is =
      let test : A → Bool = λ z. eqb (kind_of z) kind in
      elim (cases_Bool (eqb (kind_of x) kind)) [
        | inl same ↦ ap kind_of (sym (same_Some x y (sym (cond-true (eqb (kind_of x) kind) (Some x) (find test xs) same) ∙ is))) ∙ eqb-true (kind_of x) kind same
        | inr other ↦ of_kind kind xs y (sym (cond-false (eqb (kind_of x) kind) (Some x) (find test xs) other) ∙ is)
      ]
