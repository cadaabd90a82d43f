-- The least of pairs.
use Rattle.std.proofs.Common.{◌≡◌, ◌⊎◌, ℕ, ◌<◌, ◌≤◌, true, false, ltb, eqb, Option, Some, None, Ok, Err, refl, sym, ap, subst, inl, inr, arith, eqb-true, eq-eqb}
use Rattle.std.specs.Prelude.{◌↔◌, ◌&&◌, Result}
use Rattle.std.proofs.lemmas.Bool.{cases_Bool, cases_eq, ltb-true, ltb-false, or_cases, or_parts, and_parts}
use Rattle.lc_model.specs.Merge.{IsLeastPair}
use Rattle.lc_token.specs.Reset.{IsLeastOf, is_before, lesser}
use Rattle.lc_token.specs.declared.unclean.Unclean.{Unclean}

-- of an earlier segment, or of the same under a number that is not greater
abbrev IsUpTo : ℕ → ℕ → ℕ → ℕ → Type 0
IsUpTo segment seq other number = (segment < other) ⊎ ((segment ≡ other) × (seq ≤ number))

up_to-trans : (a b c : ℕ) (x y z : ℕ) → IsUpTo a x b y → IsUpTo b y c z → IsUpTo a x c z
up_to-trans a b c x y z one two = elim one [
  | inl less ↦ elim two [
    | inl more ↦ inl (omega (arith, less, more))
    | inr same ↦ inl (omega (arith, less, same.0))
  ]
  | inr same ↦ elim two [
    | inl more ↦ inl (omega (arith, same.0, more))
    | inr both ↦ inr (omega (arith, same.0, both.0), omega (arith, same.1, both.1))
  ]
]

before_is : (a b : Unclean) → is_before a b ≡ true → IsUpTo a.segment a.seq b.segment b.seq
before_is a b e = elim (or_cases (ltb a.segment b.segment) (eqb a.segment b.segment && ltb a.seq b.seq) e) [
  | inl less ↦ inl (ltb-true a.segment b.segment less)
  | inr same ↦
      let parts = and_parts (eqb a.segment b.segment) (ltb a.seq b.seq) same in
      let lower : a.seq < b.seq = ltb-true a.seq b.seq parts.1 in
      inr (eqb-true a.segment b.segment parts.0, omega (arith, lower))
]

-- the other is not later
other_is : (a b : Unclean) → is_before a b ≡ false → IsUpTo b.segment b.seq a.segment a.seq
other_is a b e =
    let parts = or_parts (ltb a.segment b.segment) (eqb a.segment b.segment && ltb a.seq b.seq) e in
    let not_less : b.segment ≤ a.segment = ltb-false a.segment b.segment parts.0 in
    elim (cases_eq b.segment a.segment) [
      | inl same ↦
          let joined : (eqb a.segment b.segment && ltb a.seq b.seq) ≡ false = parts.1 in
          let not_lower : ltb a.seq b.seq ≡ false = rw (eq-eqb a.segment b.segment (sym same)) at joined in
          inr (same, ltb-false a.seq b.seq not_lower)
      | inr other ↦ inl (omega (arith, not_less, other))
    ]

-- neither is later than the other
same_pair : (a b : Unclean) → IsUpTo a.segment a.seq b.segment b.seq → IsUpTo b.segment b.seq a.segment a.seq → a ≡ b
same_pair a b one two = elim one [
  | inl less ↦ elim two [
    | inl more ↦ absurd (omega (arith, less, more))
    | inr same ↦ absurd (omega (arith, less, same.0))
  ]
  | inr up ↦ elim two [
    | inl more ↦ absurd (omega (arith, up.0, more))
    | inr down ↦ (λ k. let segment : a.segment ≡ b.segment = up.0 in let seq : a.seq ≡ b.seq = omega (arith, up.1, down.1) in record { segment = segment k; seq = seq k })
  ]
]

pub lesser_none : (least : Option Unclean) → lesser least None ≡ least
lesser_none None = refl
lesser_none (Some a) = refl

-- of three it does not matter which two are looked at first
pub lesser_again : (one other last : Option Unclean) → lesser (lesser one other) last ≡ lesser one (lesser other last)
lesser_again None other last = refl
lesser_again (Some a) None last = refl
lesser_again (Some a) (Some b) None = lesser_none (lesser (Some a) (Some b))
lesser_again (Some a) (Some b) (Some c) = elim (cases_Bool (is_before b a)) [
  | inl earlier ↦ elim (cases_Bool (is_before c b)) [
    | inl least ↦ rw (earlier, least) (elim (cases_Bool (is_before c a)) [
      | inl first ↦ rw first refl
      | inr late ↦ rw late (ap Some (same_pair c a (up_to-trans c.segment b.segment a.segment c.seq b.seq a.seq (before_is c b least) (before_is b a earlier)) (other_is c a late)))
    ])
    | inr later ↦ rw (earlier, later, earlier) refl
  ]
  | inr later ↦ elim (cases_Bool (is_before c b)) [
    | inl least ↦ rw (later, least) refl
    | inr last ↦ rw (later, last, later) (elim (cases_Bool (is_before c a)) [
      | inl first ↦ rw first (ap Some (same_pair c a (before_is c a first) (up_to-trans a.segment b.segment c.segment a.seq b.seq c.seq (other_is b a later) (other_is c b last))))
      | inr late ↦ rw late refl
    ])
  ]
]

module _ (P Q : ℕ → ℕ → Type 0) where
  abbrev Both : ℕ → ℕ → Type 0
  Both segment seq = P segment seq ⊎ Q segment seq

  -- the least of either is the lesser of the least of each
  pub lesser_least : (one other : Option Unclean) → IsLeastOf P one → IsLeastOf Q other → IsLeastOf Both (lesser one other)
  lesser_least None None p q = λ segment seq such. elim such [ inl x ↦ p segment seq x | inr y ↦ q segment seq y ]
  lesser_least None (Some b) p q = record {
    is = inr q.is;
    least = λ segment seq such. elim such [ inl x ↦ absurd (p segment seq x) | inr y ↦ q.least segment seq y ];
  }
  lesser_least (Some a) None p q = record {
    is = inl p.is;
    least = λ segment seq such. elim such [ inl x ↦ p.least segment seq x | inr y ↦ absurd (q segment seq y) ];
  }
  lesser_least (Some a) (Some b) p q = elim (cases_Bool (is_before b a)) [
    | inl earlier ↦ rw earlier (record {
      is = inr q.is;
      least = λ segment seq such. elim such [
        | inl x ↦ up_to-trans b.segment a.segment segment b.seq a.seq seq (before_is b a earlier) (p.least segment seq x)
        | inr y ↦ q.least segment seq y
      ];
    })
    | inr later ↦ rw later (record {
      is = inl p.is;
      least = λ segment seq such. elim such [
        | inl x ↦ p.least segment seq x
        | inr y ↦ up_to-trans a.segment b.segment segment a.seq b.seq seq (other_is b a later) (q.least segment seq y)
      ];
    })
  ]

  -- the least of what is the same
  pub same_least : (o : Option Unclean) → ((segment seq : ℕ) → P segment seq → Q segment seq) → ((segment seq : ℕ) → Q segment seq → P segment seq) → IsLeastOf P o → IsLeastOf Q o
  same_least None to from none = λ segment seq such. none segment seq (from segment seq such)
  same_least (Some a) to from least = record {
    is = to a.segment a.seq least.is;
    least = λ segment seq such. least.least segment seq (from segment seq such);
  }

-- The answer

module _ (P : ℕ → ℕ → Type 0) where
  -- one pair is the least
  pub least_once : (segment seq other number : ℕ) → IsLeastPair P segment seq → IsLeastPair P other number → (segment ≡ other) × (seq ≡ number)
  least_once segment seq other number one two = elim (one.least other number two.is) [
    | inl less ↦ elim (two.least segment seq one.is) [ inl more ↦ absurd (omega (arith, less, more)) | inr same ↦ absurd (omega (arith, less, same.0)) ]
    | inr up ↦ elim (two.least segment seq one.is) [ inl more ↦ absurd (omega (arith, up.0, more)) | inr down ↦ (up.0, omega (arith, up.1, down.1)) ]
  ]

  -- a refusal names the least
  pub refuses : (u : Unclean) → IsLeastPair P u.segment u.seq → (segment seq : ℕ)
      → (◌≡◌ {A = Result (Unit {0}) Unclean} (Err u) (Err (record { segment = segment; seq = seq }))) ↔ IsLeastPair P segment seq
  refuses u least segment seq = (
    λ e. let its : u ≡ record { segment = segment; seq = seq } = cc in
        subst (λ (x : Unclean). IsLeastPair P x.segment x.seq) its least,
    λ other.
        let same = least_once u.segment u.seq segment seq least other in
        let Q : ℕ → ℕ → Type 0 = λ x y. ◌≡◌ {A = Result (Unit {0}) Unclean} (Err u) (Err (record { segment = x; seq = y })) in
        subst (λ (x : ℕ). Q x seq) same.0 (subst (λ (y : ℕ). Q u.segment y) same.1 refl),
  )

  -- where none is such nothing is refused
  pub allows : ((segment seq : ℕ) → P segment seq → ⊥) → (segment seq : ℕ)
      → (◌≡◌ {A = Result (Unit {0}) Unclean} (Ok tt) (Err (record { segment = segment; seq = seq }))) ↔ IsLeastPair P segment seq
  allows none segment seq = (λ e. absurd cc, λ least. absurd (none segment seq least.is))
