-- The least segment that cannot be locked.
use Rattle.std.proofs.Common.{◌≡◌, ◌⊎◌, ℕ, ◌<◌, ◌≤◌, min, true, List, [], ◌∷◌, ◌++◌, Option, refl, sym, ap, subst, ◌∙◌, inl, inr, arith}
use Rattle.std.specs.Prelude.{◌↔◌, None, Some}
use Rattle.std.proofs.lemmas.Bool.{cases_lt, or_left, or_right}
use Rattle.lc_record.specs.Transaction.{is_member}
use Rattle.lc_record.proofs.LockLemmas.{member_left}
use Rattle.lc_tx.specs.Images.{IsFirstTaken, IsLockable}
use Rattle.lc_tx.specs.Locking.{CanLock, IsLeastShut, lesser}
use Rattle.lc_tx.specs.declared.images.Images.{Ghosts}
use Rattle.lc_tx.specs.declared.lock_mode.LockMode.{LockMode}
use Rattle.lc_tx.specs.declared.lock_mode.LockMode.TheVariants.{Exclusive, Shared}
use Rattle.lc_tx.proofs.MemberLemmas.{member_last, member_push}

module _ {I : Type 0} (m : Ghosts I) where
  pub shut_none : (mode : LockMode) (images : I) (xs : List ℕ) (x : ℕ) (first : Option ℕ) → IsLeastShut m mode images xs first → CanLock m mode images x → IsLeastShut m mode images (xs ++ x ∷ []) first
  shut_none mode images xs x None all can = λ s e. elim (member_push s x xs e) [
    | inl early ↦ all s early
    | inr same ↦ subst (λ (n : ℕ). CanLock m mode images n) same can
  ]
  shut_none mode images xs x (Some first) is can = (
    member_left first xs (x ∷ []) is.0,
    is.1,
    λ s e less. elim (member_push s x xs e) [ inl early ↦ is.2 s early less | inr same ↦ subst (λ (n : ℕ). CanLock m mode images n) same can ],
  )

  pub shut_more : (mode : LockMode) (images : I) (xs : List ℕ) (x : ℕ) (first : Option ℕ) → IsLeastShut m mode images xs first → (CanLock m mode images x → ⊥)
      → IsLeastShut m mode images (xs ++ x ∷ []) (lesser first (Some x))
  shut_more mode images xs x None all shut = (
    member_last x xs,
    shut,
    λ s e less. elim (member_push s x xs e) [ inl early ↦ all s early | inr same ↦ absurd (omega (arith, same, less)) ],
  )
  shut_more mode images xs x (Some first) is shut = elim (cases_lt x first) [
    | inl less ↦ subst (λ (n : ℕ). IsLeastShut m mode images (xs ++ x ∷ []) (Some n)) (sym (right first x less)) (
      member_last x xs,
      shut,
      λ s e below. elim (member_push s x xs e) [ inl early ↦ is.2 s early (omega (arith, below, less)) | inr same ↦ absurd (omega (arith, same, below)) ],
    )
    | inr most ↦ subst (λ (n : ℕ). IsLeastShut m mode images (xs ++ x ∷ []) (Some n)) (sym (left first x most)) (
      member_left first xs (x ∷ []) is.0,
      is.1,
      λ s e below. elim (member_push s x xs e) [ inl early ↦ is.2 s early below | inr same ↦ absurd (omega (arith, same, below, most)) ],
    )
  ]
    where
      right : (a b : ℕ) → b < a → min a b ≡ b
      right a b less = omega arith

      left : (a b : ℕ) → a ≤ b → min a b ≡ a
      left a b less = omega arith

  module _ (images : I) (segments reading : List ℕ) where
    all_lockable : ((s : ℕ) → is_member s segments ≡ true → CanLock m Exclusive images s) → ((s : ℕ) → is_member s reading ≡ true → CanLock m Shared images s) → (s : ℕ) → IsLockable m images segments reading s
    all_lockable one two s = record { for_writing = one s; for_reading = two s }

    pub all : (one two : Option ℕ) → IsLeastShut m Exclusive images segments one → IsLeastShut m Shared images reading two → lesser one two ≡ None
        → (s : ℕ) → IsLockable m images segments reading s
    all None None is also e s = all_lockable is also s
    all None (Some b) is also e s = absurd cc
    all (Some a) None is also e s = absurd cc
    all (Some a) (Some b) is also e s = absurd cc

    -- the least of those that are to be written, and the least of those that are to be read
    pub taken : (one two : Option ℕ) → IsLeastShut m Exclusive images segments one → IsLeastShut m Shared images reading two → (s : ℕ)
        → (lesser one two ≡ Some s) ↔ IsFirstTaken m images segments reading s
    taken one two is also s = (first one two is also s, found one two is also s)
      where
        first : (one two : Option ℕ) → IsLeastShut m Exclusive images segments one → IsLeastShut m Shared images reading two → (s : ℕ)
            → lesser one two ≡ Some s → IsFirstTaken m images segments reading s
        first None None is also s e = absurd cc
        first None (Some b) is also s e = let same : b ≡ s = cc in subst (λ (n : ℕ). IsFirstTaken m images segments reading n) same (record {
          member = or_right (is_member b segments) (is_member b reading) also.0;
          taken = λ can. also.1 (can.for_reading also.0);
          least = λ other less. record { for_writing = is other; for_reading = λ member. also.2 other member less };
        })
        first (Some a) None is also s e = let same : a ≡ s = cc in subst (λ (n : ℕ). IsFirstTaken m images segments reading n) same (record {
          member = or_left (is_member a segments) (is_member a reading) is.0;
          taken = λ can. is.1 (can.for_writing is.0);
          least = λ other less. record { for_writing = λ member. is.2 other member less; for_reading = also other };
        })
        first (Some a) (Some b) is also s e = let same : min a b ≡ s = cc in elim (cases_lt a b) [
          | inl less ↦ let at : a ≡ s = omega (arith, same, less) in subst (λ (n : ℕ). IsFirstTaken m images segments reading n) at (record {
            member = or_left (is_member a segments) (is_member a reading) is.0;
            taken = λ can. is.1 (can.for_writing is.0);
            least = λ other below. record { for_writing = λ member. is.2 other member below; for_reading = λ member. also.2 other member (omega (arith, below, less)) };
          })
          | inr most ↦ let at : b ≡ s = omega (arith, same, most) in subst (λ (n : ℕ). IsFirstTaken m images segments reading n) at (record {
            member = or_right (is_member b segments) (is_member b reading) also.0;
            taken = λ can. also.1 (can.for_reading also.0);
            least = λ other below. record { for_writing = λ member. is.2 other member (omega (arith, below, most)); for_reading = λ member. also.2 other member below };
          })
        ]

        -- there is one, and no other
        found : (one two : Option ℕ) → IsLeastShut m Exclusive images segments one → IsLeastShut m Shared images reading two → (s : ℕ)
            → IsFirstTaken m images segments reading s → lesser one two ≡ Some s
        found one two is also s it = elim (some_or_none (lesser one two)) [
          | inl some ↦ some.1 ∙ ap (λ (n : ℕ). Some n) (one_first some.0 s (first one two is also some.0 some.1) it)
          | inr none ↦ absurd (it.taken (all one two is also none s))
        ]
          where
            some_or_none : (o : Option ℕ) → ((n : ℕ) × (o ≡ Some n)) ⊎ (o ≡ None)
            some_or_none None = inr refl
            some_or_none (Some n) = inl (n, refl)

            one_first : (a b : ℕ) → IsFirstTaken m images segments reading a → IsFirstTaken m images segments reading b → a ≡ b
            one_first a b first second = elim (cases_lt a b) [
              | inl less ↦ absurd (first.taken (second.least a less))
              | inr most ↦ elim (cases_lt b a) [ inl less ↦ absurd (second.taken (first.least b less)) | inr least ↦ omega (arith, most, least) ]
            ]
