-- What can be decided, and the least of what can.
use Rattle.std.proofs.Common.{◌≡◌, ◌⊎◌, ℕ, zero, suc, ◌<◌, ◌≤◌, true, false, ◌==◌, List, [], ◌∷◌, length, get_or, Contains, refl, sym, ◌∙◌, subst, arith, inl, inr, true≢false, eqb-true, eq-eqb}
use Rattle.std.proofs.lemmas.Bool.{cases_lt}
use Rattle.std.proofs.lemmas.List.Elements.{Contains-append_right}
use Rattle.lc_model.specs.Merge.{IsLeast, IsLeastPair}

abbrev pub Either : Type 0 → Type 0
Either P = P ⊎ (P → ⊥)

pub in-list : {X : Type 0} (Such : X → Type 0) (xs : List X) → ((x : X) → Either (Such x)) → Either ((x : X) × Contains xs x × Such x)
in-list Such [] decide = inr (λ found. absurd (omega (arith, found.1.1)))
in-list {X} Such (x ∷ xs) decide =
    elim (decide x) [
      | inl is ↦ inl (x, (0, (omega arith), refl), is)
      | inr is_not ↦
          (elim (in-list Such xs decide) [
            | inl found ↦ inl (found.0, Contains-append_right (x ∷ []) xs found.0 found.1, found.2)
            | inr none ↦ inr (λ found. at found.0 found.1.0 found.1.1 found.1.2 found.2 is_not none)
          ])
    ]
  where
    at : (y : X) (k : ℕ) → k < length (x ∷ xs) → get_or (x ∷ xs) k y ≡ y → Such y → (Such x → ⊥) → ((z : X) × Contains xs z × Such z → ⊥) → ⊥
    at y zero within same is is_not none = is_not (subst Such (sym same) is)
    at y (suc k) within same is is_not none =
        let behind : k < length xs = omega arith in
        none (y, (k, behind, same), is)

-- the least below a bound
pub least-found : (Such : ℕ → Type 0) (n : ℕ) → ((k : ℕ) → Either (Such k)) → ((k : ℕ) → Such k → k < n) → ((m : ℕ) × IsLeast Such m) ⊎ ((k : ℕ) → Such k → ⊥)
least-found Such n decide below =
    elim (up_to n) [
      | inl found ↦ inl found
      | inr none ↦ inr (λ k is. none k (below k is) is)
    ]
  where
    up_to : (j : ℕ) → ((m : ℕ) × IsLeast Such m) ⊎ ((k : ℕ) → k < j → Such k → ⊥)
    up_to zero = inr (λ k less is. absurd (omega (arith, less)))
    up_to (suc j) =
        elim (up_to j) [
          | inl found ↦ inl found
          | inr none ↦
              (elim (decide j) [
                | inl is ↦
                    inl (
                      j,
                      record {
                        is = is;
                        least = λ other has. (elim (cases_lt other j) [ inl less ↦ absurd (none other less has) | inr least ↦ least ]);
                      },
                    )
                | inr is_not ↦
                    inr (λ k less is. (elim (cases_lt k j) [
                      | inl before ↦ none k before is
                      | inr after ↦ (let same : k ≡ j = omega (arith, less, after) in is_not (subst Such same is))
                    ]))
              ])
        ]

-- the least pair, with a bound for the segments, and for each a bound for the numbers
pub least_pair-found : (Such : ℕ → ℕ → Type 0) (n : ℕ) (most : ℕ → ℕ) → ((segment seq : ℕ) → Either (Such segment seq)) → ((segment seq : ℕ) → Such segment seq → segment < n) → ((segment seq : ℕ) → Such segment seq → seq < most segment) → ((segment : ℕ) × (seq : ℕ) × IsLeastPair Such segment seq) ⊎ ((segment seq : ℕ) → Such segment seq → ⊥)
least_pair-found Such n most decide few small =
    let Has : ℕ → Type 0 = λ segment. (seq : ℕ) × Such segment seq in
    let number : (segment : ℕ) → ((m : ℕ) × IsLeast (Such segment) m) ⊎ ((k : ℕ) → Such segment k → ⊥) =
    λ segment. least-found (Such segment) (most segment) (decide segment) (small segment) in
    let has : (segment : ℕ) → Either ((seq : ℕ) × Such segment seq) =
    λ segment. (elim (number segment) [
      | inl found ↦ inl (found.0, found.1.is)
      | inr none ↦ inr (λ one. none one.0 one.1)
    ]) in
    elim (least-found Has n has (λ segment one. few segment one.0 one.1)) [
      | inl first ↦
          (elim (number first.0) [
            | inl found ↦
                inl (
                  first.0,
                  found.0,
                  record {
                    is = found.1.is;
                    least = λ other seq such.
                        (let before : first.0 ≤ other = first.1.least other (seq, such) in
                        elim (cases_lt first.0 other) [
                          | inl less ↦ inl less
                          | inr not_less ↦
                              let same : first.0 ≡ other = omega (arith, before, not_less) in
                              inr (same, found.1.least seq (subst (λ (s : ℕ). Such s seq) (sym same) such))
                        ]);
                  },
                )
            | inr none ↦ absurd (none first.1.is.0 first.1.is.1)
          ])
      | inr none ↦ inr (λ segment seq such. none segment (seq, such))
    ]

pub either-less : (a b : ℕ) → Either (a < b)
either-less a b =
    elim (cases_lt a b) [
      | inl less ↦ inl less
      | inr not_less ↦ inr (λ less. absurd (omega (arith, less, not_less)))
    ]

pub either-at_most : (a b : ℕ) → Either (a ≤ b)
either-at_most a b =
    elim (cases_lt b a) [
      | inl more ↦ inr (λ most. absurd (omega (arith, more, most)))
      | inr most ↦ inl most
    ]

pub either-same : (a b : ℕ) → Either (a ≡ b)
either-same a b =
    elim (a == b) as (λ c. (a == b) ≡ c → Either (a ≡ b)) [
      | true ↦ λ e. inl (eqb-true a b e)
      | false ↦ λ e. inr (λ same. true≢false (sym (eq-eqb a b same) ∙ e))
    ] refl

pub either-not : {P : Type 0} → Either P → Either (P → ⊥)
either-not decided = elim decided [ inl is ↦ inr (λ is_not. is_not is) | inr is_not ↦ inl is_not ]

pub either-both : {P Q : Type 0} → Either P → Either Q → Either (P × Q)
either-both first second =
    elim first [
      | inl one ↦ (elim second [ inl two ↦ inl (one, two) | inr none ↦ inr (λ both. none both.1) ])
      | inr none ↦ inr (λ both. none both.0)
    ]

pub either-three : {P Q R : Type 0} → Either P → Either Q → Either R → Either (P × Q × R)
either-three first second third =
    elim first [
      | inl one ↦
          (elim second [
            | inl two ↦ (elim third [ inl three ↦ inl (one, two, three) | inr none ↦ inr (λ all. none all.2) ])
            | inr none ↦ inr (λ all. none all.1)
          ])
      | inr none ↦ inr (λ all. none all.0)
    ]

pub either-one : {P Q : Type 0} → Either P → Either Q → Either (P ⊎ Q)
either-one first second =
    elim first [
      | inl one ↦ inl (inl one)
      | inr none ↦
          (elim second [
            | inl two ↦ inl (inr two)
            | inr no_other ↦ inr (λ one. (elim one [ inl a ↦ none a | inr b ↦ no_other b ]))
          ])
    ]
