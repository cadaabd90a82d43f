-- What is known clean of segments.
use Rattle.std.proofs.Common.{◌≡◌, ℕ, ◌≤◌, eqb, List, [], ◌∷◌, All, sym, subst, inl, inr, arith, eqb-true}
use Rattle.std.proofs.Math.Nat.{max-le}
use Rattle.std.proofs.lemmas.Bool.{cases_Bool}
use Rattle.std.proofs.lemmas.List.Elements.{All-head, All-tail}
use Rattle.lc_token.specs.declared.token.Token.{Token}
use Rattle.lc_token.specs.KnownClean.{known, Sees, SeesAll, KnowsNothing}

abbrev AreWithin : (ℕ → ℕ) → List ℕ → Type 0
AreWithin clean numbers = (segment : ℕ) → known numbers segment ≤ clean segment

within-sees : (clean : ℕ → ℕ) (old new : List ℕ) (token : Token) → Sees old token new → token.clean ≤ clean token.segment → AreWithin clean old → AreWithin clean new
within-sees clean old new token sees low within segment =
    let here : known old segment ≤ clean segment = within segment in
    subst (λ (n : ℕ). n ≤ clean segment) (sym (sees segment))
    (elim (cases_Bool (eqb segment token.segment)) [
      | inl is ↦
          let own : token.clean ≤ clean segment = subst (λ (n : ℕ). token.clean ≤ clean n) (sym (eqb-true segment token.segment is)) low in
          rw is (max-le here own)
      | inr other ↦ rw other here
    ])

within-all : (clean : ℕ → ℕ) (old new : List ℕ) (tokens : List Token) → SeesAll old tokens new → All (λ t. t.clean ≤ clean t.segment) tokens → AreWithin clean old → AreWithin clean new
within-all clean old new [] sees low within = subst (AreWithin clean) (sym sees) within
within-all clean old new (token ∷ tokens) sees low within =
    let P : Token → Type 0 = λ t. t.clean ≤ clean t.segment in
    within-all clean sees.0 new tokens sees.2 (All-tail P token tokens low)
    (within-sees clean old sees.0 token sees.1 (All-head P token tokens low) within)

pub known-within : (old new : List ℕ) (tokens : List Token) (clean : ℕ → ℕ) → KnowsNothing old → SeesAll old tokens new → All (λ t. t.clean ≤ clean t.segment) tokens
    → (segment : ℕ) → known new segment ≤ clean segment
known-within old new tokens clean none sees low =
    within-all clean old new tokens sees low (λ segment. let nothing : known old segment ≡ 0 = none segment in omega (arith, nothing))
