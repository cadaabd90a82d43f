-- Of a log under its lock: what is known stays known.
use Rattle.std.proofs.Common.{◌≡◌, ℕ, zero, suc, ◌<◌, ◌≤◌, ◌==◌, max, List, [], ◌∷◌, All, get_or, inl, inr, arith}
use Rattle.std.proofs.lemmas.Bool.{cases_Bool}
use Rattle.lc_token.specs.declared.token.Token.{Token}
use Rattle.lc_token.specs.KnownClean.{known, Sees}
use Rattle.lc_token.specs.Reset.{AreKnown}

-- no number falls
pub sees-grows : (old new : List ℕ) (token : Token) → Sees old token new → (segment : ℕ) → known old segment ≤ known new segment
sees-grows old new token sees segment = let is = sees segment in elim (cases_Bool (segment == token.segment)) [
  | inl own ↦ (let e : known new segment ≡ max (known old segment) token.clean = rw own at is in omega arith)
  | inr other ↦ (let e : known new segment ≡ known old segment = rw other at is in omega arith)
]

known-grows : (old new : ℕ → ℕ) (words : List ℕ) → ((segment : ℕ) → old segment ≤ new segment) → AreKnown words old → AreKnown words new
known-grows old new words grows all = λ segment seq above.
    let more = grows segment in
    let high : new segment < seq = above.4.1 in
    all segment seq (above.0, above.1, above.2, above.3, (above.4.0, omega arith))

pub all-seen : (old new : List ℕ) (token : Token) (past : List (List ℕ)) → Sees old token new → All (λ words. AreKnown words (known old)) past → All (λ words. AreKnown words (known new)) past
all-seen old new token past sees all = λ k d within. known-grows (known old) (known new) (get_or past k d) (sees-grows old new token sees) (all k d within)

-- a list of one
pub all_alone : {X : Type 0} (P : X → Type 0) (x : X) → P x → All P (x ∷ [])
all_alone P x h zero d within = h
all_alone P x h (suc k) d within = absurd (omega arith)
