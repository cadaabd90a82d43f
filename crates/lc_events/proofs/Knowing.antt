-- What a node has seen after a recovery.
use Rattle.std.proofs.Common.{◌≡◌, ℕ, ◌+◌, Bool, true, false, List, Option, Some, None, refl, sym, ap, subst, ◌∙◌, arith}
use Rattle.std.specs.Prelude.{◌%◌, ◌==◌, max, slice_get, MatchOption, option_and_then, if◌then◌else◌}
use Rattle.lc_token.specs.declared.token.Token.{Token}
use Rattle.lc_token.specs.KnownClean.{Sees, known as known_of}
use Rattle.lc_recover.specs.Recovered.{RecoveredStore, sequence_of}
use Rattle.lc_desk.specs.Fresh.{IsFreshSlot, fresh_token}
use Rattle.lc_events.specs.Fresh.{known_first}
use Rattle.lc_events.specs.NodeState.{SeesStanding}
use Rattle.lc_desk.specs.declared.segment_copy.SegmentCopy.{SegmentCopy}

max-zero : (n : ℕ) → max n 0 ≡ n
max-zero n = omega arith

pub zero-max : (n : ℕ) → max 0 n ≡ n
zero-max n = omega arith

-- the token that may stand in a fresh slot is seen, and where none stands nothing is
pub sees_fresh : {D : Type 0} (r : RecoveredStore D) (node place : ℕ) (slots : List SegmentCopy) (slot : SegmentCopy) (old new : List ℕ) → slice_get slots place ≡ Some slot → IsFreshSlot r node (place + 1) slot
    → SeesStanding (slice_get slots place) old new → (segment : ℕ)
    → known_of new segment ≡ (if segment == place + 1 then max (known_of old segment) (known_first r node (place + 1)) else known_of old segment)
sees_fresh r node place slots slot old new at fresh sees segment =
    by_token ((place + 1) % r.geometry.nodes == node)
    (subst (λ (o : Option Token). MatchOption o (new ≡ old) (λ token. Sees old token new))
    (ap (option_and_then (λ (its : SegmentCopy). its.token.token)) at ∙ ap (λ t. t.token) fresh.token) sees)
  where
    by_token : (b : Bool) → MatchOption (if b then Some (fresh_token r (place + 1)) else None) (new ≡ old) (λ token. Sees old token new)
        → known_of new segment ≡ (if segment == place + 1 then max (known_of old segment) (if b then sequence_of r (place + 1) else 0) else known_of old segment)
    by_token true saw = saw segment
    by_token false same = ap (λ (ns : List ℕ). known_of ns segment) same ∙ elim (segment == place + 1) as (λ (c : Bool). known_of old segment ≡ (if c then max (known_of old segment) 0 else known_of old segment)) [
      | true ↦ sym (max-zero (known_of old segment))
      | false ↦ refl
    ]
