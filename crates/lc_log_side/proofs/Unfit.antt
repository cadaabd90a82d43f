-- What a reset is refused for.
use Rattle.std.proofs.Common.{◌≡◌, ◌≢◌, ℕ, ◌+◌, ◌<◌, ◌^◌, List, [], ◌∷◌, Err, length, refl, sym, ap, subst, ◌∙◌, inl, inr, arith, true≢false}
use Rattle.std.specs.Prelude.{◌↔◌, Result}
use Rattle.lc_model.specs.Merge.{IsLeastPair}
use Rattle.lc_token.specs.KnownClean.{known}
use Rattle.lc_token.specs.Reset.{AreKnown, IsAbove}
use Rattle.lc_token.proofs.LeastLemmas.{least_once}
use Rattle.lc_log_side.specs.EndedRoom.{HasRoom}
use Rattle.lc_log_side.specs.LogView.{LogView}
use Rattle.lc_log_side.specs.Resets.{CanReset, IsReady, IsSpent, IsUnfit, IsKept, Seals}
use Rattle.lc_segments.specs.declared.node_fault.NodeFault.{NodeFault}
use Rattle.lc_segments.specs.declared.node_fault.NodeFault.TheVariants.{Unclean, RoundsSpent, Halted, Lost, DeviceFault}

pub has_some : (words : List ℕ) → words ≢ [] → 0 < length words
has_some [] some = absurd (some refl)
has_some (w ∷ words) some = omega arith

pub not_spent : (round : ℕ) → round < 2 ^ 48 → (round + 1 ≡ 2 ^ 48 → ⊥) → round + 1 < 2 ^ 48
not_spent round few not = omega (arith, few, not)

module _ {D : Type 0} (s : LogView D) where
  abbrev pub IsFirstUnclean : ℕ → ℕ → Type 0
  IsFirstUnclean segment seq = IsReady s × ¬ IsSpent s × IsLeastPair (IsAbove s.stable (known s.known)) segment seq

  pub unclean_if : (fault : NodeFault) → IsUnfit s fault → (segment seq : ℕ) → (fault ≡ Unclean segment seq) ↔ IsFirstUnclean segment seq
  unclean_if fault unfit segment seq = elim unfit [
    | inl halted ↦ (
      (λ e. absurd (let no : Halted ≡ Unclean segment seq = sym halted.0 ∙ e in cc)),
      (λ first. absurd (true≢false (sym halted.1 ∙ first.0.0))),
    )
    | inr more ↦ elim more [
      | inl spent ↦ (
        (λ e. absurd (let no : RoundsSpent ≡ Unclean segment seq = sym spent.0 ∙ e in cc)),
        (λ first. absurd (first.1 spent.2)),
      )
      | inr u ↦ (
        (λ e. let both : Unclean u.0 u.1 ≡ Unclean segment seq = sym u.2 ∙ e in
            let one : u.0 ≡ segment = cc in let other : u.1 ≡ seq = cc in
            (u.3, u.4, subst (λ (x : ℕ). IsLeastPair (IsAbove s.stable (known s.known)) x seq) one (subst (λ (y : ℕ). IsLeastPair (IsAbove s.stable (known s.known)) u.0 y) other u.5))),
        (λ first. let same = least_once (IsAbove s.stable (known s.known)) u.0 u.1 segment seq u.5 first.2 in
            u.2 ∙ (λ k. Unclean (same.0 k) (same.1 k))),
      )
    ]
  ]

  -- where it may be reset there is none
  pub none_unclean : CanReset s → (segment seq : ℕ) → IsFirstUnclean segment seq → ⊥
  none_unclean can segment seq first = can.2 segment seq first.2.is

  -- there is still room for the words of its round
  pub room_still : (t : LogView D) → HasRoom s → Seals s t → HasRoom t
  room_still t has seals = let kept : IsKept s t = seals.1 in let long : length t.ended ≡ length s.ended = ap (λ (l : List ℕ). length l) kept.5 in let most = kept.6 in let words = kept.7 in omega arith

  pub can_still : (t : LogView D) → CanReset s → Seals s t → CanReset t
  can_still t can seals = let kept : IsKept s t = seals.1 in (
    (seals.2 ∙ can.0.0, λ none. can.0.1 (sym kept.0 ∙ none)),
    (λ spent. can.1 (ap (λ (n : ℕ). n + 1) (sym kept.1) ∙ spent)),
    subst (λ (l : List ℕ). AreKnown l (known t.known)) (sym kept.0) (subst (λ (l : List ℕ). AreKnown s.stable (known l)) (sym kept.2) can.2),
  )

pub err_same : {A : Type 0} (a b : NodeFault) → ◌≡◌ {A = Result A NodeFault} (Err a) (Err b) → a ≡ b
err_same a b e = cc

pub unclean_not_lost : (segment seq seen : ℕ) → Unclean segment seq ≡ Lost seen → ⊥
unclean_not_lost segment seq seen e = absurd cc

pub unclean_not_fault : (segment seq : ℕ) → Unclean segment seq ≡ DeviceFault → ⊥
unclean_not_fault segment seq e = absurd cc
