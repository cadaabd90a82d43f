-- A step of a recovery leaves each area as honest as it was.
use Rattle.std.proofs.Common.{◌≡◌, ◌⊎◌, ℕ, ◌+◌, Bool, true, List, sym, ◌∙◌, ap, subst, inl, inr}
use Rattle.std.specs.Prelude.{slice_get}
use Rattle.std.proofs.lemmas.Bool.{cases_eq}
use Rattle.std.proofs.lemmas.Option.{same_Some as one_item}
use Rattle.lc_disk.specs.declared.area.Area.{Ghosts}
use Rattle.lc_recover.specs.Reads.{AreHonest}
use Rattle.lc_recover.specs.Recovery.{Recovering, IsMergeNext, MakesItsCall}
use Rattle.lc_recover.specs.RecoveryPhase.{OneCall}
use Rattle.lc_recover.specs.Steps.{first_steps}
use Rattle.lc_recover.proofs.AreaLemmas.{each-set, set-get, set-others}

module _ {D : Type 0} (a : Ghosts D) where
  -- all are honest before and after, or neither
  abbrev pub AsHonest : List D → List D → Type 0
  AsHonest olds news = (AreHonest a olds → AreHonest a news) × (AreHonest a news → AreHonest a olds)

  call-honest : (at : ℕ) (olds news : List D) (ok : Bool) → OneCall a at olds news ok → AsHonest olds news
  call-honest at olds news ok call =
      subst (λ (l : List D). AsHonest olds l) (sym call.is) (
        λ honest. each-set (λ j area. a.honest area ≡ true) olds at call.new (λ j area differ is. honest j area is) (call.honest ∙ honest at call.old call.was),
        λ honest j area is.
            elim (cases_eq j at) [
              | inl here ↦
                  let same : area ≡ call.old = one_item area call.old (sym is ∙ ap (slice_get olds) here ∙ call.was) in
                  ap a.honest same ∙ sym call.honest ∙ honest at call.new (set-get olds at call.new call.old call.was)
              | inr differ ↦ honest j area (set-others olds at call.new j area differ is)
            ],
      )

  same-honest : (olds news : List D) → news ≡ olds → AsHonest olds news
  same-honest olds news same = (subst (λ (l : List D). AreHonest a l) (sym same), subst (λ (l : List D). AreHonest a l) same)

  -- the merge makes no call, and any other step one or none
  pub step-honest : (r : Recovering D) (news : List D) → (IsMergeNext r → news ≡ r.areas) → ((IsMergeNext r → ⊥) → (news ≡ r.areas) ⊎ ((ok : Bool) × MakesItsCall a r news ok)) → AsHonest r.areas news
  step-honest r news none some =
      elim (cases_eq (r.steps + 1) (first_steps r.geometry)) [
        | inl next ↦ same-honest r.areas news (none next)
        | inr other ↦
            (elim (some other) [
              | inl same ↦ same-honest r.areas news same
              | inr called ↦ call-honest called.1.0 r.areas news called.0 called.1.2
            ])
      ]
