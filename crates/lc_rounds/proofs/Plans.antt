-- Plans, and lists of areas of which one is called.
use Rattle.std.proofs.Common.{◌≡◌, ◌≢◌, ◌⊎◌, ℕ, zero, suc, Some, List, [], ◌∷◌, map, length, refl, sym, ◌∙◌, ap, inl, inr, arith}
use Rattle.std.specs.Prelude.{slice_get, slice_set}
use Rattle.std.proofs.lemmas.Bool.{cases_eq, cases_lt}
use Rattle.std.proofs.lemmas.List.{length-map}
use Rattle.std.proofs.lemmas.Option.{none-some, slice_get_within, slice_get_past, same_Some as one_item}
use Rattle.lc_disk.specs.declared.area.Area.{Ghosts}
use Rattle.lc_record.specs.declared.geometry.Geometry.{Geometry}
use Rattle.lc_record.proofs.ListLemmas.{slice_get_some as get-some, slice_get-map_some as get-map}
use Rattle.lc_recover.specs.Reads.{AreHonest, HaveLengths}
use Rattle.lc_rounds.specs.PagesBeside.{PagePlan, HasPlan, IsSameDevice}

not-first : (p : PagePlan) (ps : List PagePlan) (place page : ℕ) → (HasPlan ps place page → ⊥) → (p.place ≡ place → p.draft.page ≡ page → ⊥) → HasPlan (p ∷ ps) place page → ⊥
not-first p ps place page none first (zero, q, is, same, here) =
    let one : p ≡ q = one_item p q is in
    first (ap (λ (x : PagePlan). x.place) one ∙ same) (ap (λ (x : PagePlan). x.draft.page) one ∙ here)
not-first p ps place page none first (suc k, q, is, same, here) = none (k, q, is, same, here)

-- a page has a plan or none
pub find-plan : (plans : List PagePlan) (place page : ℕ) → HasPlan plans place page ⊎ (HasPlan plans place page → ⊥)
find-plan [] place page = inr (λ has. none-some has.1 has.2)
find-plan (p ∷ ps) place page =
    elim (find-plan ps place page) [
      | inl has ↦ inl (suc has.0, has.1, has.2, has.3, has.4)
      | inr none ↦
          (elim (cases_eq p.place place) [
            | inl same ↦
                (elim (cases_eq p.draft.page page) [
                  | inl here ↦ inl (zero, p, refl, same, here)
                  | inr other ↦ inr (not-first p ps place page none (λ there is. other is))
                ])
            | inr differ ↦ inr (not-first p ps place page none (λ there is. differ there))
          ])
    ]

-- what stands beside a place that was set
pub set-other : {A : Type 0} (xs : List A) (k : ℕ) (y : A) (j : ℕ) → j ≢ k → slice_get (slice_set xs k y) j ≡ slice_get xs j
set-other [] k y j differ = refl
set-other (z ∷ zs) zero y zero differ = absurd (differ refl)
set-other (z ∷ zs) zero y (suc j) differ = refl
set-other (z ∷ zs) (suc k) y zero differ = refl
set-other (z ∷ zs) (suc k) y (suc j) differ = set-other zs k y j (λ same. differ (ap suc same))

-- areas that are each as long and as honest as others
module _ {D : Type 0} (a : Ghosts D) (g : Geometry) (begins areas : List D) (count : length areas ≡ length begins)
    (alike : (k : ℕ) (begin area : D) → slice_get begins k ≡ Some begin → slice_get areas k ≡ Some area → IsSameDevice a begin area) where
  pub begin-of : (k : ℕ) (area : D) → slice_get areas k ≡ Some area → (begin : D) × (slice_get begins k ≡ Some begin)
  begin-of k area is = get-some begins k (omega (arith, slice_get_within areas k area is, count))

  pub alike-honest : AreHonest a begins → AreHonest a areas
  alike-honest honest k area is =
      let begin = begin-of k area is in
      (alike k begin.0 area begin.1 is).honest ∙ honest k begin.0 begin.1

  pub alike-lengths : HaveLengths a g begins → HaveLengths a g areas
  alike-lengths lengths k =
      elim (cases_lt k (length areas)) [
        | inl within ↦
            let area = get-some areas k within in
            let begin = begin-of k area.0 area.1 in
            get-map (λ d. length (a.now d)) areas k area.0 area.1
            ∙ ap Some (alike k begin.0 area.0 begin.1 area.1).len
            ∙ sym (get-map (λ d. length (a.now d)) begins k begin.0 begin.1)
            ∙ lengths k
        | inr past ↦
            slice_get_past (map (λ d. length (a.now d)) areas) k (omega (arith, past, length-map areas (λ d. length (a.now d))))
            ∙ sym (slice_get_past (map (λ d. length (a.now d)) begins) k (omega (arith, past, count, length-map begins (λ d. length (a.now d)))))
            ∙ lengths k
      ]
