-- What is kept of the areas that were read.
use Rattle.std.proofs.Common.{◌≡◌, ℕ, ◌+◌, ◌<◌, Option, Some, List, [], ◌∷◌, ◌++◌, length, refl, sym, ◌∙◌, ap, subst, arith, inl, inr}
use Rattle.std.specs.Prelude.{slice_get}
use Rattle.std.specs.Option.{unwrap_or}
use Rattle.std.proofs.lemmas.Bool.{cases_lt}
use Rattle.std.proofs.lemmas.List.{length-append}
use Rattle.std.proofs.lemmas.Option.{slice_get_within, none-some}
use Rattle.lc_record.proofs.ListLemmas.{slice_get-append_left as get-append, slice_get_push as get-append_end}
use Rattle.lc_recover.specs.Pages.{AreKept}
use Rattle.lc_recover.specs.KeptAreas.{AreAllKept}
use Rattle.lc_recover.specs.declared.segment_pages.SegmentPages.{SegmentPages}

-- one more area is kept
pub all_kept-none : (pages : ℕ) → AreAllKept pages [] []
all_kept-none pages = record { count = refl; each = λ s area kept area_is kept_is. absurd (none-some area area_is) }

pub all_kept-more : (pages : ℕ) (areas : List (List ℕ)) (segments : List SegmentPages) (area : List ℕ) (kept : SegmentPages) → AreAllKept pages areas segments → AreKept area pages kept → AreAllKept pages (areas ++ area ∷ []) (segments ++ kept ∷ [])
all_kept-more pages areas segments area kept all one = record {
  count = length-append segments (kept ∷ []) ∙ ap (λ (k : ℕ). k + 1) all.count ∙ sym (length-append areas (area ∷ []));
  each = λ s other others area_is kept_is.
      elim (cases_lt s (length areas)) [
        | inl before ↦
            let within : s < length segments = omega (arith, before, all.count) in
            all.each s other others (sym (get-append areas (area ∷ []) s before) ∙ area_is) (sym (get-append segments (kept ∷ []) s within) ∙ kept_is)
        | inr not_before ↦
            let in_areas : s < length (areas ++ area ∷ []) = slice_get_within (areas ++ area ∷ []) s other area_is in
            let here : s ≡ length areas = omega (arith, not_before, in_areas, length-append areas (area ∷ [])) in
            let area_same : Some area ≡ Some other = sym (get-append_end areas area) ∙ ap (slice_get (areas ++ area ∷ [])) (sym here) ∙ area_is in
            let kept_same : Some kept ≡ Some others = sym (get-append_end segments kept) ∙ ap (slice_get (segments ++ kept ∷ [])) (all.count ∙ sym here) ∙ kept_is in
            subst (λ (x : List ℕ). AreKept x pages others) (ap (λ (o : Option (List ℕ)). unwrap_or o area) area_same)
            (subst (λ (x : SegmentPages). AreKept area pages x) (ap (λ (o : Option SegmentPages). unwrap_or o kept) kept_same) one)
      ];
}
