-- What a call of one page makes of the files.
use Rattle.std.proofs.Common.{◌≡◌, ◌≢◌, ℕ, ◌+◌, ◌*◌, ◌<◌, ◌≤◌, Bool, true, false, Some, List, length, get_or, refl, sym, ◌∙◌, ap, subst, inl, inr, arith}
use Rattle.std.specs.Prelude.{slice_get, slice_set}
use Rattle.std.proofs.lemmas.Bool.{cases_eq}
use Rattle.std.proofs.lemmas.List.{length-set}
use Rattle.std.proofs.lemmas.Option.{same_Some as one_item}
use Rattle.lc_disk.specs.Area.{IsImage}
use Rattle.lc_disk.specs.declared.area.Area.{Ghosts}
use Rattle.lc_record.specs.Content.{Content}
use Rattle.lc_record.specs.declared.geometry.Geometry.{Geometry}
use Rattle.lc_page.specs.Page.{slot_at, page_in, text_in}
use Rattle.lc_page.specs.PageWrite.{KeepsPage}
use Rattle.lc_page.proofs.StateLemmas.{clean_settled}
use Rattle.lc_recover.specs.Reads.{AreHonest, AllMergeTo}
use Rattle.lc_recover.proofs.AreaLemmas.{get-set, set-get}
use Rattle.lc_rounds.specs.PagesBeside.{PagePlan, PageStage, Unwritten, next_stage, HasPlan, AreFound, ArePlans, AreBeside, IsAt, IsNextCall, IsPlanned, IsSameDevice}
use Rattle.lc_rounds.proofs.Plans.{set-other, begin-of, alike-honest, alike-lengths}
use Rattle.lc_rounds.proofs.Stages.{keeps-again, keeps-none, kept-at, call-device, call-keeps, next-at, call-images}
use Rattle.lc_rounds.proofs.Beside.{segment-len, Shown, AllShow, stage-shows, stage-of, either-shown, beside-shows, beside-lengths, its-plan, shown-merge}

-- files as they were found, before the first call
pub beside-begins : {D : Type 0} (a : Ghosts D) (g : Geometry) (begins : List D) (plans : List PagePlan) (stages : List PageStage)
    → ((k : ℕ) (area : D) → slice_get begins k ≡ Some area → (at : ℕ) → a.dirty area at ≡ false)
    → length stages ≡ length plans → ((k : ℕ) (stage : PageStage) → slice_get stages k ≡ Some stage → stage ≡ Unwritten) → AreBeside a g begins plans stages begins
beside-begins {D} a g begins plans stages clean count first = record {
  count = count;
  same_count = refl;
  logs = λ k within. refl;
  alike = λ k begin area begin_is area_is.
      let same : area ≡ begin = one_item area begin (sym area_is ∙ begin_is) in
      record { honest = ap a.honest same; len = ap (λ (d : D). length (a.now d)) same };
  planned = λ k p stage begin area is stage_is begin_is area_is.
      let same : begin ≡ area = one_item begin area (sym begin_is ∙ area_is) in
      subst (λ (s : PageStage). IsAt a s p.draft (text_in (a.now begin) p.draft.page) (page_in (a.now begin) p.draft.page) area) (sym (first k stage stage_is))
      (subst (λ (d : D). IsAt a Unwritten p.draft (text_in (a.now begin) p.draft.page) (page_in (a.now begin) p.draft.page) d) same
      (λ honest. (clean_settled (a.now begin) (a.dirty begin) p.draft.page (λ slot j within. clean p.place begin begin_is (slot_at p.draft.page slot + j)), refl)));
  others = λ place page begin area of within none begin_is area_is.
      subst (λ (d : D). KeepsPage a page begin d) (one_item begin area (sym begin_is ∙ area_is)) (keeps-none a page begin);
}

module _ {D : Type 0} (a : Ghosts D) (fits : (d : D) → a.honest d ≡ true → (k : ℕ) → get_or (a.now d) k 0 < 256) (g : Geometry) (begins areas : List D) (content : Content) (numbers : ℕ → ℕ) (plans : List PagePlan) (stages : List PageStage)
    (k : ℕ) (p : PagePlan) (stage : PageStage) (old new : D) (found : AreFound a g begins content numbers) (plan : ArePlans a g begins content numbers plans) (beside : AreBeside a g begins plans stages areas)
    (is : slice_get plans k ≡ Some p) (stage_is : slice_get stages k ≡ Some stage) (old_is : slice_get areas p.place ≡ Some old) (ok : Bool) (call : IsNextCall a stage p old new ok) where
  abbrev later : List D
  later = slice_set areas p.place new

  its-begin : (begin : D) × (slice_get begins p.place ≡ Some begin)
  its-begin = begin-of a g begins areas beside.same_count beside.alike p.place old old_is

  planned : IsPlanned a g content numbers p its-begin.0
  planned = its-plan a fits g begins content numbers found plans plan k p its-begin.0 is its-begin.1

  device : IsSameDevice a old new
  device = call-device a fits p old new stage ok call

  was : IsAt a stage p.draft (text_in (a.now its-begin.0) p.draft.page) (page_in (a.now its-begin.0) p.draft.page) old
  was = beside.planned k p stage its-begin.0 old is stage_is its-begin.1 old_is

  long : length (a.now old) ≡ 2 * 272 * g.pages
  long = segment-len a fits g areas (beside-lengths a fits g begins content numbers found plans plan stages areas beside) p.place old planned.of_segment old_is

  room : (2 * p.draft.page + 2) * 272 ≤ length (a.now old)
  room = omega (arith, planned.within, long)

  -- the area that was called is there no more
  only : (begin : D) → slice_get begins p.place ≡ Some begin → its-begin.0 ≡ begin
  only begin begin_is = one_item its-begin.0 begin (sym its-begin.1 ∙ begin_is)

  pub later-count : length later ≡ length begins
  later-count = length-set areas p.place new ∙ beside.same_count

  pub later-logs : (j : ℕ) → j < g.nodes → slice_get later j ≡ slice_get begins j
  later-logs j within = set-other areas p.place new j (λ same. omega (arith, same, within, planned.of_segment)) ∙ beside.logs j within

  pub later-alike : (j : ℕ) (begin area : D) → slice_get begins j ≡ Some begin → slice_get later j ≡ Some area → IsSameDevice a begin area
  later-alike j begin area begin_is area_is =
      elim (get-set areas p.place new j area area_is) [
        | inl here ↦
            let one = beside.alike p.place begin old (ap (slice_get begins) (sym here.0) ∙ begin_is) old_is in
            record {
              honest = ap a.honest here.1 ∙ device.honest ∙ one.honest;
              len = ap (λ (d : D). length (a.now d)) here.1 ∙ device.len ∙ one.len;
            }
        | inr there ↦ beside.alike j begin area begin_is there.1
      ]

  -- two plans of one area are of two pages
  other-page : (j : ℕ) (q : PagePlan) → slice_get plans j ≡ Some q → q.place ≡ p.place → j ≢ k → q.draft.page ≢ p.draft.page
  other-page j q q_is place differ = λ page. differ (plan.apart j k q p q_is is place page)

  -- a page of the area that was called, but for the one that was written
  beside-planned : (j : ℕ) (q : PagePlan) (other : PageStage) (begin : D) → slice_get plans j ≡ Some q → slice_get stages j ≡ Some other → slice_get begins q.place ≡ Some begin → q.place ≡ p.place → j ≢ k
      → IsAt a other q.draft (text_in (a.now begin) q.draft.page) (page_in (a.now begin) q.draft.page) new
  beside-planned j q other begin q_is other_is begin_is place differ =
      kept-at a fits other q.draft (text_in (a.now begin) q.draft.page) (page_in (a.now begin) q.draft.page) old new
      (call-keeps a fits p old new stage ok call q.draft.page (other-page j q q_is place differ))
      (beside.planned j q other begin old q_is other_is begin_is (ap (slice_get areas) place ∙ old_is))

  beside-others : (page : ℕ) (begin : D) → page < g.pages → (HasPlan plans p.place page → ⊥) → slice_get begins p.place ≡ Some begin → KeepsPage a page begin new
  beside-others page begin within none begin_is =
      keeps-again a page begin old new (beside.others p.place page begin old planned.of_segment within none begin_is old_is)
      (call-keeps a fits p old new stage ok call page (λ same. none (k, p, is, refl, sym same)))

  -- Whatever a stop leaves

  -- of the area that was called
  called-shows : (page : ℕ) (begin : D) → page < g.pages → slice_get begins p.place ≡ Some begin → a.honest new ≡ true
      → (image : List ℕ) → IsImage (a.now new) (a.dirty new) image → Shown a fits g begins content numbers found p.place page begin image
  called-shows page begin within begin_is honest image of =
      elim (cases_eq page p.draft.page) [
        | inl here ↦
            let same : its-begin.0 ≡ begin = only begin begin_is in
            let either = call-images a fits p old new (text_in (a.now its-begin.0) p.draft.page) (page_in (a.now its-begin.0) p.draft.page) room planned.begun stage ok call was honest image of in
            let shown : Shown a fits g begins content numbers found p.place p.draft.page its-begin.0 image = either-shown a fits g begins content numbers found p its-begin.0 image planned either in
            subst (λ (n : ℕ). Shown a fits g begins content numbers found p.place n begin image) (sym here)
            (subst (λ (d : D). Shown a fits g begins content numbers found p.place p.draft.page d image) same shown)
        | inr other ↦
            stage-shows a fits g begins content numbers found plans plan p.place page begin new begin_is (device.len ∙ long) honest
            (record {
              planned = λ j q q_is place of.
                  let differ : j ≢ k = λ same. other (sym of ∙ ap (λ (x : PagePlan). x.draft.page) (one_item q p (sym q_is ∙ ap (slice_get plans) same ∙ is))) in
                  let its = stage-of a fits g begins content numbers found plans plan stages areas beside j q q_is in
                  (its.0, beside-planned j q its.0 begin q_is its.1 (ap (slice_get begins) place ∙ begin_is) place differ);
              others = λ none. beside-others page begin within none begin_is;
            }) image of
      ]

  -- of all areas
  later-shows : AreHonest a later → AllShow a fits g begins content numbers found later
  later-shows honest place page begin area of within begin_is area_is image of_image =
      elim (get-set areas p.place new place area area_is) [
        | inl here ↦
            let there : slice_get begins p.place ≡ Some begin = ap (slice_get begins) (sym here.0) ∙ begin_is in
            let image_is : IsImage (a.now new) (a.dirty new) image = subst (λ (d : D). IsImage (a.now d) (a.dirty d) image) here.1 of_image in
            let alive : a.honest new ≡ true = ap a.honest (sym here.1) ∙ honest place area area_is in
            subst (λ (n : ℕ). Shown a fits g begins content numbers found n page begin image) (sym here.0) (called-shows page begin within there alive image image_is)
        | inr there ↦ beside-shows a fits g begins content numbers found plans plan stages areas beside place page begin area of within begin_is there.1 image of_image
      ]

  pub later-merges : AllMergeTo a g (slice_set areas p.place new) content numbers
  later-merges =
      shown-merge a fits g begins content numbers found later
      (alike-lengths a g begins later later-count later-alike found.lengths)
      later-logs
      (later-shows (alike-honest a g begins later later-count later-alike found.honest))

-- a call that was made leads to the next stage
module _ {D : Type 0} (a : Ghosts D) (fits : (d : D) → a.honest d ≡ true → (k : ℕ) → get_or (a.now d) k 0 < 256) (g : Geometry) (begins areas : List D) (content : Content) (numbers : ℕ → ℕ) (plans : List PagePlan) (stages : List PageStage)
    (k : ℕ) (p : PagePlan) (stage : PageStage) (old new : D) (found : AreFound a g begins content numbers) (plan : ArePlans a g begins content numbers plans) (beside : AreBeside a g begins plans stages areas)
    (is : slice_get plans k ≡ Some p) (stage_is : slice_get stages k ≡ Some stage) (old_is : slice_get areas p.place ≡ Some old) (call : IsNextCall a stage p old new true) where
  -- of the page that was called
  called-at : (begin : D) → slice_get begins p.place ≡ Some begin → IsAt a (next_stage stage) p.draft (text_in (a.now begin) p.draft.page) (page_in (a.now begin) p.draft.page) new
  called-at begin begin_is =
      let its = its-plan a fits g begins content numbers found plans plan k p begin is begin_is in
      let long = segment-len a fits g areas (beside-lengths a fits g begins content numbers found plans plan stages areas beside) p.place old its.of_segment old_is in
      next-at a fits p old new (text_in (a.now begin) p.draft.page) (page_in (a.now begin) p.draft.page) (omega (arith, its.within, long)) its.begun stage call
      (beside.planned k p stage begin old is stage_is begin_is old_is)

  pub beside-goes-on : AreBeside a g begins plans (slice_set stages k (next_stage stage)) (slice_set areas p.place new)
  beside-goes-on = record {
    count = length-set stages k (next_stage stage) ∙ beside.count;
    same_count = later-count a fits g begins areas content numbers plans stages k p stage old new found plan beside is stage_is old_is true call;
    logs = later-logs a fits g begins areas content numbers plans stages k p stage old new found plan beside is stage_is old_is true call;
    alike = later-alike a fits g begins areas content numbers plans stages k p stage old new found plan beside is stage_is old_is true call;
    planned = λ j q other begin area q_is other_is begin_is area_is.
        (elim (get-set stages k (next_stage stage) j other other_is) [
          | inl here ↦
              let one : p ≡ q = one_item p q (sym is ∙ ap (slice_get plans) (sym here.0) ∙ q_is) in
              let place : p.place ≡ q.place = ap (λ (x : PagePlan). x.place) one in
              let new_is : new ≡ area = one_item new area (sym (set-get areas p.place new old old_is) ∙ ap (slice_get (slice_set areas p.place new)) place ∙ area_is) in
              let at = called-at begin (ap (slice_get begins) place ∙ begin_is) in
              subst (λ (s : PageStage). IsAt a s q.draft (text_in (a.now begin) q.draft.page) (page_in (a.now begin) q.draft.page) area) (sym here.1)
              (subst (λ (d : D). IsAt a (next_stage stage) q.draft (text_in (a.now begin) q.draft.page) (page_in (a.now begin) q.draft.page) d) new_is
              (subst (λ (x : PagePlan). IsAt a (next_stage stage) x.draft (text_in (a.now begin) x.draft.page) (page_in (a.now begin) x.draft.page) new) one at))
          | inr there ↦
              (elim (get-set areas p.place new q.place area area_is) [
                | inl called ↦
                    subst (λ (d : D). IsAt a other q.draft (text_in (a.now begin) q.draft.page) (page_in (a.now begin) q.draft.page) d) (sym called.1)
                    (beside-planned a fits g begins areas content numbers plans stages k p stage old new found plan beside is stage_is old_is true call j q other begin q_is there.1 begin_is called.0 there.0)
                | inr elsewhere ↦ beside.planned j q other begin area q_is there.1 begin_is elsewhere.1
              ])
        ]);
    others = λ place page begin area of within none begin_is area_is.
        (elim (get-set areas p.place new place area area_is) [
          | inl here ↦
              subst (λ (d : D). KeepsPage a page begin d) (sym here.1)
              (beside-others a fits g begins areas content numbers plans stages k p stage old new found plan beside is stage_is old_is true call page begin within
              (subst (λ (n : ℕ). HasPlan plans n page → ⊥) here.0 none) (ap (slice_get begins) (sym here.0) ∙ begin_is))
          | inr elsewhere ↦ beside.others place page begin area of within none begin_is elsewhere.1
        ]);
  }
