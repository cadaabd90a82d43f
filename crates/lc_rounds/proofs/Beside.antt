-- From the pages of files at any stages to one result.
use Rattle.std.proofs.Common.{◌≡◌, ◌⊎◌, ℕ, ◌+◌, ◌*◌, ◌<◌, ◌≤◌, true, Some, List, [], map, length, drop, get_or, sym, ◌∙◌, ap, subst, inl, inr, arith}
use Rattle.std.specs.Prelude.{slice_get}
use Rattle.std.proofs.Math.Numerals.{add-one}
use Rattle.std.proofs.lemmas.List.{ext_get_or}
use Rattle.std.proofs.lemmas.Option.{slice_get_within, same_Some as one_item}
use Rattle.lc_disk.specs.Area.{IsImage, IsClean}
use Rattle.lc_disk.specs.declared.area.Area.{Ghosts}
use Rattle.lc_disk.proofs.Images.{image_clean}
use Rattle.lc_record.specs.Content.{Content, segment_of}
use Rattle.lc_record.specs.Words.{words_of}
use Rattle.lc_record.specs.declared.geometry.Geometry.{Geometry}
use Rattle.lc_record.proofs.ListLemmas.{slice_get_some as get-some, slice_get-map_some as get-map, slice_get-drop as get-drop}
use Rattle.lc_log.specs.InPlace.{records_in}
use Rattle.lc_model.specs.Merge.{Page as StorePage}
use Rattle.lc_model.specs.Stored.{page_bytes}
use Rattle.lc_model.proofs.Unrefused.{renewed-merges}
use Rattle.lc_page.specs.Page.{Page, slot_at, page_in, text_in}
use Rattle.lc_page.specs.PageWrite.{IsSettled, KeepsPage, drafted}
use Rattle.lc_page.proofs.StateLemmas.{clean_settled, settled_images, kept_page, kept_settled}
use Rattle.lc_recover.specs.Pages.{page_read, pages_read}
use Rattle.lc_recover.specs.Reads.{AreImages, AreHonest, AllMergeTo, HaveLengths, area_count, store_of}
use Rattle.lc_recover.specs.Shows.{new_page}
use Rattle.lc_recover.proofs.Bridge.{same_page}
use Rattle.lc_recover.proofs.Images.{HoldBytes, own-image, count-areas, left-of, page-of, store-shape, count-logs, log-left, get-segment, get-pages_read, len-segment}
use Rattle.lc_rounds.specs.PagesBeside.{PagePlan, PageStage, HasPlan, segment_at, AreFound, ArePlans, AreBeside, IsAt, IsPlanned}
use Rattle.lc_rounds.proofs.Plans.{find-plan, alike-honest, alike-lengths}
use Rattle.lc_rounds.proofs.Stages.{at-images}

module _ {D : Type 0} (a : Ghosts D) (fits : (d : D) → a.honest d ≡ true → (k : ℕ) → get_or (a.now d) k 0 < 256) (g : Geometry) where
  pub hold : (areas : List D) → AreHonest a areas → HoldBytes a areas
  hold areas honest k area is = fits area (honest k area is)

  -- the length of the area of a segment
  pub segment-len : (areas : List D) → HaveLengths a g areas → (k : ℕ) (area : D) → g.nodes ≤ k → slice_get areas k ≡ Some area → length (a.now area) ≡ 2 * 272 * g.pages
  segment-len areas lengths k area of is =
      let known : k < area_count g = omega (arith, slice_get_within areas k area is, count-areas a g areas lengths) in
      one_item (length (a.now area)) (2 * 272 * g.pages) (sym (get-map (λ d. length (a.now d)) areas k area is) ∙ lengths k ∙ len-segment g k of known)

  -- a page of a store that areas read as
  pub page-there : (areas : List D) (s page : ℕ) (area : D) → slice_get areas (g.nodes + s) ≡ Some area → page < g.pages → slice_get (segment_of (s + 1) (store_of g (map a.now areas)).pages) page ≡ Some (page_read (a.now area) page)
  page-there areas s page area is within =
      let there : slice_get (map (pages_read g.pages) (drop g.nodes (map a.now areas))) s ≡ Some (pages_read g.pages (a.now area)) =
      get-map (pages_read g.pages) (drop g.nodes (map a.now areas)) s (a.now area) (get-drop g.nodes s (map a.now areas) ∙ get-map a.now areas (g.nodes + s) area is) in
      ap (λ (n : ℕ). slice_get (segment_of n (store_of g (map a.now areas)).pages) page) (add-one s)
      ∙ ap (λ (ps : List StorePage). slice_get ps page) (get-segment (store_of g (map a.now areas)).pages s (pages_read g.pages (a.now area)) there)
      ∙ get-pages_read g.pages (a.now area) page within

  module _ (begins : List D) (content : Content) (numbers : ℕ → ℕ) (found : AreFound a g begins content numbers) where
    own : AreImages a begins (map a.now begins)
    own = own-image a begins (hold begins found.honest)

    -- an image has a page as it was found, or with its part of the result
    abbrev pub Shown : ℕ → ℕ → D → List ℕ → Type 0
    Shown place page begin image = (page_read image page ≡ page_read (a.now begin) page) ⊎ (page_read image page ≡ new_page content numbers (segment_at g place) page)

    -- so each page of each image
    abbrev pub AllShow : List D → Type 0
    AllShow areas = (place page : ℕ) (begin area : D) → g.nodes ≤ place → page < g.pages → slice_get begins place ≡ Some begin → slice_get areas place ≡ Some area →
        (image : List ℕ) → IsImage (a.now area) (a.dirty area) image → Shown place page begin image

    -- the logs, of which none was called, read as they were found
    logs-same : (areas : List D) → HaveLengths a g areas → ((k : ℕ) → k < g.nodes → slice_get areas k ≡ slice_get begins k) → (images : List (List ℕ)) (are : AreImages a areas images) (lengths : HaveLengths a g areas)
        → (store_of g images).logs ≡ (store_of g (map a.now begins)).logs
    logs-same areas lengths_are same images are lengths =
        let count : length (store_of g images).logs ≡ g.nodes = count-logs a g areas images lengths are in
        let count_own : length (store_of g (map a.now begins)).logs ≡ g.nodes = count-logs a g begins (map a.now begins) found.lengths own in
        ext_get_or [] (store_of g images).logs (store_of g (map a.now begins)).logs (count ∙ sym count_own) (λ log less.
        let within : log < g.nodes = omega (arith, less, count) in
        let its = left-of a g areas images lengths are log (omega (arith, within)) in
        let was = left-of a g begins (map a.now begins) found.lengths own log (omega (arith, within)) in
        let one : its.area ≡ was.area = one_item its.area was.area (sym its.area_is ∙ same log within ∙ was.area_is) in
        let clean : IsClean (a.dirty its.area) = subst (λ (d : D). IsClean (a.dirty d)) (sym one) (found.clean log was.area was.area_is) in
        let read : its.image ≡ a.now its.area = image_clean (a.now its.area) (a.dirty its.area) clean its.image its.is in
        let read_own : was.image ≡ a.now was.area = image_clean (a.now was.area) (a.dirty was.area) (found.clean log was.area was.area_is) was.image was.is in
        let alike : its.image ≡ was.image = read ∙ ap a.now one ∙ sym read_own in
        log-left a g areas images lengths are log its within
        ∙ ap (λ (image : List ℕ). records_in (words_of image)) alike
        ∙ sym (log-left a g begins (map a.now begins) found.lengths own log was within))

    -- the segment of an area, by its number
    pub segment-is : (s : ℕ) → segment_at g (g.nodes + s) ≡ s + 1
    segment-is s = omega arith

    -- so they merge to the one result
    pub shown-merge : (areas : List D) → HaveLengths a g areas → ((k : ℕ) → k < g.nodes → slice_get areas k ≡ slice_get begins k) → AllShow areas → AllMergeTo a g areas content numbers
    shown-merge areas lengths same shows images are =
        renewed-merges (store_of g (map a.now begins)) (store_of g images) content numbers found.merges (record {
          logs = logs-same areas lengths same images are lengths;
          shape = store-shape a g areas images lengths are ∙ sym (store-shape a g begins (map a.now begins) found.lengths own);
          pages = λ segment page text is.
              let its = page-of a g areas images lengths are segment page text is in
              let begin = get-some begins (g.nodes + its.before) (omega (arith, its.known, count-areas a g begins found.lengths)) in
              let here : segment ≡ its.before + 1 = its.next ∙ sym (add-one its.before) in
              elim (shows (g.nodes + its.before) page begin.0 its.left.area (omega arith) its.within begin.1 its.left.area_is its.left.image its.left.is) [
                | inl old ↦
                    inl (ap (λ (n : ℕ). slice_get (segment_of n (store_of g (map a.now begins)).pages) page) here
                    ∙ page-there begins its.before page begin.0 begin.1 its.within
                    ∙ ap (λ (p : StorePage). Some p) (sym old ∙ its.text_is))
                | inr new ↦
                    let is_new : text ≡ new_page content numbers (segment_at g (g.nodes + its.before)) page = sym its.text_is ∙ new in
                    let back : segment_at g (g.nodes + its.before) ≡ segment = segment-is its.before ∙ sym here in
                    inr (
                      ap (λ (p : StorePage). p.sequence) is_new ∙ ap numbers back,
                      ap (λ (p : StorePage). p.bytes) is_new ∙ ap (λ (n : ℕ). page_bytes n page content) back,
                    )
              ];
        })

    -- a page as the store reads it, from the page of its area
    pub read-page : (one other : List ℕ) (page : ℕ) → page_in one page ≡ page_in other page → page_read one page ≡ page_read other page
    read-page one other page same = same_page (page_read one page) (page_read other page) (ap (λ (p : Page). p.sequence) same) (ap (λ (p : Page). p.content) same)

    -- a page without a plan is settled as it was found
    pub beside-settled : (place page : ℕ) (begin area : D) → slice_get begins place ≡ Some begin → KeepsPage a page begin area
        → IsSettled (a.now area) (a.dirty area) page (text_in (a.now begin) page) × (page_in (a.now area) page ≡ page_in (a.now begin) page)
    beside-settled place page begin area begin_is keeps =
        let inside = keeps.inside (found.honest place begin begin_is) in (
          kept_settled (a.now begin) (a.now area) (a.dirty begin) (a.dirty area) page (text_in (a.now begin) page) inside
              (clean_settled (a.now begin) (a.dirty begin) page (λ slot k within. found.clean place begin begin_is (slot_at page slot + k))),
          (kept_page page (a.now begin) (a.now area) (a.dirty begin) (a.dirty area) inside).0,
        )

    pub beside-shown : (place page : ℕ) (begin area : D) → slice_get begins place ≡ Some begin → KeepsPage a page begin area
        → (image : List ℕ) → IsImage (a.now area) (a.dirty area) image → Shown place page begin image
    beside-shown place page begin area begin_is keeps image of =
        let its = beside-settled place page begin area begin_is keeps in
        inl (read-page image (a.now begin) page ((settled_images (a.now area) (a.dirty area) page (text_in (a.now begin) page) its.0 image of).1 ∙ its.1))

    -- a page that was planned so is the old one or the new one
    pub either-shown : (p : PagePlan) (begin : D) (image : List ℕ) → IsPlanned a g content numbers p begin
        → (page_in image p.draft.page ≡ page_in (a.now begin) p.draft.page) ⊎ (page_in image p.draft.page ≡ drafted p.draft) → Shown p.place p.draft.page begin image
    either-shown p begin image plan either =
        elim either [
          | inl old ↦ inl (read-page image (a.now begin) p.draft.page old)
          | inr new ↦ inr (same_page (page_read image p.draft.page) (new_page content numbers (segment_at g p.place) p.draft.page)
              (ap (λ (q : Page). q.sequence) new ∙ plan.seq) (ap (λ (q : Page). q.content) new ∙ plan.bytes))
        ]

    module _ (plans : List PagePlan) (plan : ArePlans a g begins content numbers plans) where
      -- the plan of a page whose area was found so
      pub its-plan : (k : ℕ) (p : PagePlan) (begin : D) → slice_get plans k ≡ Some p → slice_get begins p.place ≡ Some begin → IsPlanned a g content numbers p begin
      its-plan k p begin is begin_is =
          let one = plan.each k p is in
          subst (λ (d : D). IsPlanned a g content numbers p d) (one_item one.0 begin (sym one.1 ∙ begin_is)) one.2

      -- a page of an area is planned and at a stage, or it is as it was found
      pub record HasStage (place page : ℕ) (begin area : D) : Type 0 where
        pub planned : (k : ℕ) (p : PagePlan) → slice_get plans k ≡ Some p → p.place ≡ place → p.draft.page ≡ page →
            (stage : PageStage) × IsAt a stage p.draft (text_in (a.now begin) p.draft.page) (page_in (a.now begin) p.draft.page) area
        pub others : (HasPlan plans place page → ⊥) → KeepsPage a page begin area

      pub stage-shows : (place page : ℕ) (begin area : D) → slice_get begins place ≡ Some begin → length (a.now area) ≡ 2 * 272 * g.pages → a.honest area ≡ true → HasStage place page begin area
          → (image : List ℕ) → IsImage (a.now area) (a.dirty area) image → Shown place page begin image
      stage-shows place page begin area begin_is long honest has image of_image =
          elim (find-plan plans place page) [
            | inl at ↦
                let p = at.1 in
                let its = its-plan at.0 p begin at.2 (ap (slice_get begins) at.3 ∙ begin_is) in
                let stage = has.planned at.0 p at.2 at.3 at.4 in
                let either = at-images a fits stage.0 p.draft (text_in (a.now begin) p.draft.page) (page_in (a.now begin) p.draft.page) area (omega (arith, its.within, long)) stage.1 honest image of_image in
                let shown : Shown p.place p.draft.page begin image = either-shown p begin image its either in
                subst (λ (n : ℕ). Shown place n begin image) at.4 (subst (λ (n : ℕ). Shown n p.draft.page begin image) at.3 shown)
            | inr none ↦ beside-shown place page begin area begin_is (has.others none) image of_image
          ]

      module _ (stages : List PageStage) (areas : List D) (beside : AreBeside a g begins plans stages areas) where
        pub beside-lengths : HaveLengths a g areas
        beside-lengths = alike-lengths a g begins areas beside.same_count beside.alike found.lengths

        pub beside-honest : AreHonest a areas
        beside-honest = alike-honest a g begins areas beside.same_count beside.alike found.honest

        pub stage-of : (k : ℕ) (p : PagePlan) → slice_get plans k ≡ Some p → (stage : PageStage) × (slice_get stages k ≡ Some stage)
        stage-of k p is = get-some stages k (omega (arith, slice_get_within plans k p is, beside.count))

        pub has-stage : (place page : ℕ) (begin area : D) → g.nodes ≤ place → page < g.pages → slice_get begins place ≡ Some begin → slice_get areas place ≡ Some area → HasStage place page begin area
        has-stage place page begin area of within begin_is area_is = record {
          planned = λ k p is at here.
              let stage = stage-of k p is in
              (stage.0, beside.planned k p stage.0 begin area is stage.1 (ap (slice_get begins) at ∙ begin_is) (ap (slice_get areas) at ∙ area_is));
          others = λ none. beside.others place page begin area of within none begin_is area_is;
        }

        pub beside-shows : AllShow areas
        beside-shows place page begin area of within begin_is area_is =
            stage-shows place page begin area begin_is (segment-len areas beside-lengths place area of area_is) (beside-honest place area area_is) (has-stage place page begin area of within begin_is area_is)

        pub beside-merges : AllMergeTo a g areas content numbers
        beside-merges = shown-merge areas beside-lengths beside.logs beside-shows
