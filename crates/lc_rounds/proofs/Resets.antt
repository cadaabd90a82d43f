-- All pages are written, and logs are emptied.
use Rattle.std.proofs.Common.{◌≡◌, ◌⊎◌, ℕ, zero, suc, ◌+◌, ◌<◌, ◌≤◌, true, Some, List, [], ◌∷◌, map, length, take, drop, get_or, refl, sym, ◌∙◌, ap, subst, inl, inr, arith}
use Rattle.std.specs.Prelude.{slice_get, slice_index_or}
use Rattle.std.proofs.Math.Numerals.{add-one}
use Rattle.std.proofs.lemmas.Bool.{cases_lt}
use Rattle.std.proofs.lemmas.List.{ext_get_or, length-map, length-take-le, get_or_past as past-end}
use Rattle.std.proofs.lemmas.Option.{get_or_from_slice_get, same_Some as one_item}
use Rattle.lc_disk.specs.Area.{IsImage}
use Rattle.lc_disk.specs.declared.area.Area.{Ghosts}
use Rattle.lc_record.specs.Content.{Content, segment_of}
use Rattle.lc_record.specs.Marks.{counting}
use Rattle.lc_record.specs.Words.{words_of}
use Rattle.lc_record.specs.declared.geometry.Geometry.{Geometry}
use Rattle.lc_record.specs.declared.record.Record.{Record}
use Rattle.lc_record.proofs.ListLemmas.{slice_get_some as get-some, slice_get-map_some as get-map, slice_get-drop as get-drop}
use Rattle.lc_log.specs.InPlace.{records_in}
use Rattle.lc_log.specs.LogText.{IsLogText}
use Rattle.lc_log.proofs.InPlaceLemmas.{records_are, records_text}
use Rattle.lc_model.specs.Merge.{Page as StorePage, StoreText, MergesTo}
use Rattle.lc_model.specs.Recovered.{AreStill, IsBehind, IsPartlyReset}
use Rattle.lc_model.proofs.Unrefused.{reset-merges}
use Rattle.lc_model.proofs.Within.{still-renewed}
use Rattle.lc_page.specs.Page.{Page, page_in, text_in}
use Rattle.lc_page.specs.PageVector.{settled_text}
use Rattle.lc_page.specs.PageWrite.{IsSettled, drafted}
use Rattle.lc_page.specs.declared.page_text.PageText.{PageText}
use Rattle.lc_page.proofs.StateLemmas.{settled_images}
use Rattle.lc_recover.specs.Pages.{page_read, pages_read}
use Rattle.lc_recover.specs.Reads.{AreImages, AreHonest, HaveLengths, store_of}
use Rattle.lc_recover.specs.RecoveryPhase.{AreTexts}
use Rattle.lc_recover.proofs.Bridge.{have-bytes}
use Rattle.lc_recover.proofs.Images.{own-image, count-areas, count-segments, left-of, Left, page-of, store-shape, count-logs, log-left}
use Rattle.lc_rounds.specs.PagesBeside.{PagePlan, PageStage, Written, segment_at, AreFound, ArePlans, AreBeside, AreReset, IsAt}
use Rattle.lc_rounds.proofs.Plans.{find-plan, begin-of}
use Rattle.lc_rounds.proofs.Beside.{hold, page-there, segment-is, read-page, beside-settled, its-plan, beside-lengths, beside-honest, stage-of, beside-merges}

same-counting : {A : Type 0} (f h : ℕ → A) (first n : ℕ) → ((k : ℕ) → k < first + n → f k ≡ h k) → map f (counting first n) ≡ map h (counting first n)
same-counting f h first zero same = refl
same-counting {A} f h first (suc n) same =
    let here : f first ≡ h first = same first (omega arith) in
    let rest : map f (counting (first + 1) n) ≡ map h (counting (first + 1) n) = same-counting f h (first + 1) n (λ k within. same k (omega (arith, within))) in
    ap (λ (x : A). x ∷ map f (counting (first + 1) n)) here ∙ ap (λ (xs : List A). h first ∷ xs) rest

module _ {D : Type 0} (a : Ghosts D) (fits : (d : D) → a.honest d ≡ true → (k : ℕ) → get_or (a.now d) k 0 < 256) (g : Geometry) (begins areas : List D) (content : Content) (numbers : ℕ → ℕ) (plans : List PagePlan) (stages : List PageStage)
    (found : AreFound a g begins content numbers) (plan : ArePlans a g begins content numbers plans) (beside : AreBeside a g begins plans stages areas)
    (all : (k : ℕ) (stage : PageStage) → slice_get stages k ≡ Some stage → stage ≡ Written) where
  lengths : HaveLengths a g areas
  lengths = beside-lengths a fits g begins content numbers found plans plan stages areas beside

  honest : AreHonest a areas
  honest = beside-honest a fits g begins content numbers found plans plan stages areas beside

  -- the store as the areas read it
  abbrev store : StoreText
  store = store_of g (map a.now areas)

  abbrev before : StoreText
  before = store_of g (map a.now begins)

  own : AreImages a areas (map a.now areas)
  own = own-image a areas (hold a fits g areas honest)

  merges : MergesTo store content numbers
  merges = beside-merges a fits g begins content numbers found plans plan stages areas beside (map a.now areas) own

  -- a page that was written, or as it was found
  written : (k : ℕ) (p : PagePlan) (begin area : D) → slice_get plans k ≡ Some p → slice_get begins p.place ≡ Some begin → slice_get areas p.place ≡ Some area
      → IsAt a Written p.draft (text_in (a.now begin) p.draft.page) (page_in (a.now begin) p.draft.page) area
  written k p begin area is begin_is area_is =
      let stage = stage-of a fits g begins content numbers found plans plan stages areas beside k p is in
      subst (λ (s : PageStage). IsAt a s p.draft (text_in (a.now begin) p.draft.page) (page_in (a.now begin) p.draft.page) area) (all k stage.0 stage.1)
      (beside.planned k p stage.0 begin area is stage.1 begin_is area_is)

  -- each page is settled
  pub each-settled : (place page : ℕ) (area : D) → g.nodes ≤ place → page < g.pages → slice_get areas place ≡ Some area → (text : PageText) × IsSettled (a.now area) (a.dirty area) page text
  each-settled place page area of within area_is =
      let begin = begin-of a g begins areas beside.same_count beside.alike place area area_is in
      elim (find-plan plans place page) [
        | inl has ↦
            let its = written has.0 has.1 begin.0 area has.2 (ap (slice_get begins) has.3 ∙ begin.1) (ap (slice_get areas) has.3 ∙ area_is) (honest place area area_is) in (
              settled_text (text_in (a.now begin.0) has.1.draft.page) has.1.draft.seq,
              subst (λ (n : ℕ). IsSettled (a.now area) (a.dirty area) n (settled_text (text_in (a.now begin.0) has.1.draft.page) has.1.draft.seq)) has.4 its.0,
            )
        | inr none ↦
            (text_in (a.now begin.0) page, (beside-settled a fits g begins content numbers found place page begin.0 area begin.1 (beside.others place page begin.0 area of within none begin.1 area_is)).0)
      ]

  -- so each image has it as the area reads it
  pub one-page : (place page : ℕ) (area : D) → g.nodes ≤ place → page < g.pages → slice_get areas place ≡ Some area → (image : List ℕ) → IsImage (a.now area) (a.dirty area) image → page_read image page ≡ page_read (a.now area) page
  one-page place page area of within area_is image of_image =
      let its = each-settled place page area of within area_is in
      read-page a fits g begins content numbers found image (a.now area) page (settled_images (a.now area) (a.dirty area) page its.0 its.1 image of_image).1

  -- The logs, as they were found

  logs-then : store.logs ≡ before.logs
  logs-then =
      let count : length store.logs ≡ g.nodes = count-logs a g areas (map a.now areas) lengths own in
      let first : AreImages a begins (map a.now begins) = own-image a begins (hold a fits g begins found.honest) in
      let count_own : length before.logs ≡ g.nodes = count-logs a g begins (map a.now begins) found.lengths first in
      ext_get_or [] store.logs before.logs (count ∙ sym count_own) (λ log less.
      let within : log < g.nodes = omega (arith, less, count) in
      let its = left-of a g areas (map a.now areas) lengths own log (omega (arith, within)) in
      let was = left-of a g begins (map a.now begins) found.lengths first log (omega (arith, within)) in
      let one : its.area ≡ was.area = one_item its.area was.area (sym its.area_is ∙ beside.logs log within ∙ was.area_is) in
      let read : its.image ≡ a.now its.area = one_item its.image (a.now its.area) (sym its.image_is ∙ get-map a.now areas log its.area its.area_is) in
      let read_own : was.image ≡ a.now was.area = one_item was.image (a.now was.area) (sym was.image_is ∙ get-map a.now begins log was.area was.area_is) in
      log-left a g areas (map a.now areas) lengths own log its within
      ∙ ap (λ (image : List ℕ). records_in (words_of image)) (read ∙ ap a.now one ∙ sym read_own)
      ∙ sym (log-left a g begins (map a.now begins) found.lengths first log was within))

  -- Nothing is behind

  still : AreStill store
  still =
      let first : AreImages a begins (map a.now begins) = own-image a begins (hold a fits g begins found.honest) in
      still-renewed before store content numbers found.merges.2 logs-then
      (store-shape a g areas (map a.now areas) lengths own ∙ sym (store-shape a g begins (map a.now begins) found.lengths first))
      (λ segment page text is.
      let its = page-of a g areas (map a.now areas) lengths own segment page text is in
      let here : segment ≡ its.before + 1 = its.next ∙ sym (add-one its.before) in
      let of : g.nodes ≤ g.nodes + its.before = omega arith in
      let area = its.left.area in
      let alive : a.honest area ≡ true = honest (g.nodes + its.before) area its.left.area_is in
      let begin = begin-of a g begins areas beside.same_count beside.alike (g.nodes + its.before) area its.left.area_is in
      elim (find-plan plans (g.nodes + its.before) page) [
        | inl has ↦
            let p = has.1 in
            let stands = written has.0 p begin.0 area has.2 (ap (slice_get begins) has.3 ∙ begin.1) (ap (slice_get areas) has.3 ∙ its.left.area_is) alive in
            let its_plan = its-plan a fits g begins content numbers found plans plan has.0 p begin.0 has.2 (ap (slice_get begins) has.3 ∙ begin.1) in
            let read : page_in its.left.image p.draft.page ≡ drafted p.draft =
            (settled_images (a.now area) (a.dirty area) p.draft.page (settled_text (text_in (a.now begin.0) p.draft.page) p.draft.seq) stands.0 its.left.image its.left.is).1 ∙ stands.1 in
            inl (ap (λ (q : StorePage). q.sequence) (sym its.text_is) ∙ ap (λ (n : ℕ). (page_in its.left.image n).sequence) (sym has.4) ∙ ap (λ (q : Page). q.sequence) read
            ∙ its_plan.seq ∙ ap (λ (n : ℕ). numbers (segment_at g n)) has.3 ∙ ap numbers (segment-is a fits g begins content numbers found its.before ∙ sym here))
        | inr none ↦
            let keeps = beside.others (g.nodes + its.before) page begin.0 area of its.within none begin.1 its.left.area_is in
            let settles = beside-settled a fits g begins content numbers found (g.nodes + its.before) page begin.0 area begin.1 keeps in
            let read : page_read its.left.image page ≡ page_read (a.now begin.0) page =
            read-page a fits g begins content numbers found its.left.image (a.now begin.0) page
            ((settled_images (a.now area) (a.dirty area) page (text_in (a.now begin.0) page) settles.0 its.left.image its.left.is).1 ∙ settles.1) in
            let there : slice_get (segment_of (its.before + 1) before.pages) page ≡ Some text =
            page-there a fits g begins its.before page begin.0 begin.1 its.within ∙ ap (λ (q : StorePage). Some q) (sym read ∙ its.text_is) in
            inr (
              ap (λ (n : ℕ). slice_get (segment_of n before.pages) page) here ∙ there,
              λ behind. none (plan.whole its.before page text there (subst (λ (n : ℕ). IsBehind before n page text) here behind)),
            )
      ])

  -- The texts of the logs

  abbrev texts-of : List (List ℕ)
  texts-of = map words_of (take g.nodes (map a.now areas))

  texts : AreTexts g texts-of store
  texts =
      let count : length (take g.nodes (map a.now areas)) ≡ g.nodes = length-take-le g.nodes (map a.now areas) (omega (arith, length-map areas a.now, count-areas a g areas lengths)) in
      record {
        count = length-map (take g.nodes (map a.now areas)) words_of ∙ count;
        same_count = count-logs a g areas (map a.now areas) lengths own;
        texts = λ log within.
            let bytes = get-some (take g.nodes (map a.now areas)) log (omega (arith, within, count)) in
            let words : slice_index_or texts-of log [] ≡ words_of bytes.0 = get_or_from_slice_get texts-of log (words_of bytes.0) [] (get-map words_of (take g.nodes (map a.now areas)) log bytes.0 bytes.1) in
            let records : slice_index_or store.logs log [] ≡ records_in (words_of bytes.0) =
            get_or_from_slice_get store.logs log (records_in (words_of bytes.0)) [] (get-map (λ b. records_in (words_of b)) (take g.nodes (map a.now areas)) log bytes.0 bytes.1) in
            subst (λ (ws : List ℕ). IsLogText ws (slice_index_or store.logs log [])) (sym words)
            (subst (λ (rs : List Record). IsLogText (words_of bytes.0) rs) (sym records) (records_text (words_of bytes.0)));
      }

  -- Some logs are empty

  module _ (laters : List D) (reset : AreReset a g areas laters) (images : List (List ℕ)) (are : AreImages a laters images) where
    same-area : (k : ℕ) (its : Left a g laters images reset.lengths are k) → g.nodes ≤ k → slice_get areas k ≡ Some its.area
    same-area k its of = sym (reset.segments k of) ∙ its.area_is

    pages-same : (store_of g images).pages ≡ store.pages
    pages-same =
        let count : length (store_of g images).pages ≡ g.segments = count-segments a g laters images reset.lengths are in
        let count_own : length store.pages ≡ g.segments = count-segments a g areas (map a.now areas) lengths own in
        ext_get_or [] (store_of g images).pages store.pages (count ∙ sym count_own) (λ s less.
        let known : s < g.segments = omega (arith, less, count) in
        let of : g.nodes ≤ g.nodes + s = omega arith in
        let its = left-of a g laters images reset.lengths are (g.nodes + s) (omega (arith, known)) in
        let area_is = same-area (g.nodes + s) its of in
        let one : pages_read g.pages its.image ≡ pages_read g.pages (a.now its.area) =
        same-counting (page_read its.image) (page_read (a.now its.area)) 0 g.pages (λ page within. one-page (g.nodes + s) page its.area of (omega (arith, within)) area_is its.image its.is) in
        get_or_from_slice_get (store_of g images).pages s (pages_read g.pages its.image) [] (get-map (pages_read g.pages) (drop g.nodes images) s its.image (get-drop g.nodes s images ∙ its.image_is))
        ∙ one
        ∙ sym (get_or_from_slice_get store.pages s (pages_read g.pages (a.now its.area)) []
        (get-map (pages_read g.pages) (drop g.nodes (map a.now areas)) s (a.now its.area) (get-drop g.nodes s (map a.now areas) ∙ get-map a.now areas (g.nodes + s) its.area area_is))))

    one-log : (log : ℕ) → (slice_index_or (store_of g images).logs log [] ≡ slice_index_or store.logs log []) ⊎ (slice_index_or (store_of g images).logs log [] ≡ [])
    one-log log =
        let count : length (store_of g images).logs ≡ g.nodes = count-logs a g laters images reset.lengths are in
        let count_own : length store.logs ≡ g.nodes = count-logs a g areas (map a.now areas) lengths own in
        elim (cases_lt log g.nodes) [
          | inl within ↦
              let its = left-of a g laters images reset.lengths are log (omega (arith, within)) in
              let was = left-of a g areas (map a.now areas) lengths own log (omega (arith, within)) in
              let read : slice_index_or (store_of g images).logs log [] ≡ records_in (words_of its.image) = log-left a g laters images reset.lengths are log its within in
              let image_is : was.image ≡ a.now was.area = one_item was.image (a.now was.area) (sym was.image_is ∙ get-map a.now areas log was.area was.area_is) in
              let had : slice_index_or store.logs log [] ≡ records_in (words_of (a.now was.area)) =
              log-left a g areas (map a.now areas) lengths own log was within ∙ ap (λ (image : List ℕ). records_in (words_of image)) image_is in
              (elim (reset.logs log was.area its.area within was.area_is its.area_is (reset.honest log its.area its.area_is) its.image its.is) [
                | inl none ↦ inr (read ∙ records_are (words_of its.image) [] none)
                | inr whole ↦ inl (read ∙ records_are (words_of its.image) (records_in (words_of (a.now was.area))) whole ∙ sym had)
              ])
          | inr past ↦ inl (past-end (store_of g images).logs log [] (omega (arith, past, count)) ∙ sym (past-end store.logs log [] (omega (arith, past, count_own))))
        ]

    partly : IsPartlyReset store (store_of g images)
    partly = record {
      pages = pages-same;
      count = count-logs a g laters images reset.lengths are ∙ sym (count-logs a g areas (map a.now areas) lengths own);
      logs = one-log;
    }

    pub reset-merge : MergesTo (store_of g images) content numbers
    reset-merge = reset-merges store (store_of g images) content numbers merges still (have-bytes g texts-of store texts merges.1) partly
