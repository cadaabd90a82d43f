-- What a stop may leave of the areas of a store that is up merges to what a cut keeps, and so do the areas after the
-- stop.
use Rattle.std.proofs.Common.{true, ◌≡◌, ℕ, zero, suc, ◌+◌, ◌<◌, List, [], ◌∷◌, ◌++◌, length, map, take, None, Some, get_or, refl, sym, ap, subst, ◌∙◌, arith}
use Rattle.std.specs.Prelude.{slice_get, slice_index, slice_index_or}
use Rattle.std.proofs.lemmas.List.{ext_get_or, length-map, length-take-le}
use Rattle.std.proofs.lemmas.Option.{get_or_from_slice_get, slice_get-get_or, slice_get_within}
use Rattle.lc_disk.specs.Area.{IsClean, IsImage}
use Rattle.lc_disk.specs.declared.area.Area.{Ghosts}
use Rattle.lc_disk.proofs.Images.{image_clean}
use Rattle.lc_record.specs.Content.{Content, segment_of}
use Rattle.lc_record.specs.Transaction.{effects}
use Rattle.lc_record.specs.Words.{words_of}
use Rattle.lc_record.specs.declared.geometry.Geometry.{Geometry}
use Rattle.lc_record.proofs.ListLemmas.{slice_get_some as get-some, slice_get-map_some as get-map, slice_get-take as get-take, slice_get-drop as get-drop, slice_get_from_map as from-map}
use Rattle.lc_log.specs.InPlace.{records_in}
use Rattle.lc_model.specs.History.{Cut, kept}
use Rattle.lc_model.specs.Merge.{MergesTo, Page}
use Rattle.lc_model.specs.Merging.{counted_all}
use Rattle.lc_model.specs.State.{Setting, State}
use Rattle.lc_model.specs.Stops.{MayCut}
use Rattle.lc_model.specs.Stored.{IsImage as IsImageOf, Shows}
use Rattle.lc_model.proofs.Result.{merged}
use Rattle.lc_model.proofs.Unrefused.{image-merges}
use Rattle.lc_recover.specs.Reads.{AllMergeTo, AreHonest, AreImages, HaveLengths, area_count, store_of}
use Rattle.lc_core.specs.Areas.{AreOf, AreStopped, IsStopped}
use Rattle.lc_core.specs.Faults.{area_failures}
use Rattle.lc_settled.specs.Numbers.{Numbers}
use Rattle.lc_desk.specs.Pages.{FitsPages}
use Rattle.lc_core.specs.Pages.{areas_of}
use Rattle.lc_events.specs.Running.{FitsRunning}
use Rattle.lc_desk.specs.declared.pages.Pages.{Pages}
use Rattle.lc_core.specs.declared.up.Up.{Up}
use Rattle.lc_core.proofs.ImagesOfLogs.{IsCutAt, log_cut}
use Rattle.lc_core.proofs.ImagesOfPages.{page_of, pages_shape, shows_stored}
use Rattle.lc_desk.proofs.PageImages.{images_stored}

-- a number for each of so many nodes
pub record Chosen (P : ℕ → ℕ → Type 0) (n : ℕ) : Type 0 where
  pub numbers : List ℕ
  pub count : length numbers ≡ n
  pub each : (k : ℕ) → k < n → P k (slice_index numbers k)

choose : (P : ℕ → ℕ → Type 0) (n : ℕ) → ((k : ℕ) → k < n → (number : ℕ) × P k number) → Chosen P n
choose P zero f = record { numbers = []; count = refl; each = λ k below. absurd (omega (arith, below)) }
choose P (suc n) f =
    let first = f 0 (omega arith) in
    let others = choose (λ k. P (suc k)) n (λ k below. f (suc k) (omega (arith, below))) in
    record {
      numbers = first.0 ∷ others.numbers;
      count = ap suc others.count;
      each = λ k. elim k as (λ (k : ℕ). k < suc n → P k (slice_index (first.0 ∷ others.numbers) k)) [
        | zero ↦ λ below. first.1
        | suc k ↦ λ below. others.each k (omega (arith, below))
      ];
    }

module _ {D : Type 0} (a : Ghosts D) where
  module _ (m : Setting) (s : State) (x : Numbers) (up : Up D a) (areas : List D) (images : List (List ℕ)) (fits : FitsRunning a m up.running s x) (pages : FitsPages a m up.segments.items x)
      (honest : AreHonest a areas) (are_of : AreOf a up areas) (are : AreImages a areas images) where
    count : length images ≡ area_count m.geometry
    count = are.count ∙ are_of.count ∙ ap area_count (sym fits.geometry_is)

    abbrev logs : List (List ℕ)
    logs = take m.geometry.nodes images

    -- the log of each node is cut so
    node_cut : (n : ℕ) → n < m.geometry.nodes → (number : ℕ) × IsCutAt m s x.disks n (slice_index_or (store_of m.geometry images).logs n []) number
    node_cut n below =
        let nodes : m.geometry.nodes ≡ up.running.geometry.nodes = ap (λ (g : Geometry). g.nodes) fits.geometry_is in
        let all = up.running.all_nodes in
        let node = get-some up.running.nodes.items n (omega (arith, below, nodes, all)) in
        let device = get-some areas n (omega (arith, below, count, are.count)) in
        let j = node.0.journal in
        let image : List ℕ = get_or images n [] in
        let there : slice_get images n ≡ Some image = slice_get-get_or images n [] (omega (arith, below, count)) in
        let read : slice_index_or (store_of m.geometry images).logs n [] ≡ records_in (words_of image) =
        get_or_from_slice_get (store_of m.geometry images).logs n (records_in (words_of image)) []
        (get-map (λ bytes. records_in (words_of bytes)) logs n image (get-take m.geometry.nodes n images below ∙ there)) in
        let cut = log_cut a m n j.log j.records j.dropped j.trimmed j.taken j.acked s x device.0 (fits.each n node.0 node.1).journal j.dropped_acked j.acked_taken (fits.coherent.resets n)
        (are_of.logs n node.0 node.1 ∙ device.1) (honest n device.0 device.1) image (are.each n device.0 device.1) in
        (cut.0, subst (λ log. IsCutAt m s x.disks n log cut.0) (sym read) cut.1)

    -- each page is one that the disks show
    page_shown : (segment page : ℕ) (text : Page) → slice_get (segment_of segment (store_of m.geometry images).pages) page ≡ Some text → Shows x.disks segment page text
    page_shown segment page text is =
        let its = page_of m.geometry images count segment page text is in
        let nodes : m.geometry.nodes ≡ up.running.geometry.nodes = ap (λ (g : Geometry). g.nodes) fits.geometry_is in
        let known = its.known in
        let device = get-some areas (m.geometry.nodes + its.before) (omega (arith, known, count, are.count)) in
        let there : slice_get (areas_of a up.segments.items) its.before ≡ Some device.0 =
        ap (λ (l : List D). slice_get l its.before) are_of.segments ∙ get-drop up.running.geometry.nodes its.before areas ∙ ap (λ (n : ℕ). slice_get areas (n + its.before)) (sym nodes) ∙ device.1 in
        let one = from-map (λ (p : Pages D a). p.area) up.segments.items its.before device.0 there in
        let image_is : slice_index_or images (m.geometry.nodes + its.before) [] ≡ its.image = get_or_from_slice_get images (m.geometry.nodes + its.before) its.image [] its.image_is in
        let left : IsImage (a.now one.0.area) (a.dirty one.0.area) its.image =
        subst (λ (d : D). IsImage (a.now d) (a.dirty d) its.image) (sym one.2)
        (subst (λ (l : List ℕ). IsImage (a.now device.0) (a.dirty device.0) l) image_is (are.each (m.geometry.nodes + its.before) device.0 device.1)) in
        subst (λ (n : ℕ). Shows x.disks n page text) (sym its.next)
        (shows_stored (its.before + 1) page its.image x text
        (images_stored a m.geometry (its.before + 1) page one.0 x its.image (subst (λ (d : D). a.honest d ≡ true) (sym one.2) (honest (m.geometry.nodes + its.before) device.0 device.1)) (pages.each its.before one.0 one.1) its.within left)
        its.text_is)

    -- each choice of images of the areas is one that the machine allows, cut so
    pub images_fit : (cut : Cut) × IsImageOf m s x.disks cut (store_of m.geometry images)
    images_fit =
        let chosen = choose (λ n number. IsCutAt m s x.disks n (slice_index_or (store_of m.geometry images).logs n []) number) m.geometry.nodes node_cut in (
          chosen.numbers,
          record {
            nodes = chosen.count;
            cuts = λ n below. (chosen.each n below).0;
            count = length-map logs (λ bytes. records_in (words_of bytes)) ∙ length-take-le m.geometry.nodes images (omega (arith, count));
            logs = λ n below. (chosen.each n below).1;
            shape = pages_shape m.geometry images count;
            pages = page_shown;
          },
        )

    -- so it merges, without a refusal, to what a cut keeps that a stop may make
    pub images_merge : (cut : Cut) × MayCut m.geometry s cut
        × MergesTo (store_of m.geometry images) (effects (s.earlier ++ kept s.history cut) m.start) (counted_all x.disks.numbers (kept s.history cut))
    images_merge = (
      images_fit.0,
      (merged m s x.disks images_fit.0 (store_of m.geometry images) fits.stored images_fit.1).0,
      image-merges m s x.disks images_fit.0 (store_of m.geometry images) fits.stored images_fit.1,
    )

  -- areas with nothing dirty have one choice of images: what they read as
  pub only_images : (areas : List D) (images : List (List ℕ)) → ((k : ℕ) (device : D) → slice_get areas k ≡ Some device → IsClean (a.dirty device)) → AreImages a areas images → images ≡ map a.now areas
  only_images areas images clean are =
      ext_get_or [] images (map a.now areas) (are.count ∙ sym (length-map areas a.now)) (λ k below.
      let device = get-some areas k (omega (arith, below, are.count)) in
      image_clean (a.now device.0) (a.dirty device.0) (clean k device.0 device.1) (get_or images k []) (are.each k device.0 device.1)
      ∙ sym (get_or_from_slice_get (map a.now areas) k (a.now device.0) [] (get-map a.now areas k device.0 device.1)))

  -- The areas after a stop

  -- an area, and what a stop has made of it
  record OneStopped (olds : List D) (k : ℕ) (new : D) : Type 0 where
    pub old : D
    pub old_is : slice_get olds k ≡ Some old
    pub is : IsStopped a old new

  module _ (olds news : List D) (stopped : AreStopped a olds news) where
    one_stopped : (k : ℕ) (new : D) → slice_get news k ≡ Some new → OneStopped olds k new
    one_stopped k new there =
        let old = get-some olds k (omega (arith, slice_get_within news k new there, stopped.count)) in
        record { old = old.0; old_is = old.1; is = stopped.each k old.0 new old.1 there }

    pub stopped_honest : AreHonest a olds → AreHonest a news
    stopped_honest honest k new there = (let one = one_stopped k new there in one.is.honest ∙ honest k one.old one.old_is)

    pub stopped_clean : AreHonest a olds → (k : ℕ) (new : D) → slice_get news k ≡ Some new → IsClean (a.dirty new)
    stopped_clean honest k new there = (let one = one_stopped k new there in one.is.clean (honest k one.old one.old_is))

    same_lengths : map (λ d. length (a.now d)) news ≡ map (λ d. length (a.now d)) olds
    same_lengths =
        ext_get_or 0 (map (λ d. length (a.now d)) news) (map (λ d. length (a.now d)) olds)
        (length-map news (λ d. length (a.now d)) ∙ stopped.count ∙ sym (length-map olds (λ d. length (a.now d)))) (λ k below.
        let new = get-some news k (omega (arith, below, length-map news (λ d. length (a.now d)))) in
        let one = one_stopped k new.0 new.1 in
        get_or_from_slice_get (map (λ d. length (a.now d)) news) k (length (a.now new.0)) 0 (get-map (λ d. length (a.now d)) news k new.0 new.1)
        ∙ one.is.same_length
        ∙ sym (get_or_from_slice_get (map (λ d. length (a.now d)) olds) k (length (a.now one.old)) 0 (get-map (λ d. length (a.now d)) olds k one.old one.old_is)))

    pub stopped_lengths : (g : Geometry) → HaveLengths a g olds → HaveLengths a g news
    stopped_lengths g lengths k = ap (λ (l : List ℕ). slice_get l k) same_lengths ∙ lengths k

    -- no failure is counted
    pub stopped_failures : area_failures a news ≡ area_failures a olds
    stopped_failures =
        ext_get_or None (area_failures a news) (area_failures a olds)
        (length-map news (λ d. Some (a.failures d)) ∙ stopped.count ∙ sym (length-map olds (λ d. Some (a.failures d)))) (λ k below.
        let new = get-some news k (omega (arith, below, length-map news (λ d. Some (a.failures d)))) in
        let one = one_stopped k new.0 new.1 in
        get_or_from_slice_get (area_failures a news) k (Some (a.failures new.0)) None (get-map (λ d. Some (a.failures d)) news k new.0 new.1)
        ∙ ap (λ (n : ℕ). Some n) one.is.failures
        ∙ sym (get_or_from_slice_get (area_failures a olds) k (Some (a.failures one.old)) None (get-map (λ d. Some (a.failures d)) olds k one.old one.old_is)))

  -- they read as one choice of images of what they were
  pub stopped_images : (olds news : List D) → AreHonest a olds → AreStopped a olds news → AreImages a olds (map a.now news)
  stopped_images olds news honest stopped = record {
    count = length-map news a.now ∙ stopped.count;
    each = λ k old there.
        let new = get-some news k (omega (arith, slice_get_within olds k old there, stopped.count)) in
        subst (λ (image : List ℕ). IsImage (a.now old) (a.dirty old) image)
        (sym (get_or_from_slice_get (map a.now news) k (a.now new.0) [] (get-map a.now news k new.0 new.1)))
        ((stopped.each k old new.0 there new.1).image (honest k old there));
  }

  -- and another stop leaves them so
  pub stopped_again : (olds news : List D) (images : List (List ℕ)) → AreHonest a olds → AreStopped a olds news → AreImages a news images → images ≡ map a.now news
  stopped_again olds news images honest stopped are = only_images news images (stopped_clean olds news stopped honest) are

  -- what is left of a store that was down merges to the same
  pub stopped_merge_same : (olds news : List D) (g : Geometry) (content : Content) (numbers : ℕ → ℕ) → AreHonest a olds → AllMergeTo a g olds content numbers → AreStopped a olds news
      → AllMergeTo a g news content numbers
  stopped_merge_same olds news g content numbers honest merges stopped images are =
      subst (λ (l : List (List ℕ)). MergesTo (store_of g l) content numbers) (sym (stopped_again olds news images honest stopped are)) (merges (map a.now news) (stopped_images olds news honest stopped))

  -- and of one that was up, to what a cut keeps that a stop may make
  pub stopped_merge_one : (m : Setting) (s : State) (x : Numbers) (up : Up D a) (olds news : List D) → FitsRunning a m up.running s x → FitsPages a m up.segments.items x
      → AreHonest a olds → AreOf a up olds → AreStopped a olds news
      → (cut : Cut) × MayCut m.geometry s cut
      × AllMergeTo a m.geometry news (effects (s.earlier ++ kept s.history cut) m.start) (counted_all x.disks.numbers (kept s.history cut))
  stopped_merge_one m s x up olds news fits pages honest are_of stopped =
      let one = images_merge m s x up olds (map a.now news) fits pages honest are_of (stopped_images olds news honest stopped) in (
        one.0,
        one.1,
        λ images are.
            subst (λ (l : List (List ℕ)). MergesTo (store_of m.geometry l) (effects (s.earlier ++ kept s.history one.0) m.start) (counted_all x.disks.numbers (kept s.history one.0)))
            (sym (stopped_again olds news images honest stopped are)) one.2,
      )
