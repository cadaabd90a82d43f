-- How far a recovery is, by the part that is under way.
use Rattle.std.proofs.Common.{◌≡◌, ℕ, suc, ◌+◌, ◌-◌, ◌*◌, ◌<◌, ◌≤◌, Bool, true, false, Option, Some, None, List, [], ◌∷◌, ◌++◌, map, take, length, true≢false, refl, sym, ◌∙◌, ap, subst, arith, inl, inr}
use Rattle.std.specs.Prelude.{slice_get, slice_set, drop, if◌then◌else◌}
use Rattle.std.proofs.lemmas.Option.{none-some, slice_get_within, same_Some as one_item}
use Rattle.std.proofs.lemmas.Bool.{cases_lt}
use Rattle.std.proofs.lemmas.List.{length-drop, length-map, length-take-le, take-append-le, take_all}
use Rattle.lc_disk.specs.Area.{IsClean}
use Rattle.lc_disk.specs.declared.area.Area.{Ghosts}
use Rattle.lc_page.specs.Writing.{calls_of}
use Rattle.lc_page.specs.declared.writing.Writing.{Writing}
use Rattle.lc_page.specs.declared.writing.Writing.TheVariants.{AtClosing, AtClosed, AtFilling, AtFilled, AtOpening}
use Rattle.lc_record.specs.Content.{Content}
use Rattle.lc_record.specs.Words.{words_of}
use Rattle.lc_record.specs.declared.geometry.Geometry.{Geometry}
use Rattle.lc_record.proofs.ListLemmas.{slice_get_some as get-some, slice_get-map_some as get-map, slice_get-take as get-take, slice_get-drop as get-drop, slice_get_from_map as from-map}
use Rattle.lc_recover.proofs.Images.{count-areas}
use Rattle.lc_recover.proofs.ReadLemmas.{count-read}
use Rattle.lc_recover.proofs.SameArea.{same-areas-fit}
use Rattle.lc_recover.specs.Page.{pages_of}
use Rattle.lc_recover.specs.Pages.{AreKept}
use Rattle.lc_recover.specs.Reads.{area_count, AllMergeTo, HaveLengths, AreHonest, AreOfBytes}
use Rattle.lc_recover.specs.KeptAreas.{IsReadWhole, read_count}
use Rattle.lc_recover.specs.Merging.{IsMergedStage}
use Rattle.lc_recover.specs.Recovery.{Recovering, recovering, IsDone, IsLast, IsGoing, IsMerged, MakesItsCall}
use Rattle.lc_recover.specs.RecoveryPhase.{Fits, IsWriting}
use Rattle.lc_recover.specs.Steps.{pages_in, all_pages, calls_done, writes_done, resets_done, first_steps, steps_of, IsOver}
use Rattle.lc_recover.specs.declared.redo_range.RedoRange.{RedoRange}
use Rattle.lc_recover.specs.declared.finished.Finished.{Finished}
use Rattle.lc_recover.specs.declared.log_resets.LogResets.{LogResets}
use Rattle.lc_recover.specs.declared.page_writes.PageWrites.{PageWrites}
use Rattle.lc_recover.specs.declared.read_areas.ReadAreas.{ReadAreas}
use Rattle.lc_recover.specs.declared.segment_pages.SegmentPages.{SegmentPages}
use Rattle.lc_recover.specs.declared.recovery_phase.RecoveryPhase.{RecoveryPhase}
use Rattle.lc_recover.specs.declared.recovery_phase.RecoveryPhase.TheVariants.{Syncing, Reading, Writing as WritingPages, Resetting, Done}

pub same_lists : {A : Type 0} (xs ys : List A) → length xs ≡ length ys → ((k : ℕ) → k < length xs → slice_get xs k ≡ slice_get ys k) → xs ≡ ys
same_lists [] [] long same = refl
same_lists [] (y ∷ ys) long same = absurd (omega (arith, long))
same_lists (x ∷ xs) [] long same = absurd (omega (arith, long))
same_lists (x ∷ xs) (y ∷ ys) long same =
    let first : x ≡ y = one_item x y (same 0 (omega arith)) in
    let others : xs ≡ ys = same_lists xs ys (omega (arith, long)) (λ k less. same (suc k) (omega (arith, less))) in
    cc

few-calls : (w : Writing) → calls_of w ≤ 5
few-calls (AtClosing x) = omega arith
few-calls (AtClosed x) = omega arith
few-calls (AtFilling x) = omega arith
few-calls (AtFilled x) = omega arith
few-calls (AtOpening x) = omega arith

some-calls : (w : Writing) → 1 ≤ calls_of w
some-calls (AtClosing x) = omega arith
some-calls (AtClosed x) = omega arith
some-calls (AtFilling x) = omega arith
some-calls (AtFilled x) = omega arith
some-calls (AtOpening x) = omega arith

-- where no call is done none is under way
none-written : (written : ℕ) (current : Option Writing) → 6 * written + calls_done current ≡ 0 → (write : Writing) → current ≡ Some write → ⊥
none-written written None none write is = none-some write is
none-written written (Some own) none write is = omega (arith, none, some-calls own)

none-closing : (next : ℕ) (closing : Bool) → 2 * next + (if closing then 1 else 0) ≡ 0 → closing ≡ true → ⊥
none-closing next true none is = omega (arith, none)
none-closing next false none is = true≢false (sym is)

-- what was written back into a vector of as many items
pub written-back : {A : Type 0} (n : ℕ) (news items : List A) → length items ≡ n → length news ≡ n → take n (news ++ drop (length news) items) ≡ news
written-back n news items long same = take-append-le n news (drop (length news) items) (omega (arith, same)) ∙ take_all n news (omega (arith, same))

five-calls : (current : Option Writing) → calls_done current ≤ 5
five-calls None = omega arith
five-calls (Some write) = few-calls write

some-pages : (changes : List RedoRange) → 0 < length changes → 0 < length (pages_of changes)
some-pages [] some = some
some-pages (c ∷ cs) some = omega arith

-- the calls of the page writes that are done leave some, or the resets are next
pub few-writes : (g : Geometry) (w : PageWrites) → IsWriting g w → (current : Option Writing) → w.current ≡ current → calls_done current ≤ 6 * length (pages_of (drop w.next w.merged.changes.items))
few-writes g w i None is = omega arith
few-writes g w i (Some write) is =
    let draft = i.drafts write is in
    let within : w.next < length w.merged.changes.items = slice_get_within w.merged.changes.items w.next draft.0 draft.1 in
    let left : 0 < length (pages_of (drop w.next w.merged.changes.items)) = some-pages (drop w.next w.merged.changes.items) (omega (arith, within, length-drop w.next w.merged.changes.items)) in
    omega (arith, left, few-calls write)

-- while a page is left, fewer calls are done than those of all pages
pub left-writes : (g : Geometry) (w : PageWrites) → IsWriting g w → w.next < length w.merged.changes.items → writes_done w < 6 * all_pages w
left-writes g w i less =
    let left : 0 < length (pages_of (drop w.next w.merged.changes.items)) = some-pages (drop w.next w.merged.changes.items) (omega (arith, less, length-drop w.next w.merged.changes.items)) in
    omega (arith, left, five-calls w.current)

pub few-resets : (g : Geometry) (r : LogResets) → r.next < g.nodes → resets_done r < 2 * g.nodes
few-resets g r less =
    let go : (b : Bool) → 2 * r.next + (if b then 1 else 0) < 2 * g.nodes = λ b.
    elim b as (λ b. 2 * r.next + (if b then 1 else 0) < 2 * g.nodes) [
      | true ↦ omega (arith, less)
      | false ↦ omega (arith, less)
    ] in
    go r.is_closing

-- so many calls of the resets are done as are wanted but one: the gate of the last log is written
last-reset : (g : Geometry) (next : ℕ) (closing : Bool) → 2 * next + (if closing then 1 else 0) + 1 ≡ 2 * g.nodes → (closing ≡ true) × (next + 1 ≡ g.nodes)
last-reset g next true is = (refl, omega (arith, is))
last-reset g next false is = absurd (omega (arith, is))

module _ {D : Type 0} (a : Ghosts D) (g : Geometry) (areas : List D) where
  pub over-done : (stage : RecoveryPhase) → IsOver stage → IsDone (recovering g areas stage)
  over-done (Syncing synced) over = absurd over
  over-done (Reading r) over = absurd over
  over-done (WritingPages w) over = absurd over
  over-done (Resetting r) over = absurd over
  over-done (Done f) over = (f.written, refl, refl)

  pub not_over-done : (stage : RecoveryPhase) → IsGoing a g stage areas → (IsOver stage → ⊥) → IsDone (recovering g areas stage) → ⊥
  not_over-done (Syncing synced) going more done = none-some done.0 done.1
  not_over-done (Reading r) going more done = none-some done.0 done.1
  not_over-done (WritingPages w) going more done =
      let pages : all_pages w ≡ done.0 = one_item (all_pages w) done.0 done.1 in
      omega (arith, pages, done.2, few-writes g w going.fits.1 w.current refl, g.some_nodes)
  not_over-done (Resetting r) going more done =
      let pages : r.written ≡ done.0 = one_item r.written done.0 done.1 in
      omega (arith, pages, done.2, few-resets g r going.next)
  not_over-done (Done f) going more done = more tt

  -- a step after which all is done is the last
  pub done-last : (stage next : RecoveryPhase) (news : List D) → IsGoing a g stage areas → ((pages : ℕ) → pages_in stage ≡ Some pages → pages_in next ≡ Some pages) → steps_of g next ≡ steps_of g stage + 1
      → IsDone (recovering g news next) → IsLast (recovering g areas stage)
  done-last (Syncing synced) next news going pages step done = absurd (omega (arith, going.fits.1, step, done.2, g.some_nodes))
  done-last (Reading r) next news going pages step done = absurd (omega (arith, count-read g going.fits.1.0 r going.fits.1.2, going.fits.1.1.count, step, done.2, g.some_nodes))
  done-last (WritingPages w) next news going pages step done =
      let same : all_pages w ≡ done.0 = one_item (all_pages w) done.0 (sym (pages (all_pages w) refl) ∙ done.1) in
      (all_pages w, refl, omega (arith, same, step, done.2))
  done-last (Resetting r) next news going pages step done =
      let same : r.written ≡ done.0 = one_item r.written done.0 (sym (pages r.written refl) ∙ done.1) in
      (r.written, refl, omega (arith, same, step, done.2))
  done-last (Done f) next news going pages step done =
      let same : f.written ≡ done.0 = one_item f.written done.0 (sym (pages f.written refl) ∙ done.1) in
      (f.written, refl, omega (arith, same, step, done.2))

  -- the gate of the last log is written
  pub closing-last : (r : LogResets) → r.is_closing ≡ true → r.next + 1 ≡ g.nodes → IsLast (recovering g areas (Resetting r))
  closing-last r closing last =
      (r.written, refl, omega (arith, last, ap {B = ℕ} (λ (b : Bool). if b then 1 else 0) closing))

  pub last-closing : (r : LogResets) → IsLast (recovering g areas (Resetting r)) → (r.is_closing ≡ true) × (r.next + 1 ≡ g.nodes)
  last-closing r last =
      let pages : r.written ≡ last.0 = one_item r.written last.0 last.1 in
      last-reset g r.next r.is_closing (omega (arith, pages, last.2))

  pub writing-not_last : (w : PageWrites) → IsGoing a g (WritingPages w) areas → IsLast (recovering g areas (WritingPages w)) → ⊥
  writing-not_last w going last =
      let pages : all_pages w ≡ last.0 = one_item (all_pages w) last.0 last.1 in
      omega (arith, pages, last.2, few-writes g w going.fits.1 w.current refl, g.some_nodes)

  pub not_done : (stage : RecoveryPhase) → ((f : Finished) → stage ≡ Done f → ⊥) → IsOver stage → ⊥
  not_done (Syncing synced) other over = over
  not_done (Reading r) other over = over
  not_done (WritingPages w) other over = over
  not_done (Resetting r) other over = over
  not_done (Done f) other over = other f refl

  pub not_resetting-not_last : (stage : RecoveryPhase) → IsGoing a g stage areas → ((r : LogResets) → stage ≡ Resetting r → ⊥) → IsLast (recovering g areas stage) → ⊥
  not_resetting-not_last (Syncing synced) going other last = none-some last.0 last.1
  not_resetting-not_last (Reading r) going other last = none-some last.0 last.1
  not_resetting-not_last (WritingPages w) going other last = writing-not_last w going last
  not_resetting-not_last (Resetting r) going other last = other r refl
  not_resetting-not_last (Done f) going other last =
      let pages : f.written ≡ last.0 = one_item f.written last.0 last.1 in
      omega (arith, pages, last.2)

module _ {D : Type 0} (a : Ghosts D) (g : Geometry) where
  -- nothing is done yet
  pub begun-going : (areas : List D) → HaveLengths a g areas → AreOfBytes a areas → IsGoing a g (Syncing 0) areas
  begun-going areas lengths bytes = record {
    fits = (
      record {
        count = count-areas a g areas lengths;
        each = λ k area is. record {
          len = sym (get-map (λ d. length (a.now d)) areas k area is) ∙ lengths k;
          bytes = bytes k area is;
          log = λ honest less none. absurd (omega (arith, none));
          segment = λ honest more none. absurd (omega (arith, none));
        };
      },
      omega (arith, g.some_nodes),
    );
    next = tt;
    few = λ pages none. absurd (none-some pages none);
  }

  -- an area was read
  pub read-going : (stage : RecoveryPhase) (areas : List D) (k : ℕ) (old new : D) → slice_get areas k ≡ Some old →
      a.honest new ≡ a.honest old → length (a.now new) ≡ length (a.now old) → (a.honest old ≡ true → a.now new ≡ a.now old) → (a.honest old ≡ true → (p : ℕ) → a.dirty new p ≡ a.dirty old p) →
      IsGoing a g stage areas → IsGoing a g stage (slice_set areas k new)
  read-going stage areas k old new is honest len same same_dirty going = record {
    fits = (same-areas-fit a g stage areas k old new is honest len same same_dirty going.fits.0, going.fits.1);
    next = going.next;
    few = going.few;
  }

  -- all areas were read, whatever they are
  pub all-read : (areas : List D) (r : ReadAreas) → (fits : Fits a g (Reading r) areas) → read_count r ≡ length areas → IsReadWhole g fits.1.0 r
  all-read areas r fits all = record {
    count = sym (count-read g fits.1.0 r fits.1.2) ∙ all ∙ fits.0.count;
    first = fits.1.1;
    kept = fits.1.2;
  }

  -- where they are honest, as they are
  module _ (areas : List D) (r : ReadAreas) (fits : Fits a g (Reading r) areas) (honest : AreHonest a areas) (all : read_count r ≡ length areas) where
    whole : IsReadWhole g fits.1.0 r
    whole = all-read areas r fits all

    now-count : length (map a.now areas) ≡ area_count g
    now-count = length-map areas a.now ∙ fits.0.count

    logs-count : length r.kept.logs.items ≡ g.nodes
    logs-count = ap (λ (l : List (List ℕ)). length l) fits.1.2.logs ∙ length-map (take g.nodes fits.1.0) words_of ∙ length-take-le g.nodes fits.1.0 (omega (arith, whole.count))

    segments-count : length r.kept.segments.items ≡ g.segments
    segments-count = fits.1.2.segments.count ∙ length-drop g.nodes fits.1.0 ∙ omega (arith, whole.count)

    its-words : (k : ℕ) → k < length r.kept.logs.items → slice_get r.kept.logs.items k ≡ slice_get (map words_of (take g.nodes (map a.now areas))) k
    its-words k less =
        let log : k < g.nodes = omega (arith, less, logs-count) in
        let area = get-some areas k (omega (arith, log, fits.0.count)) in
        let words = get-some r.kept.logs.items k less in
        let its = (fits.0.each k area.0 area.1).log (honest k area.0 area.1) log in
        words.1 ∙ ap Some (its.words_are words.0 words.1)
        ∙ sym (get-map words_of (take g.nodes (map a.now areas)) k (a.now area.0) (get-take g.nodes k (map a.now areas) log ∙ get-map a.now areas k area.0 area.1))

    its-pages : (s : ℕ) (bytes : List ℕ) (pages : SegmentPages) → slice_get (drop g.nodes (map a.now areas)) s ≡ Some bytes → slice_get r.kept.segments.items s ≡ Some pages → AreKept bytes g.pages pages
    its-pages s bytes pages bytes_is pages_is =
        let area = from-map a.now areas (g.nodes + s) bytes (sym (get-drop g.nodes s (map a.now areas)) ∙ bytes_is) in
        let its = (fits.0.each (g.nodes + s) area.0 area.1).segment (honest (g.nodes + s) area.0 area.1) (omega arith) in
        let here : s ≡ g.nodes + s - g.nodes = omega arith in
        subst (λ (l : List ℕ). AreKept l g.pages pages) area.2 (its.pages_are pages (ap (slice_get r.kept.segments.items) (sym here) ∙ pages_is))

    pub read-now : IsReadWhole g (map a.now areas) r
    read-now = record {
      count = now-count;
      first = record {
        count = omega (arith, now-count);
        lengths = λ k bytes is. (let area = from-map a.now areas k bytes is in ap (λ (l : List ℕ). Some (length l)) (sym area.2) ∙ (fits.0.each k area.0 area.1).len);
      };
      kept = record {
        logs = same_lists r.kept.logs.items (map words_of (take g.nodes (map a.now areas)))
            (logs-count ∙ sym (length-map (take g.nodes (map a.now areas)) words_of ∙ length-take-le g.nodes (map a.now areas) (omega (arith, now-count)))) its-words;
        segments = record {
          count = segments-count ∙ sym (length-drop g.nodes (map a.now areas) ∙ omega (arith, now-count));
          each = its-pages;
        };
      };
    }

  -- so the merge of what was read is that of what the areas read as
  pub merged-now : (areas : List D) (stage : RecoveryPhase) → IsMergedStage g (map a.now areas) stage → IsMerged a (recovering g areas stage)
  merged-now areas stage merged = record {
    content = merged.content;
    numbers = merged.numbers;
    merges = merged.merges;
    pages = merged.pages;
    kept = merged.kept;
    behind = merged.behind;
  }

  -- No position is dirty from the last sync up to the first write

  clean-writing : (w : PageWrites) (areas : List D) → Fits a g (WritingPages w) areas → writes_done w ≡ 0 → AreHonest a areas → (k : ℕ) (area : D) → slice_get areas k ≡ Some area → IsClean (a.dirty area)
  clean-writing w areas fits none honest k area is =
      let its = fits.0.each k area is in
      let alive : a.honest area ≡ true = honest k area is in
      elim (cases_lt k g.nodes) [
        | inl log ↦ (its.log alive log).clean
        | inr segment ↦
            let within : k - g.nodes < g.segments = omega (arith, segment, slice_get_within areas k area is, fits.0.count) in
            let pages = get-some w.kept.segments.items (k - g.nodes) (omega (arith, within, fits.1.pages.count)) in
            (its.segment alive segment pages.0 pages.1).clean (λ page write current. none-written w.written w.current none write current.0)
      ]

  clean-resetting : (r : LogResets) (areas : List D) → Fits a g (Resetting r) areas → resets_done r ≡ 0 → AreHonest a areas → (k : ℕ) (area : D) → slice_get areas k ≡ Some area → IsClean (a.dirty area)
  clean-resetting r areas fits none honest k area is =
      let its = fits.0.each k area is in
      let alive : a.honest area ≡ true = honest k area is in
      elim (cases_lt k g.nodes) [
        | inl log ↦
            (elim (its.log alive log) [
              | inl empty ↦ empty.1.clean
              | inr rest ↦
                  (elim rest [
                    | inl shut ↦ absurd (none-closing r.next r.is_closing none shut.1)
                    | inr reads ↦ reads.2.clean
                  ])
            ])
        | inr segment ↦
            let within : k - g.nodes < g.segments = omega (arith, segment, slice_get_within areas k area is, fits.0.count) in
            let pages = get-some r.segments.items (k - g.nodes) (omega (arith, within, fits.1.whole.pages.count)) in
            (its.segment alive segment pages.0 pages.1).clean
      ]

  pub clean-so_far : (stage : RecoveryPhase) (areas : List D) → IsGoing a g stage areas → AreHonest a areas → area_count g ≤ steps_of g stage → steps_of g stage ≤ first_steps g → (k : ℕ) (area : D) → slice_get areas k ≡ Some area → IsClean (a.dirty area)
  clean-so_far (Syncing synced) areas going honest synced_all before k area is = absurd (omega (arith, synced_all, going.fits.1))
  clean-so_far (Reading r) areas going honest synced_all before k area is =
      let its = going.fits.0.each k area is in
      let alive : a.honest area ≡ true = honest k area is in
      elim (cases_lt k g.nodes) [
        | inl log ↦ (its.log alive log).clean
        | inr segment ↦ (its.segment alive segment).clean
      ]
  clean-so_far (WritingPages w) areas going honest synced_all before k area is = clean-writing w areas going.fits (omega (arith, before)) honest k area is
  clean-so_far (Resetting r) areas going honest synced_all before k area is = clean-resetting r areas going.fits (omega (arith, before)) honest k area is
  clean-so_far (Done f) areas going honest synced_all before k area is = absurd (omega (arith, before, g.some_nodes))

-- From a step of the parts to one of the recovery

pub started : {D : Type 0} (g : Geometry) (lent areas : List D) (taken stage : RecoveryPhase) (view : Recovering D) → lent ≡ areas → taken ≡ stage → recovering g areas stage ≡ view → recovering g lent taken ≡ view
started {D = D} g lent areas taken stage view same_areas same_stage is =
    ap (λ (l : List D). recovering g l taken) same_areas ∙ ap (λ (s : RecoveryPhase). recovering g areas s) same_stage ∙ is

pub merges-carried : {D : Type 0} (a : Ghosts D) (g : Geometry) (olds news after : List D) (stage : RecoveryPhase) (view : Recovering D) → recovering g olds stage ≡ view → after ≡ news → (content : Content) (numbers : ℕ → ℕ) →
    (AreHonest a news → AllMergeTo a g olds content numbers → AllMergeTo a g news content numbers) →
    AreHonest a after → AllMergeTo a view.geometry view.areas content numbers → AllMergeTo a view.geometry after content numbers
merges-carried {D = D} a g olds news after stage view start same content numbers keeps honest was =
    subst (λ (l : List D). AllMergeTo a view.geometry l content numbers) (sym same)
    (subst (λ (r : Recovering D). AllMergeTo a r.geometry news content numbers) start
    (keeps (subst (λ (l : List D). AreHonest a l) same honest)
    (subst (λ (r : Recovering D). AllMergeTo a r.geometry r.areas content numbers) (sym start) was)))

pub call-carried : {D : Type 0} (a : Ghosts D) (g : Geometry) (olds news after : List D) (stage : RecoveryPhase) (view : Recovering D) (ok : Bool) → recovering g olds stage ≡ view → after ≡ news →
    MakesItsCall a (recovering g olds stage) news ok → MakesItsCall a view after ok
call-carried {D = D} a g olds news after stage view ok start same call =
    subst (λ (l : List D). MakesItsCall a view l ok) (sym same) (subst (λ (r : Recovering D). MakesItsCall a r news ok) start call)

pub reads-carried : {D : Type 0} (a : Ghosts D) (g : Geometry) (olds news after : List D) (stage : RecoveryPhase) (view : Recovering D) → recovering g olds stage ≡ view → after ≡ news →
    (steps_of g stage + 1 < first_steps g → AreHonest a olds → map a.now news ≡ map a.now olds) →
    view.steps + 1 < first_steps view.geometry → AreHonest a view.areas → map a.now after ≡ map a.now view.areas
reads-carried {D = D} a g olds news after stage view start same reads =
    subst (λ (r : Recovering D). r.steps + 1 < first_steps r.geometry → AreHonest a r.areas → map a.now after ≡ map a.now r.areas) start
    (λ before honest. ap (map a.now) same ∙ reads before honest)
