-- What a merge of all that was read foretells.
use Rattle.std.proofs.Common.{◌≡◌, ◌↔◌, ℕ, zero, suc, ◌+◌, ◌-◌, ◌*◌, ◌<◌, ◌≤◌, ◌==◌, not, true, false, true≢false, eqb-true, IsTrue, Some, None, List, ◌++◌, length, drop, All, Contains, sym, ◌∙◌, ap, subst, arith, inl, inr, refl}
use Rattle.std.specs.Prelude.{slice_get}
use Rattle.std.specs.Global.{Vec}
use Rattle.std.specs.Option.{option_or}
use Rattle.std.proofs.lemmas.Bool.{cases_lt}
use Rattle.std.proofs.lemmas.List.{length-take}
use Rattle.std.proofs.lemmas.List.Elements.{All-contains, Contains-append_left, Contains-append_right}
use Rattle.std.proofs.lemmas.Option.{slice_get_past, get_or_from_slice_get}
use Rattle.lc_record.specs.Content.{Content, segment_of}
use Rattle.lc_record.specs.Newest.{byte_of}
use Rattle.lc_record.specs.declared.geometry.Geometry.{Geometry}
use Rattle.lc_record.specs.declared.record.RangeData.{RangeData}
use Rattle.lc_record.proofs.ListLemmas.{slice_get_some as get-some, slice_get-take as get-take, slice_get-drop as get-drop, Contains-slice_get as contains-at}
use Rattle.lc_model.specs.Merge.{Page, StoreText, MergesTo, all_records}
use Rattle.lc_model.specs.Merging.{byte_at}
use Rattle.lc_model.specs.Stored.{page_bytes}
use Rattle.lc_model.proofs.Bytes.{same-items}
use Rattle.lc_model.proofs.One.{by_number-one}
use Rattle.lc_model.proofs.Outcome.{one-value}
use Rattle.lc_recover.proofs.AreasRead.{same-store}
use Rattle.lc_recover.proofs.MergeStep.{merged-from}
use Rattle.lc_recover.proofs.MergedPage.{one_of_these, page_merged, ranges_stand}
use Rattle.lc_recover.proofs.PagesBehind.{pages-behind}
use Rattle.lc_recover.proofs.PagesOf.{are_listed}
use Rattle.lc_recover.specs.Forecast.{IsForecast, IsForetold, IsPageBehind, foretold}
use Rattle.lc_recover.specs.StoreContents.{IsKept, IsMerging}
use Rattle.lc_recover.specs.KeptAreas.{IsReadWhole}
use Rattle.lc_recover.specs.Page.{IsOf, AreAt, AreOfPage, byte_with}
use Rattle.lc_recover.specs.Pages.{bytes_of_page}
use Rattle.lc_recover.specs.declared.redo_range.RedoRange.{RedoRange}
use Rattle.lc_recover.specs.declared.store_contents.StoreContents.{StoreContents}
use Rattle.lc_recover.specs.declared.page_writes.PageWrites.{PageWrites}
use Rattle.lc_recover.specs.declared.read_areas.ReadAreas.{ReadAreas}
use Rattle.lc_recover.specs.declared.segment_pages.SegmentPages.{SegmentPages}

module _ (g : Geometry) (w : PageWrites) (is : IsForetold g w) where
  pub its-merge : MergesTo (foretold g w).store is.sound.content is.sound.numbers
  its-merge = subst (λ (s : StoreText). MergesTo s is.sound.content is.sound.numbers) is.same is.sound.result.merges

  pub its-forecast : IsForecast (foretold g w)
  its-forecast = record {
    content = is.sound.content;
    numbers = is.sound.numbers;
    merges = its-merge;
    sequences = λ segment first last.
        let below : segment - 1 < g.segments = omega (arith, first, last) in
        let same : segment - 1 + 1 ≡ segment = omega (arith, first) in
        get_or_from_slice_get w.merged.numbers.items (segment - 1) (is.sound.numbers (segment - 1 + 1)) 0 (is.sound.result.numbers_are (segment - 1) below)
        ∙ ap is.sound.numbers same;
  }

  module _ (segment page : ℕ) (here : List RedoRange) (of : AreOfPage w.merged.changes.items segment page here) where
    -- the page is behind exactly where it has changes
    pub behind-where : (1 ≤ length here) ↔ IsPageBehind (foretold g w).store segment page
    behind-where =
        let behind = pages-behind w.kept.logs.items is.sound.store w.merged is.sound.merging in
        let listed = are_listed w.merged.changes.items segment page in (
          λ some.
              let first = get-some here 0 some in
              let its : Contains here first.0 = contains-at here 0 first.0 first.1 in
              let among : Contains w.merged.changes.items first.0 =
              subst (λ (l : List RedoRange). Contains l first.0) (sym of.whole)
              (Contains-append_right of.before (here ++ of.behind) first.0 (Contains-append_left here of.behind first.0 its)) in
              subst (λ (s : StoreText). IsPageBehind s segment page) is.same
              ((behind.all segment page).0 (listed.1 (first.0, among, All-contains (IsOf segment page) here first.0 of.of_page its))),
          λ is_behind.
              let change = listed.0 ((behind.all segment page).1 (subst (λ (s : StoreText). IsPageBehind s segment page) (sym is.same) is_behind)) in
              let its : Contains here change.0 = one_of_these w.merged.changes.items here segment page change.0 of change.1 change.2 in
              omega (arith, its.1),
        )

    module _ (first : 1 ≤ segment) (last : segment ≤ g.segments) (within : page < g.pages) (pages : SegmentPages) (kept : slice_get w.kept.segments.items (segment - 1) ≡ Some pages) where
      same : segment - 1 + 1 ≡ segment
      same = omega (arith, first)

      below : segment - 1 < g.segments
      below = omega (arith, first, last)

      -- the page that was read
      text : (text : Page) × (slice_get (segment_of segment is.sound.store.pages) page ≡ Some text)
      text =
          let long : length (segment_of segment is.sound.store.pages) ≡ g.pages = subst (λ (s : ℕ). length (segment_of s is.sound.store.pages) ≡ g.pages) same (is.sound.pages.shapes (segment - 1) below) in
          get-some (segment_of segment is.sound.store.pages) page (omega (arith, within, long))

      old : bytes_of_page pages page ≡ text.0.bytes
      old =
          let there : slice_get (segment_of (segment - 1 + 1) is.sound.store.pages) page ≡ Some text.0 = subst (λ (s : ℕ). slice_get (segment_of s is.sound.store.pages) page ≡ Some text.0) (sym same) text.1 in
          elim (is.sound.pages.each (segment - 1) page pages text.0 kept there) [
            | inl new ↦ absurd (omega (arith, is.sound.between.count, is.next, new.0.1.1))
            | inr stays ↦ stays.1.same
          ]

      pub bytes-are : (bytes before : List ℕ) → length bytes ≡ 256 → before ≡ bytes_of_page pages page
          → ((ranges : List RangeData) (segment page : ℕ) → AreAt w.kept.logs.items here ranges → All (IsOf segment page) here →
          (offset : ℕ) → offset < 256 → slice_get bytes offset ≡ option_or (byte_of segment (page * 256 + offset) ranges) (slice_get before offset))
          → bytes ≡ page_bytes segment page is.sound.content
      bytes-are bytes before long was put =
          let stand = ranges_stand w.kept.logs.items is.sound.store w.merged.changes.items here segment page is.sound.merging.index of in
          let before_is : before ≡ text.0.bytes = was ∙ old in
          same-items bytes (page_bytes segment page is.sound.content) (λ place.
          elim (cases_lt place 256) [
            | inl inside ↦
                put stand.0 segment page stand.1 of.of_page place inside
                ∙ ap (λ (l : List ℕ). option_or (byte_of segment (page * 256 + place) stand.0) (slice_get l place)) before_is
                ∙ by_number-one segment (page * 256 + place) text.0.sequence (all_records is.sound.store) (slice_get text.0.bytes place)
                (byte_with segment page stand.0 text.0.bytes place) (byte_at segment (page * 256 + place) is.sound.content)
                (λ seq some twice. is.sound.merging.once segment seq (some, twice))
                (page_merged w.kept.logs.items is.sound.store w.merged.changes.items here segment page text.0 stand.0 is.sound.merging.index of text.1 stand.1 place inside)
                (is.sound.result.merges.2.bytes segment page text.0 text.1 place inside)
                ∙ sym (get-take 256 place (drop (page * 256) (segment_of segment is.sound.content)) inside ∙ get-drop (page * 256) place (segment_of segment is.sound.content))
            | inr past ↦
                slice_get_past bytes place (omega (arith, past, long))
                ∙ sym (slice_get_past (page_bytes segment page is.sound.content) place (omega (arith, past, length-take 256 (drop (page * 256) (segment_of segment is.sound.content)))))
          ])

-- a store has one result
pub one-content : (g : Geometry) (w : PageWrites) (is : IsForetold g w) (content : Content) (numbers : ℕ → ℕ) → MergesTo (foretold g w).store content numbers → is.sound.content ≡ content
one-content g w is content numbers merges = (one-value (foretold g w).store is.sound.content content is.sound.numbers numbers (its-merge g w is) merges).0

pub some-where : (n : ℕ) → IsTrue (not (n == 0)) ↔ (1 ≤ n)
some-where zero = (λ is. absurd (true≢false (sym is)), λ some. absurd (omega (arith, some)))
some-where (suc n) = (
  λ is. omega arith,
  λ some. elim (suc n == 0) as (λ b. (suc n == 0) ≡ b → IsTrue (not b)) [ true ↦ λ e. absurd (omega (arith, eqb-true (suc n) 0 e)) | false ↦ λ e. refl ] refl,
)

-- the page writes of a merge of all that was read
pub foretold-from : (g : Geometry) (bytes : List (List ℕ)) (r : ReadAreas) (whole : IsReadWhole g bytes r) (kept : StoreContents) → kept ≡ r.kept → (numbers : Vec ℕ) (changes : Vec RedoRange)
    → ((store : StoreText) → IsKept r.kept.logs.items r.kept.segments.items store → IsMerging r.kept.logs.items store (record { numbers = numbers; changes = changes }))
    → (w : PageWrites) → w ≡ record { kept = kept; merged = record { numbers = numbers; changes = changes }; next = 0; written = 0; current = None } → IsForetold g w
foretold-from g bytes r whole kept same numbers changes merging w is =
    let from = merged-from g bytes r whole numbers changes merging in
    let own : PageWrites = record { kept = r.kept; merged = record { numbers = numbers; changes = changes }; next = 0; written = 0; current = None } in
    let is_own : own ≡ w = ap (λ (k : StoreContents). let v : PageWrites = record { kept = k; merged = record { numbers = numbers; changes = changes }; next = 0; written = 0; current = None } in v) (sym same) ∙ sym is in
    subst (λ (v : PageWrites). IsForetold g v) is_own (record {
      sound = from.sound;
      same = from.same_store ∙ sym (same-store g bytes r whole);
      next = refl;
    })
