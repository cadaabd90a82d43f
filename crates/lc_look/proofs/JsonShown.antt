-- What a check writes as JSON, piece by piece.
use Rattle.std.proofs.Common.{◌≡◌, ℕ, zero, suc, ◌+◌, ◌<◌, ◌≤◌, List, [], ◌∷◌, ◌++◌, refl, sym, ◌∙◌, ap, subst, arith, inl, append_assoc, append-nil}
use Rattle.std.specs.Prelude.{decimal}
use Rattle.std.proofs.lemmas.List.{flat_map_more}
use Rattle.lc_record.specs.declared.geometry.Geometry.{Geometry}
use Rattle.lc_model.specs.Merge.{MergesTo, StoreText}
use Rattle.lc_recover.specs.Forecast.{Foretold, IsForecast, sequence_of}
use Rattle.lc_look.specs.Json.{IsSegmentJson, SegmentsJson, ShowsJson, comma_text, later_page, logs_front, logs_json, pages_json, recovered_json, segment_json}
use Rattle.lc_look.proofs.ChecksShown.{none_of}

-- one page more
pub page_more : (pages : List ℕ) (page : ℕ) → pages_json pages ++ (comma_text (none_of pages) ++ decimal page) ≡ pages_json (pages ++ page ∷ [])
page_more [] page = sym (append-nil (decimal page))
page_more (p ∷ pages) page = flat_map_more later_page (decimal p) pages page

-- one segment more
pub segment_more : (g : Geometry) (store : StoreText) (numbers : ℕ → ℕ) (from n : ℕ) (front own : List ℕ) → SegmentsJson g store numbers from n front
    → IsSegmentJson g.pages store numbers (from + n) own → SegmentsJson g store numbers from (suc n) (front ++ own)
segment_more g store numbers from zero front own none is =
    let here : from + 0 ≡ from = omega arith in
    (own, [], subst (λ (s : ℕ). IsSegmentJson g.pages store numbers s own) here is, refl, ap (λ (l : List ℕ). l ++ own) none ∙ sym (append-nil own))
segment_more g store numbers from (suc n) front own some is =
    let here : from + suc n ≡ from + 1 + n = omega arith in
    let rest = segment_more g store numbers (from + 1) n some.1 own some.3 (subst (λ (s : ℕ). IsSegmentJson g.pages store numbers s own) here is) in
    (some.0, some.1 ++ own, some.2, rest, ap (λ (l : List ℕ). l ++ own) some.4 ∙ append_assoc some.0 some.1 own)

-- the same numbers are printed so
pub same_segments : (g : Geometry) (store : StoreText) (f h : ℕ → ℕ) (from n : ℕ) (text : List ℕ) → ((k : ℕ) → from ≤ k → k < from + n → f k ≡ h k)
    → SegmentsJson g store f from n text → SegmentsJson g store h from n text
same_segments g store f h from zero text each none = none
same_segments g store f h from (suc n) text each some =
    let own = some.2 in (
      some.0,
      some.1,
      (own.0, own.1, own.2 ∙ ap (λ (number : ℕ). segment_json from number own.0) (each from (omega arith) (omega arith))),
      same_segments g store f h (from + 1) n some.1 (λ k low high. each k (omega (arith, low)) (omega (arith, high))) some.3,
      some.4,
    )

-- a store that was read, and its forecast
pub shows_forecast : (g : Geometry) (store : StoreText) (forecast : Foretold) → IsForecast forecast → forecast.store ≡ store → forecast.geometry ≡ g
    → (segments : List ℕ) → SegmentsJson forecast.geometry forecast.store (sequence_of forecast) 1 forecast.geometry.segments segments
    → ShowsJson g store ((logs_front ++ logs_json g store) ++ recovered_json segments) 0
shows_forecast g store forecast its same_store same_geometry segments texts =
    let numbered = same_segments forecast.geometry forecast.store (sequence_of forecast) its.numbers 1 forecast.geometry.segments segments
    (λ k low high. its.sequences k low (omega (arith, high))) texts in (
      recovered_json segments,
      refl,
      inl (
        its.content,
        its.numbers,
        subst (λ (s : StoreText). MergesTo s its.content its.numbers) same_store its.merges,
        segments,
        subst (λ (h : Geometry). SegmentsJson h store its.numbers 1 h.segments segments) same_geometry
            (subst (λ (s : StoreText). SegmentsJson forecast.geometry s its.numbers 1 forecast.geometry.segments segments) same_store numbered),
        refl,
        refl,
      ),
    )
