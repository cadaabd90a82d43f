-- The pages that a recovery leaves have the bytes of the result.
use Rattle.std.proofs.Common.{◌≡◌, ℕ, zero, suc, ◌+◌, ◌*◌, ◌<◌, ◌≤◌, List, [], ◌∷◌, length, take, drop, Some, None, refl, sym, ap, ◌∙◌, arith, inl, inr}
use Rattle.std.specs.Prelude.{slice_get}
use Rattle.std.proofs.lemmas.Bool.{cases_lt}
use Rattle.std.proofs.lemmas.Option.{slice_get_past}
use Rattle.lc_record.specs.Content.{Content, segment_of}
use Rattle.lc_record.specs.Newest.{IsByNumber}
use Rattle.lc_record.specs.declared.geometry.Geometry.{Geometry}
use Rattle.lc_record.proofs.ListLemmas.{slice_get_some, slice_get-take as get-take, slice_get-drop as get-drop}
use Rattle.lc_model.specs.Merge.{Page, StoreText, all_records, IsMerged}
use Rattle.lc_model.specs.Merging.{byte_at}
use Rattle.lc_model.specs.Recovered.{AreRenewed, IsBehind, IsReadable}
use Rattle.lc_model.specs.Stored.{page_bytes}
use Rattle.lc_model.proofs.Bytes.{same-items}
use Rattle.lc_model.proofs.Numbers.{part-replicate}

taken_past : {X : Type 0} (n k : ℕ) (xs : List X) → n ≤ k → slice_get (take n xs) k ≡ None
taken_past zero k xs past = refl
taken_past (suc n) k [] past = refl
taken_past (suc n) zero (x ∷ xs) past = absurd (omega (arith, past))
taken_past (suc n) (suc k) (x ∷ xs) past = taken_past n k xs (omega (arith, past))

-- a page on which no record comes on top has the bytes of the result
kept_bytes : (store : StoreText) (content : Content) (numbers : ℕ → ℕ) (segment page : ℕ) (old : Page) → IsMerged store content numbers
    → slice_get (segment_of segment store.pages) page ≡ Some old → length old.bytes ≡ 256 → (IsBehind store segment page old → ⊥) → old.bytes ≡ page_bytes segment page content
kept_bytes store content numbers segment page old result is long still =
    same-items old.bytes (page_bytes segment page content)
    (λ place. elim (cases_lt place 256) [
      | inl within ↦
          let by : IsByNumber segment (page * 256 + place) old.sequence (all_records store) (slice_get old.bytes place) (byte_at segment (page * 256 + place) content) = result.bytes segment page old is place within in
          let byte : byte_at segment (page * 256 + place) content ≡ slice_get old.bytes place =
          elim by [ inl none ↦ none.1 | inr newest ↦ absurd (still (newest.0, newest.1.among, place, within, newest.1.has)) ] in
          sym byte
          ∙ sym (get-take 256 place (drop (page * 256) (segment_of segment content)) within ∙ get-drop (page * 256) place (segment_of segment content))
      | inr past ↦
          slice_get_past old.bytes place (omega (arith, past, long))
          ∙ sym (taken_past 256 place (drop (page * 256) (segment_of segment content)) past)
    ])

-- and so has each page of a store that was renewed
pub renewed_bytes : (store : StoreText) (content : Content) (numbers : ℕ → ℕ) (pages : ℕ → ℕ → Page) (g : Geometry) (segment page : ℕ) → IsMerged store content numbers → IsReadable g store
    → AreRenewed store content numbers pages → 1 ≤ segment → segment ≤ g.segments → page < g.pages → (pages segment page).bytes ≡ page_bytes segment page content
renewed_bytes store content numbers pages g segment page result readable renewed first last within =
    let long : length (segment_of segment store.pages) ≡ g.pages = part-replicate segment g.segments g.pages store.pages readable.shape first last in
    let old = slice_get_some (segment_of segment store.pages) page (omega (arith, within, long)) in
    elim (renewed segment page old.0 old.1) [
      | inl written ↦ written.2
      | inr still ↦ ap (λ (p : Page). p.bytes) still.1 ∙ kept_bytes store content numbers segment page old.0 result old.1 (readable.long segment page old.0 old.1) still.0
    ]
