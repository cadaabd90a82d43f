-- What the merge of all areas that were read stands on, and what it leaves.
use Rattle.std.proofs.Common.{ℕ, ◌≤◌, None, List, length, All, refl, arith, get_or}
use Rattle.std.specs.Global.{Vec}
use Rattle.std.proofs.lemmas.Option.{slice_get-get_or}
use Rattle.lc_record.specs.declared.geometry.Geometry.{Geometry}
use Rattle.lc_model.specs.Merge.{StoreText}
use Rattle.lc_recover.specs.StoreContents.{HasNewer, IsFaultless, IsKept, IsMerging}
use Rattle.lc_recover.specs.KeptAreas.{IsReadWhole}
use Rattle.lc_recover.specs.Merging.{IsMergedFrom}
use Rattle.lc_recover.specs.Reads.{store_of}
use Rattle.lc_recover.specs.Recovery.{HasPageToWrite}
use Rattle.lc_recover.specs.declared.redo_range.RedoRange.{RedoRange}
use Rattle.lc_recover.specs.declared.page_writes.PageWrites.{PageWrites}
use Rattle.lc_recover.specs.declared.read_areas.ReadAreas.{ReadAreas}
use Rattle.lc_recover.specs.declared.segment_pages.SegmentPages.{SegmentPages}
use Rattle.lc_recover.proofs.MergeRead.{its-pages, kept-store, kept-texts, long-pages, merged-writing, segment_count}
use Rattle.lc_recover.proofs.Newer.{page-to-write}

module _ (g : Geometry) (areas : List (List ℕ)) (r : ReadAreas) (whole : IsReadWhole g areas r) where
  pub few-logs : length r.kept.logs.items ≤ 8
  few-logs = omega (arith, (kept-texts g areas r.kept whole.kept whole.count).count, g.few_nodes)

  pub few-segments : length r.kept.segments.items ≤ 16
  few-segments = omega (arith, segment_count g areas r.kept whole.kept whole.count, g.few_segments)

  pub few-pages : All (λ (s : SegmentPages). length s.texts ≤ 1024) r.kept.segments.items
  few-pages = λ k d less.
      let pages = get_or r.kept.segments.items k d in
      omega (arith, (its-pages g areas r.kept whole.kept whole.count k pages (slice_get-get_or r.kept.segments.items k d less)).count, g.few_pages)

  pub its-store : IsKept r.kept.logs.items r.kept.segments.items (store_of g areas)
  its-store = kept-store g areas r.kept whole.kept whole.count

  pub to-write : (IsFaultless (store_of g areas) × HasNewer (store_of g areas)) → HasPageToWrite (store_of g areas)
  to-write its = page-to-write (store_of g areas) its.0 (long-pages g areas r.kept whole.kept whole.count) its.1

  module _ (numbers : Vec ℕ) (changes : Vec RedoRange)
      (merging : (store : StoreText) → IsKept r.kept.logs.items r.kept.segments.items store → IsMerging r.kept.logs.items store (record { numbers = numbers; changes = changes })) where
    pub merged-from : IsMergedFrom g areas (record { kept = r.kept; merged = record { numbers = numbers; changes = changes }; next = 0; written = 0; current = None })
    unfolding merged-writing
    merged-from =
        let w : PageWrites = record { kept = r.kept; merged = record { numbers = numbers; changes = changes }; next = 0; written = 0; current = None } in
        record {
          kept = whole.kept;
          sound = merged-writing g areas w whole.kept whole.count (merging (store_of g areas) its-store) refl refl refl;
          same_store = refl;
          next = refl;
          written = refl;
          current = refl;
        }
