-- Areas read as one store, by the grammar and by the list that computes.
use Rattle.std.proofs.Common.{◌≡◌, ℕ, ◌<◌, List, map, length, take, Some, refl, sym, ap, subst, ◌∙◌, arith}
use Rattle.std.specs.Prelude.{slice_get}
use Rattle.std.proofs.lemmas.List.{length-map}
use Rattle.lc_record.specs.Words.{words_of}
use Rattle.lc_record.specs.declared.geometry.Geometry.{Geometry}
use Rattle.lc_record.specs.declared.record.Record.{Record}
use Rattle.lc_record.proofs.ListLemmas.{slice_get_some as get-some, slice_get-map_some as get-map}
use Rattle.lc_log.specs.InPlace.{records_in}
use Rattle.lc_log.specs.LogText.{IsLogText}
use Rattle.lc_log.proofs.InPlaceLemmas.{records_are, records_text}
use Rattle.lc_model.specs.Merge.{Page, StoreText}
use Rattle.lc_recover.specs.Reads.{store_of}
use Rattle.lc_recover.specs.ReadsAs.{ReadsAs}
use Rattle.lc_recover.proofs.Going.{same_lists}

abbrev records_of : List ℕ → List Record
records_of bytes = records_in (words_of bytes)

same_text : (one other : List Record) → Some one ≡ Some other → one ≡ other
same_text one other is = cc

pub reads_so : (g : Geometry) (areas : List (List ℕ)) → ReadsAs g areas (store_of g areas)
reads_so g areas = record {
  count = length-map (take g.nodes areas) records_of;
  logs = λ log bytes records of_bytes is.
      let same : records_of bytes ≡ records = same_text (records_of bytes) records (sym (get-map records_of (take g.nodes areas) log bytes of_bytes) ∙ is) in
      subst (λ (rs : List Record). IsLogText (words_of bytes) rs) same (records_text (words_of bytes));
  pages = refl;
}

same_store : (one other : StoreText) → one.logs ≡ other.logs → one.pages ≡ other.pages → one ≡ other
same_store one other logs pages = ap (λ (l : List (List Record)). record { logs = l; pages = one.pages }) logs ∙ ap (λ (p : List (List Page)). record { logs = other.logs; pages = p }) pages

pub reads_one : (g : Geometry) (areas : List (List ℕ)) (store : StoreText) → ReadsAs g areas store → store ≡ store_of g areas
reads_one g areas store reads = same_store store (store_of g areas) (same_lists store.logs (map records_of (take g.nodes areas)) count each) reads.pages
  where
    count : length store.logs ≡ length (map records_of (take g.nodes areas))
    count = reads.count ∙ sym (length-map (take g.nodes areas) records_of)

    each : (log : ℕ) → log < length store.logs → slice_get store.logs log ≡ slice_get (map records_of (take g.nodes areas)) log
    each log within =
        let records = get-some store.logs log within in
        let bytes = get-some (take g.nodes areas) log (omega (arith, within, reads.count)) in
        records.1
        ∙ ap (λ (rs : List Record). Some rs) (sym (records_are (words_of bytes.0) records.0 (reads.logs log bytes.0 records.0 bytes.1 records.1)))
        ∙ sym (get-map records_of (take g.nodes areas) log bytes.0 bytes.1)
