-- What the words of all logs, and the pages of all segments, are read as.
use Rattle.std.specs.Prelude.{ℕ, List, map, drop}
use Rattle.lc_record.specs.declared.record.Record.{Record}
use Rattle.lc_log.specs.InPlace.{records_in}
use Rattle.lc_log.specs.LogText.{placed}
use Rattle.lc_model.specs.Merge.{StoreText}
use Rattle.lc_recover.specs.Pages.{kept_pages}
use Rattle.lc_recover.specs.declared.segment_pages.SegmentPages.{SegmentPages}
use Rattle.lc_recover.specs.declared.record_cursor.RecordCursor.{RecordCursor}

-- the records of a log, each with its place
abbrev pub placed_in : List ℕ → List (ℕ × Record)
placed_in words = placed 0 (records_in words)

-- those that are still to come
unfoldable pub left_of : RecordCursor → List (ℕ × Record)
left_of it = placed it.place (records_in (drop it.place it.words.now))

-- the store that these words and pages are of
abbrev pub store_of : List (List ℕ) → List SegmentPages → StoreText
store_of logs segments = record { logs = map records_in logs; pages = map kept_pages segments }
