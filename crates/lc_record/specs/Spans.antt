-- The ranges of a record, each with the place of its bytes in the record's words.
use Rattle.std.specs.Prelude.{ℕ, zero, suc, ◌+◌, ◌*◌, List, [], ◌∷◌, length, drop}
use Rattle.std.specs.Option.{option_map_or}
use Rattle.lc_record.specs.GrammarVersion.{place_words}
use Rattle.lc_record.specs.Layout.{data_len}
use Rattle.lc_record.specs.Record.{span_of, version_of}
use Rattle.lc_record.specs.Reading.{place_at, range_of}
use Rattle.lc_record.specs.declared.grammar_version.GrammarVersion.{GrammarVersion}
use Rattle.lc_record.specs.declared.placed_span.PlacedSpan.{PlacedSpan}
use Rattle.lc_record.specs.declared.record.Record.{Record}
use Rattle.lc_record.specs.declared.record.RangeData.{RangeData}
use Rattle.lc_record.specs.declared.spans.Spans.{Spans}

-- ranges that stand one after another from this place on: each has its header's words, and then its bytes
abbrev pub placed_from : GrammarVersion → ℕ → List RangeData → List PlacedSpan
placed_from version place [] = []
placed_from version place (range ∷ ranges) =
    record { span = span_of range; place = place + place_words version }
    ∷ placed_from version (place + place_words version + data_len (length range.bytes)) ranges

-- those of a record stand after its first two words and its locks
abbrev pub placed_spans : Record → List PlacedSpan
placed_spans r = placed_from (version_of r.ranges) (2 + 2 * length r.locks) r.ranges

-- the range whose bytes stand in these words
abbrev pub range_in : List ℕ → PlacedSpan → RangeData
range_in words placed = range_of placed.span (drop placed.place words)

-- so many that are read in these words, from a place on
unfoldable pub spans_in : GrammarVersion → List ℕ → ℕ → ℕ → List PlacedSpan
spans_in version words place zero = []
spans_in version words place (suc n) =
    option_map_or
    (λ x. record { span = x.0; place = place + place_words version } ∷ spans_in version words (place + place_words version + data_len x.0.len) n)
    (place_at version (drop place words))
    []

-- those that are still to come
unfoldable pub left_of : Spans → List PlacedSpan
left_of it = spans_in it.version it.words.now it.place it.left
