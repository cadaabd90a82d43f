-- How a record is laid out: its length and its first two words rest on this alone.
use Rattle.std.specs.Prelude.{ℕ, ◌+◌, ◌-◌, ◌*◌, ◌/◌, ◌^◌, min, List, length, sum_by}
use Rattle.lc_record.specs.GrammarVersion.{number, place_words, later, version_to, version_for}
use Rattle.lc_record.specs.declared.grammar_version.GrammarVersion.{GrammarVersion}
use Rattle.lc_record.specs.declared.grammar_version.GrammarVersion.TheVariants.{First}
use Rattle.lc_record.specs.declared.layout.Layout.{Layout}
use Rattle.lc_record.specs.declared.span.Span.{Span}

-- the words that so many bytes take
abbrev pub data_len : ℕ → ℕ
data_len len = (len + 7) / 8

-- the layout of a record of so many locks, with ranges that stand here
abbrev pub layout_of : ℕ → List Span → Layout
layout_of locks spans = record {
  locks = locks;
  ranges = length spans;
  data_words = sum_by (λ span. data_len span.len) spans;
  version = version_for spans;
}

-- the length of a record, in words
abbrev pub layout_len : Layout → ℕ
layout_len layout = 3 + 2 * layout.locks + place_words layout.version * layout.ranges + layout.data_words

-- gate a5, the version, the number of ranges, the record's length
abbrev pub first_word : GrammarVersion → ℕ → ℕ → ℕ
first_word version ranges len = 0xa5 + 2 ^ 8 * number version + 2 ^ 16 * ranges + 2 ^ 32 * len

abbrev pub second_word : ℕ → ℕ → ℕ
second_word node locks = node + 2 ^ 16 * locks

-- how a layout grows

abbrev pub no_layout : Layout
no_layout = record { locks = 0; ranges = 0; data_words = 0; version = First }

abbrev pub with_lock : Layout → Layout
with_lock layout = record layout { locks = layout.locks + 1 }

abbrev pub with_range : ℕ → ℕ → Layout → Layout
with_range offset len layout = record layout {
  ranges = layout.ranges + 1;
  data_words = layout.data_words + data_len len;
  version = later layout.version (version_to (offset + len));
}

-- a layout in words of 64 bits: what is too great for one stays at the greatest
abbrev pub capped : Layout → Layout
capped layout = record layout {
  locks = min layout.locks (2 ^ 64 - 1);
  ranges = min layout.ranges (2 ^ 64 - 1);
  data_words = min layout.data_words (2 ^ 64 - 1);
}
