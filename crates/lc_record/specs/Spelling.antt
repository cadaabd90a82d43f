-- The words of a record while they are written.
use Rattle.std.specs.Prelude.{◌≤◌, length, vec_capacity}
use Rattle.lc_record.specs.SpellingView.{SpellingView}
use Rattle.lc_record.specs.declared.spelling.Spelling.TheInside.{Inside}

abbrev pub spelling_view : Inside → SpellingView
spelling_view s = record { words = s.words.items; version = s.version; len = s.len }

-- there is room for all of them
pub record IsSpelling (s : Inside) : Type 0 where
  pub room : s.len ≤ vec_capacity s.words
  pub within : length s.words.items ≤ s.len
