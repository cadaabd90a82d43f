-- The versions of the grammar of records.
use Rattle.std.specs.Prelude.{ℕ, ◌+◌, ◌==◌, nat_le, if◌then◌else◌, List, Option, Some, None}
use Rattle.std.specs.List.{list_all}
use Rattle.lc_record.specs.declared.grammar_version.GrammarVersion.{GrammarVersion}
use Rattle.lc_record.specs.declared.grammar_version.GrammarVersion.TheVariants.{First, Second}
use Rattle.lc_record.specs.declared.span.Span.{Span}

abbrev pub number : GrammarVersion → ℕ
number First = 1
number Second = 2

abbrev pub of_number : ℕ → Option GrammarVersion
of_number n = if n == 1 then Some First else (if n == 2 then Some Second else None)

-- the words of a range before its bytes
abbrev pub place_words : GrammarVersion → ℕ
place_words First = 2
place_words Second = 3

abbrev pub later : GrammarVersion → GrammarVersion → GrammarVersion
later First other = other
later Second other = Second

abbrev pub end_of : Span → ℕ
end_of span = span.offset + span.len

-- the version of a range that ends here
abbrev pub version_to : ℕ → GrammarVersion
version_to end = if nat_le end 16384 then First else Second

-- ranges are in the second version exactly where some range ends beyond 16384
abbrev pub version_for : List Span → GrammarVersion
version_for spans = if list_all (λ span. nat_le (end_of span) 16384) spans then First else Second
