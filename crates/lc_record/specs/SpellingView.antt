-- What contracts see of the words of a record while they are written.
use Rattle.std.specs.Prelude.{ℕ, List}
use Rattle.lc_record.specs.declared.grammar_version.GrammarVersion.{GrammarVersion}

-- the words so far, the version, and how many words there will be, for which there is room
pub record SpellingView : Type 0 where
  pub words : List ℕ
  pub version : GrammarVersion
  pub len : ℕ
