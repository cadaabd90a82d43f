-- What is left of the words of the rounds that have ended.
use Rattle.std.specs.Prelude.{◌≡◌, ℕ, List, ◌++◌, length, All}
use Rattle.std.specs.List.{concat}
use Rattle.lc_log.specs.LogText.{IsWhole, joined}
use Rattle.lc_record.specs.declared.record.Record.{Record}
use Rattle.lc_rest.specs.Parts.{IsKnownClean}

-- of the words that were taken in these rounds, some records in front were dropped, which had so many words; what is left are the
-- words of whole records, which are known clean
pub record IsLeft (past : List (List ℕ)) (known : List ℕ) (gone : ℕ) (words : List ℕ) : Type 0 where
  pub front : List Record
  pub kept : List Record
  pub front_whole : All IsWhole front
  pub whole : All IsWhole kept
  pub parts : concat past ≡ joined front ++ words
  pub gone_is : gone ≡ length (joined front)
  pub text : words ≡ joined kept
  pub clean : All (IsKnownClean known) kept
