-- The text of a log: its records one after another, and then a rest that begins no record.
use Rattle.std.specs.Prelude.{◌≡◌, ℕ, ◌+◌, ◌≤◌, List, [], ◌∷◌, ◌++◌, map, length}
use Rattle.std.specs.List.{flat_map, AllByRecursion}
use Rattle.lc_record.specs.Record.{record_len, spelling, IsCanonical}
use Rattle.lc_record.specs.Codec.{BeginsNoRecord}
use Rattle.lc_record.specs.declared.record.Record.{Record}

-- the record has a spelling
pub record IsWhole (r : Record) : Type 0 where
  pub canonical : IsCanonical r
  pub short : record_len r ≤ 4096

-- the words of these records, one after another
abbrev pub joined : List Record → List ℕ
joined records = flat_map spelling records

-- the words are these records one after another, and then a rest that begins no record
pub record IsLogText (words : List ℕ) (records : List Record) : Type 0 where
  pub rest : List ℕ
  pub text : words ≡ joined records ++ rest
  pub whole : AllByRecursion IsWhole records
  pub end : BeginsNoRecord rest

-- each record with its place, the first at this one
abbrev pub placed : ℕ → List Record → List (ℕ × Record)
placed place [] = []
placed place (r ∷ rs) = (place, r) ∷ placed (place + length (spelling r)) rs

-- a walk over these words finds their records, each with its place, and the place after the last
pub record IsWalk (words : List ℕ) (found : List (ℕ × Record)) (end : ℕ) : Type 0 where
  pub text : IsLogText words (map (λ x. x.1) found)
  pub places : found ≡ placed 0 (map (λ x. x.1) found)
  pub behind : end ≡ length (joined (map (λ x. x.1) found))
