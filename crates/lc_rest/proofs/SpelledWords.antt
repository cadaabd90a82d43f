-- Words that are those of whole records are the text of a log.
use Rattle.std.proofs.Common.{◌≡◌, ℕ, ◌<◌, List, [], ◌∷◌, ◌++◌, All, sym, ◌∙◌, arith}
use Rattle.std.specs.List.{AllByRecursion}
use Rattle.std.proofs.lemmas.List.{append-nil}
use Rattle.std.proofs.lemmas.List.Elements.{All-head, All-tail}
use Rattle.lc_record.specs.Codec.{BeginsNoRecord}
use Rattle.lc_record.specs.declared.record.Record.{Record}
use Rattle.lc_record.proofs.RecordLemmas.{record_some}
use Rattle.lc_log.specs.LogText.{IsLogText, IsWhole, joined}
use Rattle.lc_rest.specs.Parts.{AreSpelled}

each_whole : (rs : List Record) → All IsWhole rs → AllByRecursion IsWhole rs
each_whole [] all = tt
each_whole (r ∷ rs) all = (All-head IsWhole r rs all, each_whole rs (All-tail IsWhole r rs all))

no_record : BeginsNoRecord []
no_record r [] rest is same = absurd (omega (arith, record_some r [] is))
no_record r (w ∷ front) rest is same = absurd cc

-- records that are all of the words are those that these begin with
pub all_text : (words : List ℕ) (rs : List Record) → AreSpelled words rs → IsLogText words rs
all_text words rs its = record { rest = []; text = its.text ∙ sym (append-nil (joined rs)); whole = each_whole rs its.whole; end = no_record }
