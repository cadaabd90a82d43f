-- Of a cluster that is read: a node's piece of records whose words are all there is.
use Rattle.std.proofs.Common.{ℕ, ◌-◌, ◌<◌, List, take, arith}
use Rattle.std.proofs.lemmas.List.{length-take-le}
use Rattle.lc_record.specs.Codec.{BeginsWith}
use Rattle.lc_record.specs.declared.record.Record.{Record}
use Rattle.lc_record.proofs.RecordLemmas.{record_some}

-- a record takes some words
pub spelled_some : (words : List ℕ) (r : Record) (len : ℕ) → BeginsWith words r len → 0 < len
spelled_some words r len begins = (let some = record_some r (take len words) begins.whole in omega (arith, some, length-take-le len words begins.within))
