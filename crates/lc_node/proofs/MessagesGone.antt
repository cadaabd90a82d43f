-- Of a node: the messages of a peer are gone on with one after another.
use Rattle.std.specs.Prelude.{Bool}
use Rattle.lc_token.specs.declared.received.Received.{Received}
use Rattle.lc_token.specs.declared.received.Received.TheVariants.{Applied as IsApplied, HeldBack as IsHeldBack, Ignored as IsIgnored}
use Rattle.lc_node.specs.Pumping.{IsOfRecord, answer_of}

-- what becomes of a record is an answer of a record
pub of_record : (answer : Received) (arrived : Bool) → IsOfRecord (answer_of answer arrived)
of_record (IsApplied number) arrived = tt
of_record IsHeldBack arrived = tt
of_record IsIgnored arrived = tt
