use Rattle.std.proofs.Common.{ap}
use Rattle.lc_log.specs.InPlace.{spans_from}
use Rattle.lc_log.proofs.InPlaceLemmas.{records_are}
use Rattle.lc_log.proofs.laws.same_spans.Goals as goal

pub returns : goal.returns
returns c = λ words records is. ap (spans_from 0) (records_are words records is)
