use Rattle.lc_record.proofs.RecordLemmas.{one_reading}
use Rattle.lc_record.proofs.laws.one_reading.Goals as goal

pub returns : goal.returns
returns c = one_reading
