use Rattle.lc_record.proofs.RecordLemmas.{header_is, header_tells, header_not_zero}
use Rattle.lc_record.proofs.laws.header_tells_length.Goals as goal

pub returns : goal.returns
returns c = λ r words is. (header_is r words is, header_tells r words is, header_not_zero r words is)
