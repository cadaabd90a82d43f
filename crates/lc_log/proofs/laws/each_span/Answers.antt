use Rattle.lc_log.proofs.InPlaceLemmas.{span_begins, record_stands}
use Rattle.lc_log.proofs.laws.each_span.Goals as goal

pub returns-clause-span : goal.returns-clause-span
returns-clause-span c = λ words records is i place len at. span_begins words 0 records is i place len at

pub returns-clause-record : goal.returns-clause-record
returns-clause-record c = λ words records is i r at. record_stands words 0 records is i r at
