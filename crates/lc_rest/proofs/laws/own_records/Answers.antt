use Rattle.lc_rest.proofs.Standing.{record-own, records-own}
use Rattle.lc_rest.proofs.laws.own_records.Goals as goal

pub returns-clause-one : goal.returns-clause-one
returns-clause-one c = record-own

pub returns-clause-all : goal.returns-clause-all
returns-clause-all c = records-own
