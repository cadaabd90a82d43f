use Rattle.lc_rest.proofs.Dropping.{tested, value-same, number-same, image-same}
use Rattle.lc_rest.proofs.laws.dropped_front.Goals as goal

pub returns-clause-tested : goal.returns-clause-tested
returns-clause-tested c = tested

pub returns-clause-value : goal.returns-clause-value
returns-clause-value c = value-same

pub returns-clause-number : goal.returns-clause-number
returns-clause-number c = number-same

pub returns-clause-image : goal.returns-clause-image
returns-clause-image c = image-same
