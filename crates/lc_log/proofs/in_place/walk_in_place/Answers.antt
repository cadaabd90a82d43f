use Rattle.std.proofs.Common.{ap}
use Rattle.lc_log.specs.InPlace.{spans_from, left_of}
use Rattle.lc_log.proofs.InPlaceLemmas.{records_are}
use Rattle.lc_log.proofs.in_place.walk_in_place.Goals as goal

pub returns : goal.returns
unfolding left_of
returns c = λ records is. ap (spans_from 0) (records_are c.args.words.now records is)
