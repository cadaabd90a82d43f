use Rattle.std.proofs.Common.{refl}
use Rattle.lc_recover.specs.Reading.{left_of}
use Rattle.lc_recover.proofs.record_cursor.records_of.Goals as goal

pub returns : goal.returns
unfolding left_of
returns c = refl
