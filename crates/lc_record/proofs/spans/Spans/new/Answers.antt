use Rattle.std.proofs.Common.{refl}
use Rattle.lc_record.specs.Spans.{left_of}
use Rattle.lc_record.proofs.spans.Spans.new.Goals as goal

pub returns : goal.returns
unfolding left_of
returns c = refl
