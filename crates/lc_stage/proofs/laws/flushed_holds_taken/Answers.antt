use Rattle.lc_stage.proofs.Flushed.{flush_holds}
use Rattle.lc_stage.proofs.laws.flushed_holds_taken.Goals as goal

pub returns : goal.returns
returns g c = λ before after end end' taken words. flush_holds _ before after end end' taken words
