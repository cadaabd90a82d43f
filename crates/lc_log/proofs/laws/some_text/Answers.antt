use Rattle.lc_log.specs.InPlace.{records_in}
use Rattle.lc_log.proofs.InPlaceLemmas.{records_text}
use Rattle.lc_log.proofs.laws.some_text.Goals as goal

pub returns : goal.returns
returns c = λ words. (records_in words, records_text words)
