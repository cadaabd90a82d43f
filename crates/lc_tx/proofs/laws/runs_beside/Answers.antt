use Rattle.lc_tx.proofs.BesideLemmas.{runs_beside, apart_keeps}
use Rattle.lc_tx.proofs.laws.runs_beside.Goals as goal

pub returns : goal.returns
returns g c = record {
  runs = λ old new tx on keeps. runs_beside g.I.Images old new tx on keeps;
  apart = λ old new segments tx on but apart. apart_keeps g.I.Images old new segments tx on but apart;
}
