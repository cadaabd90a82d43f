use Rattle.lc_tx.proofs.BesideLemmas.{begin_keeps, write_keeps, freed_keeps}
use Rattle.lc_tx.proofs.laws.keep_beside.Goals as goal

pub returns : goal.returns
returns g c = record {
  begin = λ old new thread segments reading tx other on begins free. begin_keeps g.I.Images old new tx other on thread segments reading begins free;
  write = λ old new segment offset bytes tx other on also differ lock wrote. write_keeps g.I.Images old new tx other on also differ segment offset bytes lock wrote;
  abort = λ old new tx other on also differ restored. freed_keeps g.I.Images old new tx other on also differ restored.freed;
  release = λ old new tx other on also differ released. freed_keeps g.I.Images old new tx other on also differ released.freed;
}
