use Rattle.lc_applied.proofs.RecordLemmas.{ends-own, part-own}
use Rattle.lc_applied.proofs.laws.part_of_record.Goals as goal

pub returns : goal.returns
returns g c = record {
  part = λ images runs node segment. part-own g.I.Images images segment runs node;
  within = λ images runs segment. ends-own g.I.Images images segment runs;
}
