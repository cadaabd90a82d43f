use Rattle.std.proofs.Common.{rules}
use Rattle.std.proofs.lemmas.Slice.{overwrites}
use Rattle.std.proofs.lemmas.List.{places}
use Rattle.lc_c.proofs.mirror_area.overlay.Goals as goal

pub returns-clause-torn : goal.returns-clause-torn
returns-clause-torn c = record {
  same_length = search (rules, places);
  before = search (rules, overwrites);
  after = search (rules, overwrites);
}
