use Rattle.std.proofs.Common.{◌≡◌, drop}
use Rattle.lc_tx.specs.Image.{laid_over}
use Rattle.lc_tx.proofs.image.Image.put.Given as goal

abbrev pub invariant-loop-range : goal.invariant-loop-range
invariant-loop-range l = record {
  bytes : laid_over (drop l.range-index l.range-items) l.self.bytes.items ≡ laid_over l.part.ranges l.initial.self.bytes.items;
  holders : l.self.holders ≡ l.initial.self.holders;
  items : l.range-items ≡ l.part.ranges;
}
