use Rattle.std.proofs.Common.{ap, ◌∙◌}
use Rattle.std.specs.Prelude.{is_some}
use Rattle.lc_token.specs.Backlog.{Backlog}
use Rattle.lc_desk.proofs.Furnishing.{entries_fit}
use Rattle.lc_desk.proofs.segment_copy.SegmentCopy.fill.Goals as goal

pub returns-clause-slot : goal.returns-clause-slot
returns-clause-slot g c = record {
  len = c.fill_image.ensures.len;
  holders = c.fill_image.ensures.holders ∙ c.requires.slot.holders;
  token = c.filled.ensures.segment;
  pages = entries_fit c.args.recovered.now c.args.segment (is_some c.args.self.now.token.token) c.filled.result.token c.filled.ensures.token;
  parts = ap (λ (b : Backlog). b.segment) c.new.ensures;
  none_due = ap (λ (b : Backlog). b.due) c.new.ensures;
}
