use Rattle.std.proofs.Common.{◌∙◌, ap}
use Rattle.lc_record.specs.Record.{record_len}
use Rattle.lc_record.specs.View.{record_in}
use Rattle.lc_record.specs.declared.record.Record.{Record}
use Rattle.lc_record.proofs.RecordLemmas.{record_length}
use Rattle.lc_record.proofs.view.View.len.Goals as goal

pub returns : goal.returns
returns c = record_length (record_in c.self.inside.words.now) c.self.inside.words.now c.self.invariant ∙ ap (λ (r : Record). record_len r) c.self.view_is
