use Rattle.std.proofs.Common.{◌∙◌, ap}
use Rattle.std.specs.Prelude.{slice_get}
use Rattle.lc_record.specs.View.{record_in}
use Rattle.lc_record.specs.declared.record.Record.{Record}
use Rattle.lc_record.proofs.view.View.lock.Goals as goal

pub returns : goal.returns
returns c =
    c.kept_lock.ensures (record_in c.self.inside.words.now) c.self.invariant ∙ ap (λ (r : Record). slice_get r.locks c.args.index) c.self.view_is
