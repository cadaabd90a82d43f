use Rattle.std.proofs.Common.{Err, ap, subst, ◌∙◌}
use Rattle.lc_range.specs.declared.fault.RangeFault.{RangeFault}
use Rattle.lc_changes.specs.ChangesView.{ChangesView}
use Rattle.lc_changes.specs.Setting.{RangeTakesMemory}
use Rattle.lc_changes.proofs.changes.Changes.set_range.Goals as goal
use Rattle.lc_changes.proofs.changes.Changes.set_range.Goals.{in-Ok, in-Err-TooManyRanges, in-Err-NoMemory}

pub returns-clause-needs : goal.returns-clause-needs
returns-clause-needs c = λ e. elim c.match-add_kept.branch [
  | in-Ok w ↦ absurd cc
  | in-Err-TooManyRanges w ↦ absurd cc
  | in-Err-NoMemory w ↦
      subst (λ (v : ChangesView). RangeTakesMemory v.set v.undo c.args.segment c.args.offset c.args.len) c.self.view_is
      (c.add_kept.ensures.needs (w.in-Err-NoMemory.is ∙ ap (λ (fault : RangeFault). Err fault) w.in-Err-NoMemory.field-0-is))
]
