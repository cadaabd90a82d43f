use Rattle.std.proofs.Common.{List, subst}
use Rattle.std.specs.Prelude.{◌⊎◌, IfErr}
use Rattle.lc_stage.specs.Seats.{commit_view}
use Rattle.lc_node.specs.Commits.{IsUnbegunOn, IsUncommitted, bytes_at, segments_in}
use Rattle.lc_node.specs.Halting.{IsHalted}
use Rattle.lc_segments.specs.declared.held.HeldSide.{HeldSide}
use Rattle.lc_node.proofs.held.Held.commit.Goals as goal

pub returns-clause-why : goal.returns-clause-why
returns-clause-why g c =
    subst (λ (l : List (HeldSide g.row.D.Denot)). IfErr c.commit_on.result (λ fault. IsHalted g.D.Area fault
    ⊎ IsUncommitted (g.W.Work.ran c.args.work.now c.commit_on.new.work) (IsUnbegunOn (segments_in l) l) (segments_in l) (bytes_at l) c.args.node.now.stage.room c.args.tries (commit_view c.commit_on.new.seat).seen fault))
    c.as_mut_slice.ensures.value c.commit_on.ensures.why
