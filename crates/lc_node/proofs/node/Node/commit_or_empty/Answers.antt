use Rattle.std.proofs.Common.{rules, inr, ◌∙◌}
use Rattle.lc_stage.specs.Seats.{commit_view}
use Rattle.lc_node.specs.MakingRoom.{IsFull}
use Rattle.lc_node.proofs.MadeRoom.{still_ascend}
use Rattle.lc_node.proofs.node.Node.commit_or_empty.Goals as goal

pub commit_first-requires-in-Err-Full-clause-ascends : goal.commit_first-requires-in-Err-Full-clause-ascends
commit_first-requires-in-Err-Full-clause-ascends g c = still_ascend c.args.count c.args.held.now.sides.items c.truncate_held.new.held.sides.items
    (c.truncate_held.ensures.segments ∙ c.commit_first.ensures.segments) c.requires.ascends

pub returns-in_ok-truncate_held-in-Err-Full-clause-commits : goal.returns-in_ok-truncate_held-in-Err-Full-clause-commits
returns-in_ok-truncate_held-in-Err-Full-clause-commits g c =
    let full : IsFull c.commit_first.result = search rules in inr (
      c.commit_first.new.work,
      commit_view c.commit_first.new.seat,
      c.commit_first.result,
      c.commit_first.new.held.sides.items,
      c.commit_first.ensures.commits,
      full,
      inr (
        c.in_ok-truncate_held-in-Err-Full.field-0,
        c.truncate_held.new.held.sides.items,
        c.commit_first-in-Err-Full.new.held.sides.items,
        c.in_ok-truncate_held-in-Err-Full.ensures.truncated,
        c.commit_first-in-Err-Full.ensures.commits,
      ),
    )
