use Rattle.std.proofs.Common.{ap, ◌∙◌}
use Rattle.std.specs.Prelude.{nat_lt}
use Rattle.lc_desk.specs.PageState.{is_begun}
use Rattle.lc_desk.proofs.BegunCounts.{some_counted}
use Rattle.lc_desk.proofs.PageImages.{some_begun}
use Rattle.lc_desk.proofs.pages.Pages.is_writing.Goals as goal

pub returns-clause-states : goal.returns-clause-states
returns-clause-states g c = ap (nat_lt 0) c.args.self.now.counted ∙ some_counted is_begun c.args.self.now.writes.items

pub returns-clause-numbers : goal.returns-clause-numbers
returns-clause-numbers g c = λ m segment x h.
    ap (nat_lt 0) c.args.self.now.counted ∙ some_counted is_begun c.args.self.now.writes.items ∙ some_begun g.D.Area c.args.self.now m segment x h
