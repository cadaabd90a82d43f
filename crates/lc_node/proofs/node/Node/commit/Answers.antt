use Rattle.std.proofs.Common.{inr}
use Rattle.lc_node.proofs.node.Node.commit.Goals as goal

pub returns-clause-commits : goal.returns-clause-commits
returns-clause-commits g c = let e = c.commit-committed.ensures in inr (record {
  olds = c.in_ok-held.held.sides.items;
  news = c.commit-committed.new.self.sides.items;
  asked = c.in_ok-held.ensures.segments;
  got = c.in_ok-held.ensures.held;
  given = e.held;
  commits = record { here = e.here; committed = e.committed; nothing = e.nothing; why = e.why; absent = e.absent; refused = e.refused };
})
