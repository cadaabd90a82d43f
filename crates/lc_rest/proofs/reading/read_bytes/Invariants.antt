use Rattle.std.proofs.Common.{◌≤◌}
use Rattle.lc_rest.specs.Replay.{AreBytes}
use Rattle.lc_rest.proofs.reading.read_bytes.Given as goal

abbrev pub invariant-loop-page : goal.invariant-loop-page
invariant-loop-page l = (l.page ≤ l.pages) × AreBytes l.area l.page l.bytes.items
