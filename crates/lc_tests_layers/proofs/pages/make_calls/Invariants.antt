use Rattle.std.proofs.Common.{◌≡◌, length}
use Rattle.lc_page.specs.Writing.{draft_of}
use Rattle.lc_tests_layers.proofs.pages.make_calls.Given as goal

abbrev pub invariant-loop : goal.invariant-loop
invariant-loop g l = record {
  same_length : length (g.D.Area.now l.area) ≡ length (g.D.Area.now l.fn.area);
  draft : draft_of l.writing ≡ l.fn.write.draft;
}
