use Rattle.std.proofs.Common.{◌∙◌}
use Rattle.lc_range.proofs.GrowLemmas.{last_is}
use Rattle.lc_range.proofs.copies.is_last_continued.Goals as goal

pub returns-in-Some : goal.returns-in-Some
returns-in-Some c = c.is_continued.ensures ∙ last_is c.args.ranges.now c.args.range.now c.in-Some.last.now c.in-Some.ensures.value
