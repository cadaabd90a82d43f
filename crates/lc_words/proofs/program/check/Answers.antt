use Rattle.std.proofs.Common.{codes}
use Rattle.lc_words.specs.CommandLine.{sized_app}
use Rattle.lc_words.proofs.program.check.Goals as goal

pub returns : goal.returns
returns c = c.with_flag.ensures (sized_app (codes "check")) c.in_ok-command.ensures
