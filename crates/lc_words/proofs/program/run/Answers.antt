use Rattle.std.proofs.Common.{codes}
use Rattle.clap.specs.Words.{App, new_app, with_rule}
use Rattle.lc_words.specs.CommandLine.{flag_rule, store_rule, with_sizes}
use Rattle.lc_words.proofs.Asking.{adds_option}
use Rattle.lc_words.proofs.program.run.Goals as goal

pub returns : goal.returns
returns c =
    let plain : App = new_app (codes "run") in
    let stored : App = with_rule (with_sizes plain) store_rule in
    let followed : App = with_rule stored (flag_rule (codes "follow")) in
    let numbered : App = with_rule followed (flag_rule (codes "number")) in
    let like_stored = adds_option c.in_ok-with_size_options.field-0 c.in_ok-command.command c.store.result (with_sizes plain) store_rule c.in_ok-command.ensures
    (c.in_ok-with_size_options.ensures plain c.run_command.ensures) c.store.ensures.rule c.store.ensures.local in
    c.with_flag-3.ensures numbered (c.in_ok-command-3.ensures followed (c.in_ok-command-2.ensures stored like_stored))
