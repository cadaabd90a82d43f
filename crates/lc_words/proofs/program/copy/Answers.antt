use Rattle.std.proofs.Common.{codes}
use Rattle.clap.specs.Words.{App, with_rule}
use Rattle.lc_words.specs.CommandLine.{folder_app, word_rule}
use Rattle.lc_words.proofs.Asking.{adds_option}
use Rattle.lc_words.proofs.program.copy.Goals as goal

pub returns : goal.returns
returns c =
    let folder : App = folder_app (codes "copy") in
    c.with_size_options.ensures (with_rule folder (word_rule (codes "to")))
    (adds_option c.in_ok-command.command c.in_ok-command-2.command c.word.result folder (word_rule (codes "to")) c.in_ok-command-2.ensures c.in_ok-command.ensures c.word.ensures.rule c.word.ensures.local)
