use Rattle.lc_words.proofs.program.init.Goals as goal

pub returns : goal.returns
returns c = c.with_size_options.ensures _ c.in_ok-command.ensures
