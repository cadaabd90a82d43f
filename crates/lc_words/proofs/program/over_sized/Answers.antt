use Rattle.lc_words.specs.CommandLine.{folder_app, with_sizes}
use Rattle.lc_words.proofs.program.over_sized.Goals as goal

pub returns : goal.returns
returns c =
    let folder = folder_app c.args.name.now in
    c.with_flag.ensures (with_sizes folder) (c.in_ok-command-2.ensures folder c.in_ok-command.ensures)
