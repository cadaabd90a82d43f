use Rattle.std.proofs.Common.{◌∙◌, ap, map, rules}
use Rattle.std.proofs.lemmas.Result.{IfOk-weaker}
use Rattle.clap.specs.Words.{is_simple_and_free}
use Rattle.clap.specs.declared.error.kind.ErrorKind.TheVariants.{DisplayHelp, DisplayVersion}
use Rattle.lc_words.proofs.Asking.{asked, asks_for, has_other_fault, no_fault, program_is_free, same_options}
use Rattle.lc_words.proofs.command_line.read_command_line.Goals as goal

pub returns-in-Ok : goal.returns-in-Ok
returns-in-Ok g c =
    let is = c.in_ok-command.ensures in
    let words = map g.S.AsStr.text c.args.words.now in
    IfOk-weaker c.asked_of.result _ _ (λ a read. asked a _ words read
    (same_options c.in_ok-command.command c.in-Ok.matches words is c.in-Ok.ensures.matches)
    (no_fault c.in_ok-command.command words is (c.in-Ok.ensures.kinds (ap is_simple_and_free is ∙ program_is_free)))) c.asked_of.ensures

pub returns-in-DisplayHelp : goal.returns-in-DisplayHelp
returns-in-DisplayHelp g c =
    let is = c.in_ok-command.ensures in
    asks_for c.in_ok-command.command (map g.S.AsStr.text c.args.words.now) _ DisplayHelp is (search rules) (λ e. cc) (c.in-Err.ensures.kinds (ap is_simple_and_free is ∙ program_is_free))

pub returns-in-DisplayVersion : goal.returns-in-DisplayVersion
returns-in-DisplayVersion g c =
    let is = c.in_ok-command.ensures in
    asks_for c.in_ok-command.command (map g.S.AsStr.text c.args.words.now) _ DisplayVersion is (search rules) (λ e. cc) (c.in-Err.ensures.kinds (ap is_simple_and_free is ∙ program_is_free))

pub returns : goal.returns
returns g c =
    let is = c.in_ok-command.ensures in
    (has_other_fault c.in_ok-command.command (map g.S.AsStr.text c.args.words.now) _ c.kind.result is c.kind.ensures c.in_default.not-OutOfMemory c.in_default.not-DisplayHelp c.in_default.not-DisplayVersion
    (c.in-Err.ensures.kinds (ap is_simple_and_free is ∙ program_is_free)))
