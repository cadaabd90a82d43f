use Rattle.std.proofs.lemmas.Result.{IfOk-weaker}
use Rattle.clap.specs.Words.{App, with_subcommand}
use Rattle.lc_words.specs.CommandLine.{check_app, copy_app, draw_app, dump_app, init_app, inspect_app, lines_app, recover_app, run_app, top_app}
use Rattle.lc_words.proofs.program.program.Goals as goal

pub returns : goal.returns
returns c =
    let one : App = with_subcommand top_app run_app.top in
    let two : App = with_subcommand one init_app.top in
    let three : App = with_subcommand two recover_app.top in
    let four : App = with_subcommand three inspect_app.top in
    let five : App = with_subcommand four lines_app.top in
    let six : App = with_subcommand five check_app.top in
    let seven : App = with_subcommand six dump_app.top in
    let like_one = c.in_ok-command.ensures top_app run_app c.in_ok-topmost.ensures c.run.ensures in
    let like_two = c.in_ok-command-2.ensures one init_app like_one c.init.ensures in
    let like_three = c.in_ok-command-3.ensures two recover_app like_two c.recover.ensures in
    let like_four = c.in_ok-command-4.ensures three inspect_app like_three c.inspect.ensures in
    let like_five = c.in_ok-command-5.ensures four lines_app like_four c.lines.ensures in
    let like_six = c.in_ok-command-6.ensures five check_app like_five c.check.ensures in
    let like_seven = c.in_ok-command-7.ensures six dump_app like_six c.dump.ensures in
    let eight : App = with_subcommand seven draw_app.top in
    let like_eight = c.in_ok-command-8.ensures seven draw_app like_seven c.draw.ensures in
    IfOk-weaker c.with_subcommand-9.result _ _ (λ m like. like.0) (c.with_subcommand-9.ensures eight copy_app like_eight c.copy.ensures)
