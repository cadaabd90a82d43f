use Rattle.lc_tool.proofs.Known.{born_of, command_keeps}
use Rattle.lc_tool.proofs.laws.commands_keep.Goals as goal

pub returns : goal.returns
returns c = record { keeps = command_keeps; born = born_of }
