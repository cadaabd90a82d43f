use Rattle.std.proofs.Common.{◌+◌, ◌-◌, length, arith}
use Rattle.lc_names.proofs.Entries.{entry_written}
use Rattle.lc_names.proofs.name_entry.entry_of.Goals as goal

pub returns : goal.returns
returns c =
    entry_written c.args.name.now c.args.attributes.now c.copy_from_slice.new.self c.copy_from_slice-2.new.self (1 + length c.args.name.now - 1) (33 + length c.args.attributes.now - 33)
    c.copy_from_slice.ensures.after c.copy_from_slice-2.ensures.after (omega arith) (omega arith) c.requires.name
