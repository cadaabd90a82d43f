use Rattle.std.proofs.Common.{◌+◌, ◌-◌, arith}
use Rattle.std.proofs.lemmas.Grind.{common_steps}
use Rattle.lc_tx.proofs.PutLemmas.{written_is}
use Rattle.lc_rest.proofs.replay.lay.Goals as goal

pub returns : goal.returns
returns c =
    written_is c.args.offset c.args.bytes.now c.args.image.now c.copy_from_slice.new.self c.min-start.result c.min-len.result (c.min-start.result + c.min-len.result - c.min-start.result)
    c.min-start.ensures c.min-len.ensures (omega arith) (grind (arith, common_steps))
