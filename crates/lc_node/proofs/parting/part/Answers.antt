use Rattle.std.proofs.Common.{rules}
use Rattle.lc_node.specs.Parting.{IsStableTo}
use Rattle.lc_node.proofs.parting.part.Goals as goal

pub returns-clause-given : goal.returns-clause-given
returns-clause-given g c = λ is. let both = c.send_off.ensures.given is in
    let stable : IsStableTo c.args.log.now c.is_flushed-flushed.new.log = search rules in
    (stable, both.1)
