use Rattle.lc_node.proofs.FreshUp.{all_opened, numbers_stand}
use Rattle.lc_node.proofs.opening.open_first.Goals as goal

pub returns-clause-each : goal.returns-clause-each
returns-clause-each g c =
    all_opened c.args.recovered c.args.nodes c.in_ok-fresh_nodes.field-0.items c.in_ok-fresh_nodes.ensures.fresh c.up_all.result.items c.up_all.ensures

pub returns-clause-numbered : goal.returns-clause-numbered
returns-clause-numbered g c =
    numbers_stand c.args.recovered c.args.nodes c.in_ok-fresh_nodes.field-0.items c.in_ok-fresh_nodes.ensures.fresh c.up_all.result.items c.up_all.ensures

pub returns-clause-comes_up : goal.returns-clause-comes_up
returns-clause-comes_up g c = (c.in_ok-fresh_nodes.field-0.items, c.in_ok-fresh_nodes.ensures.fresh, c.up_all.ensures)
