use Rattle.std.proofs.Common.{rules}
use Rattle.lc_node.specs.Delivering.{IsDelivered, IsReadiedSide}
use Rattle.lc_node.proofs.DeliveryKeeps.{held_through, readied_same, readied_here, delivered_same, prepared_here, ready_all, arrived_through}
use Rattle.lc_node.proofs.held.Held.deliver.Goals as goal

pub returns-then-not-prepare_all-clause-held : goal.returns-then-not-prepare_all-clause-held
returns-then-not-prepare_all-clause-held g c = λ node held. let olds = c.args.self.now.sides.items in let news = c.forgo_all.new.sides.items in
    let readied = c.forgo_all.ensures c.args.record.now olds c.prepare_all.ensures.prepared in
    held_through node IsReadiedSide olds news readied readied_same (readied_here olds news readied c.requires.here) held

pub returns-then-not-prepare_all-clause-err : goal.returns-then-not-prepare_all-clause-err
returns-then-not-prepare_all-clause-err g c = c.forgo_all.ensures c.args.record.now c.args.self.now.sides.items c.prepare_all.ensures.prepared

pub finish_all-requires-clause-here : goal.finish_all-requires-clause-here
finish_all-requires-clause-here g c = prepared_here c.args.record.now c.args.self.now.sides.items c.prepare_all.new.sides.items c.prepare_all.new.receptions.items c.prepare_all.ensures.prepared c.requires.here

pub finish_all-requires-clause-ready : goal.finish_all-requires-clause-ready
finish_all-requires-clause-ready g c = ready_all c.args.record.now c.args.self.now.sides.items c.prepare_all.new.sides.items c.prepare_all.new.receptions.items c.prepare_all.ensures.prepared (c.prepare_all.ensures.whole (search rules))

pub returns-clause-delivered : goal.returns-clause-delivered
returns-clause-delivered g c = c.finish_all.ensures.delivered c.args.record.now c.args.self.now.sides.items c.prepare_all.ensures.prepared

pub returns-clause-arrived : goal.returns-clause-arrived
returns-clause-arrived g c = let through = arrived_through c.args.record.now c.args.self.now.sides.items c.prepare_all.new.sides.items c.prepare_all.new.receptions.items c.prepare_all.ensures.prepared c.finish_all.new.sides.items in
    let arrived = c.finish_all.ensures.arrived in
    (λ is. through.0 (arrived.0 is), λ some. arrived.1 (through.1 some))

pub returns-clause-held : goal.returns-clause-held
returns-clause-held g c = λ node held. let olds = c.args.self.now.sides.items in
    held_through node (IsDelivered c.args.record.now) olds c.finish_all.new.sides.items (c.finish_all.ensures.delivered c.args.record.now olds c.prepare_all.ensures.prepared) (delivered_same c.args.record.now) c.finish_all.ensures.here held
