use Rattle.std.proofs.Common.{◌≡◌, refl, ap, subst, ◌∙◌}
use Rattle.lc_node.specs.Receptions.{IsFinished}
use Rattle.lc_segments.specs.SegView.{SegView}
use Rattle.lc_segments.specs.declared.held.HeldSide.{HeldSide}
use Rattle.lc_node.proofs.Deliveries.{admitted}
use Rattle.lc_node.proofs.receiving_records.finish_side.Goals as goal

pub returns-clause-finished : goal.returns-clause-finished
returns-clause-finished g c = let mid = c.finish-first.new.self in let admits = c.admit_waiting-arrived.ensures in
    let boxed : HeldSide _ = record { side = c.deref_mut-side.result.now; loan = c.held.inside.0.1.0 } in
    let same : boxed ≡ c.args.held.now = ap (λ (s : SegView _). record { side = s; loan = c.held.inside.0.1.0 }) c.deref_mut-side.ensures.value ∙ c.held.view_is in
    subst (λ (h : HeldSide _). IsFinished h c.args.reception c.finish-first.result (record { side = c.admit_waiting-arrived.new.self; loan = c.held.inside.0.1.0 })) same (refl, (mid, c.finish-first.ensures.takes, admitted mid c.admit_waiting-arrived.new.self mid.waiting c.admit_waiting-arrived.result refl admits.when admits.arrived admits.none))
