use Rattle.std.proofs.Common.{rules, ◌≡◌, false, [], Err, refl, sym, subst, inl, inr}
use Rattle.std.specs.Prelude.{◌⊎◌, IfErr}
use Rattle.std.proofs.lemmas.Result.{IfErr-weaker as if_err, IfOk-weaker as if_ok}
use Rattle.lc_log_side.specs.EndedRoom.{LacksRoom}
use Rattle.lc_log_side.specs.LogView.{LogView}
use Rattle.lc_log_side.specs.Resets.{CanReset, Empties, IsUnemptied}
use Rattle.lc_node.specs.Resets.{IsSameInRoom}
use Rattle.lc_segments.specs.declared.node_fault.NodeFault.TheVariants.{NoMemory}
use Rattle.lc_node.proofs.node.Node.reset_log.Goals as goal

pub returns-in_err-is_due-clause-refused : goal.returns-in_err-is_due-clause-refused
returns-in_err-is_due-clause-refused g c =
    let log = c.args.log.now in
    let is : c.from_residual.result ≡ Err c.in_err-is_due.field-0.0 = search rules in
    subst (λ r. IfErr r (λ fault. ((fault ≡ NoMemory) × CanReset log × LacksRoom log log) ⊎ ((x : LogView _) × IsSameInRoom log x × IsUnemptied x fault log))) (sym is)
    (inr (log, refl, inl (c.in_err-is_due.ensures.refused, refl)))

pub returns-then-not-branch-clause-emptied : goal.returns-then-not-branch-clause-emptied
returns-then-not-branch-clause-emptied g c =
    let log = c.args.log.now in
    let not : c.in_ok-is_due.field-0 ≡ false = search rules in
    let none : (log.is_halted ≡ false) × (log.stable ≡ []) = search rules in
    (log, refl, inr (none.0, none.1, c.round.ensures, refl))

pub returns-clause-emptied : goal.returns-clause-emptied
returns-clause-emptied g c =
    let log = c.args.log.now in
    let roomy = c.make_room.new.self in
    let new = c.reset-reset.new.self in
    if_ok c.reset-reset.result (λ round. Empties roomy round new) (λ round. (x : LogView _) × IsSameInRoom log x × Empties x round new)
    (λ round empties. (roomy, c.in-Ok.ensures.made.1, empties)) c.reset-reset.ensures.emptied

pub returns-clause-refused : goal.returns-clause-refused
returns-clause-refused g c =
    let log = c.args.log.now in
    let roomy = c.make_room.new.self in
    let new = c.reset-reset.new.self in
    if_err c.reset-reset.result (λ fault. IsUnemptied roomy fault new)
    (λ fault. ((fault ≡ NoMemory) × CanReset log × LacksRoom log new) ⊎ ((x : LogView _) × IsSameInRoom log x × IsUnemptied x fault new))
    (λ fault why. inr (roomy, c.in-Ok.ensures.made.1, why)) c.reset-reset.ensures.refused
