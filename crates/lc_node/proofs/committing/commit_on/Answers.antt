use Rattle.std.proofs.Common.{◌≡◌, ℕ, Err, All, List, refl, sym, ap, subst, ◌∙◌, inl, inr}
use Rattle.std.specs.Prelude.{◌⊎◌, IfErr, IsSome}
use Rattle.lc_tx.specs.declared.tx_fault.TxFault.TheVariants.{NotHere as NotThere}
use Rattle.lc_node.specs.Commits.{IsFirstGone, IsKept, IsUnbegunOn, IsUncommitted, bytes_at, segments_in}
use Rattle.lc_node.specs.Halting.{IsHalted}
use Rattle.lc_segments.specs.Each.{Each}
use Rattle.lc_node.specs.Held.{IsHeldOf}
use Rattle.lc_node.specs.Stages.{Sees}
use Rattle.lc_segments.specs.declared.node_fault.NodeFault.{NodeFault}
use Rattle.lc_segments.specs.declared.held.HeldSide.{HeldSide}
use Rattle.lc_stage.specs.Seats.{commit_view}
use Rattle.lc_node.proofs.FirstGone.{first_absent}
use Rattle.lc_node.proofs.Roomed.{at_err, cases_done, each_err, kept_tidy}
use Rattle.lc_node.proofs.Standing.{held_here, held_kept, held_takes, same_kept, segments_kept, segments_takes}
use Rattle.lc_node.proofs.committing.commit_on.Goals as goal

pub returns-then-is_halted-clause-refused : goal.returns-then-is_halted-clause-refused
returns-then-is_halted-clause-refused g c = (refl, same_kept c.args.node.now c.args.sides.now c.requires.held)

pub returns-in-Some-clause-refused : goal.returns-in-Some-clause-refused
returns-in-Some-clause-refused g c = (refl, same_kept c.args.node.now c.args.sides.now c.requires.held)

pub returns-in-Some-clause-why : goal.returns-in-Some-clause-why
returns-in-Some-clause-why g c =
    let sides : List (HeldSide g.row.D.Denot) = c.args.sides.now in
    let gone : IsFirstGone sides c.in-Some.segment = (c.in-Some.ensures.first c.in-Some.segment).0 refl in
    inr (inr (inl (NotThere c.in-Some.segment, refl, inl (inl (c.in-Some.segment, refl, first_absent sides c.requires.ascends c.in-Some.segment gone)))))

pub returns-in_default-segments_in-clause-refused : goal.returns-in_default-segments_in-clause-refused
returns-in_default-segments_in-clause-refused g c = (refl, same_kept c.args.node.now c.args.sides.now c.requires.held)

pub returns-in_default-take_scratch-clause-refused : goal.returns-in_default-take_scratch-clause-refused
returns-in_default-take_scratch-clause-refused g c = (refl, subst (λ (l : List (HeldSide g.row.D.Denot)). Each IsKept c.args.sides.now l) (sym c.take_scratch.ensures) (same_kept c.args.node.now c.args.sides.now c.requires.held))

pub commit_with-done-requires-clause-here : goal.commit_with-done-requires-clause-here
commit_with-done-requires-clause-here g c = subst (λ (l : List (HeldSide g.row.D.Denot)). All (λ (h : HeldSide g.row.D.Denot). IsSome h.side.image) l) (sym c.take_scratch.ensures) (held_here c.args.node.now c.args.sides.now c.requires.held)

pub returns-clause-held : goal.returns-clause-held
returns-clause-held g c =
    let node = c.args.node.now in let xs : List (HeldSide g.row.D.Denot) = c.take_scratch.new.sides in let last : List (HeldSide g.row.D.Denot) = c.commit_with-done.new.sides in
    let held : All (IsHeldOf node) xs = subst (λ (l : List (HeldSide g.row.D.Denot)). All (IsHeldOf node) l) (sym c.take_scratch.ensures) c.requires.held in
    let done = c.commit_with-done.result in let e = c.commit_with-done.ensures in
    let refused : (f : NodeFault) → done ≡ Err f → Each IsKept xs last = λ f is. (at_err done f (λ _. Sees (commit_view c.args.seat.now) (commit_view c.commit_with-done.new.seat) × Each IsKept xs last) is e.refused).1 in
    subst (λ (l : List (HeldSide g.row.D.Denot)). All (IsHeldOf node) l) (sym c.keep_scratch.ensures) (cases_done (All (IsHeldOf node) last) done
    (λ yes. let w = e.committed yes in held_takes node w.whole xs last w.takes held)
    (λ no. held_kept node xs last (kept_tidy xs last (e.nothing no).1) held)
    (λ f is. held_kept node xs last (refused f is) held))

pub returns-clause-segments : goal.returns-clause-segments
returns-clause-segments g c =
    let node = c.args.node.now in let xs : List (HeldSide g.row.D.Denot) = c.take_scratch.new.sides in let last : List (HeldSide g.row.D.Denot) = c.commit_with-done.new.sides in
    let held : All (IsHeldOf node) xs = subst (λ (l : List (HeldSide g.row.D.Denot)). All (IsHeldOf node) l) (sym c.take_scratch.ensures) c.requires.held in
    let done = c.commit_with-done.result in let e = c.commit_with-done.ensures in
    let refused : (f : NodeFault) → done ≡ Err f → Each IsKept xs last = λ f is. (at_err done f (λ _. Sees (commit_view c.args.seat.now) (commit_view c.commit_with-done.new.seat) × Each IsKept xs last) is e.refused).1 in
    ap (λ (l : List (HeldSide g.row.D.Denot)). segments_in l) c.keep_scratch.ensures ∙ (cases_done (segments_in last ≡ segments_in xs) done
    (λ yes. let w = e.committed yes in segments_takes w.whole xs last w.takes)
    (λ no. segments_kept xs last (kept_tidy xs last (e.nothing no).1))
    (λ f is. segments_kept xs last (refused f is))
    ∙ ap (λ (l : List (HeldSide g.row.D.Denot)). segments_in l) c.take_scratch.ensures)

pub returns-clause-why : goal.returns-clause-why
returns-clause-why g c =
    let tells = g.W.Work.ran c.args.work.now c.commit_with-done.new.work in let seen : ℕ = (commit_view c.commit_with-done.new.seat).seen in
    let done = c.commit_with-done.result in let xs : List (HeldSide g.row.D.Denot) = c.take_scratch.new.sides in
    subst (λ (l : List (HeldSide g.row.D.Denot)). IfErr done (λ fault. IsHalted g.D.Area fault ⊎ IsUncommitted tells (IsUnbegunOn (segments_in l) l) (segments_in l) (bytes_at l) c.args.node.now.stage.room c.args.tries seen fault)) c.take_scratch.ensures
    (each_err done (λ fault. IsHalted g.D.Area fault ⊎ IsUncommitted tells (IsUnbegunOn (segments_in xs) xs) (segments_in xs) (bytes_at xs) c.args.node.now.stage.room c.args.tries seen fault)
    (λ f is. inr (at_err done f (λ fault. IsUncommitted tells (IsUnbegunOn (segments_in xs) xs) (segments_in xs) (bytes_at xs) c.args.node.now.stage.room c.args.tries seen fault) is c.commit_with-done.ensures.why)))
