use Rattle.std.proofs.Common.{rules, ◌≡◌, ℕ, ◌-◌, List, [], ◌∷◌, All, get_or, refl, sym, ap, subst, ◌∙◌, inr, arith}
use Rattle.lc_tx.specs.Tx.{IsSetOf}
use Rattle.lc_node.specs.Commits.{segments_in}
use Rattle.lc_node.specs.Held.{HasSegment, IsHeldOf}
use Rattle.lc_segments.specs.declared.held.HeldSide.{HeldSide}
use Rattle.lc_log_side.proofs.Knowing.{all_alone}
use Rattle.lc_node.proofs.LockedCommit.{first_of_one}
use Rattle.lc_node.proofs.SegmentLocks.{held_lock, held_now}
use Rattle.lc_node.proofs.node.Node.commit_one.Goals as goal

pub commit_on-committed-requires-clause-held : goal.commit_on-committed-requires-clause-held
commit_on-committed-requires-clause-held g c =
    let node = c.args.self.now in let h : HeldSide g.row.D.Denot = record { side = c.lock-side.result.0; loan = c.lock-side.result.1 } in
    let has : HasSegment node c.args.segment = search rules in
    let now = held_now node h c.index-lock.result.now (c.args.segment - 1) (omega (arith, has.0, has.1)) c.index-lock.ensures c.lock-side.ensures.fits.0 c.lock-side.ensures.loan c.lock-side.ensures.fits.1 in
    let is_of : h.side.segment ≡ c.args.segment = omega (arith, now.1, has.0) in
    let olds : List (HeldSide g.row.D.Denot) = c.from_mut-sides.result.now in
    let held : All (IsHeldOf node) olds = subst (λ (l : List (HeldSide g.row.D.Denot)). All (IsHeldOf node) l) (sym c.from_mut-sides.ensures.value) (all_alone (IsHeldOf node) h now.0) in
    let segments : segments_in olds ≡ c.args.segment ∷ [] = ap (λ (l : List (HeldSide g.row.D.Denot)). segments_in l) c.from_mut-sides.ensures.value ∙ ap (λ (s : ℕ). s ∷ []) is_of in
    held

pub unlock-requires-clause-fits : goal.unlock-requires-clause-fits
unlock-requires-clause-fits g c =
    let node = c.args.self.now in let h : HeldSide g.row.D.Denot = record { side = c.lock-side.result.0; loan = c.lock-side.result.1 } in
    let has : HasSegment node c.args.segment = search rules in
    let now = held_now node h c.index-lock.result.now (c.args.segment - 1) (omega (arith, has.0, has.1)) c.index-lock.ensures c.lock-side.ensures.fits.0 c.lock-side.ensures.loan c.lock-side.ensures.fits.1 in
    let is_of : h.side.segment ≡ c.args.segment = omega (arith, now.1, has.0) in
    let olds : List (HeldSide g.row.D.Denot) = c.from_mut-sides.result.now in
    let held : All (IsHeldOf node) olds = subst (λ (l : List (HeldSide g.row.D.Denot)). All (IsHeldOf node) l) (sym c.from_mut-sides.ensures.value) (all_alone (IsHeldOf node) h now.0) in
    let segments : segments_in olds ≡ c.args.segment ∷ [] = ap (λ (l : List (HeldSide g.row.D.Denot)). segments_in l) c.from_mut-sides.ensures.value ∙ ap (λ (s : ℕ). s ∷ []) is_of in
    let e = c.commit_on-committed.ensures in let news : List (HeldSide g.row.D.Denot) = c.commit_on-committed.new.sides in
    let first = first_of_one news h c.args.segment (e.segments ∙ segments) in
    let last = held_lock node (get_or news 0 h) c.args.segment (e.held 0 h first.0) (sym first.1) in
    let back = last.1 c.index-lock.result.now c.index-lock.ensures in
    (back.0, back.2)

pub unlock-requires-clause-loan : goal.unlock-requires-clause-loan
unlock-requires-clause-loan g c =
    let node = c.args.self.now in let h : HeldSide g.row.D.Denot = record { side = c.lock-side.result.0; loan = c.lock-side.result.1 } in
    let has : HasSegment node c.args.segment = search rules in
    let now = held_now node h c.index-lock.result.now (c.args.segment - 1) (omega (arith, has.0, has.1)) c.index-lock.ensures c.lock-side.ensures.fits.0 c.lock-side.ensures.loan c.lock-side.ensures.fits.1 in
    let is_of : h.side.segment ≡ c.args.segment = omega (arith, now.1, has.0) in
    let olds : List (HeldSide g.row.D.Denot) = c.from_mut-sides.result.now in
    let held : All (IsHeldOf node) olds = subst (λ (l : List (HeldSide g.row.D.Denot)). All (IsHeldOf node) l) (sym c.from_mut-sides.ensures.value) (all_alone (IsHeldOf node) h now.0) in
    let segments : segments_in olds ≡ c.args.segment ∷ [] = ap (λ (l : List (HeldSide g.row.D.Denot)). segments_in l) c.from_mut-sides.ensures.value ∙ ap (λ (s : ℕ). s ∷ []) is_of in
    let e = c.commit_on-committed.ensures in let news : List (HeldSide g.row.D.Denot) = c.commit_on-committed.new.sides in
    let first = first_of_one news h c.args.segment (e.segments ∙ segments) in
    let last = held_lock node (get_or news 0 h) c.args.segment (e.held 0 h first.0) (sym first.1) in
    let back = last.1 c.index-lock.result.now c.index-lock.ensures in
    back.1

pub returns-clause-commits : goal.returns-clause-commits
returns-clause-commits g c =
    let node = c.args.self.now in let h : HeldSide g.row.D.Denot = record { side = c.lock-side.result.0; loan = c.lock-side.result.1 } in
    let has : HasSegment node c.args.segment = search rules in
    let now = held_now node h c.index-lock.result.now (c.args.segment - 1) (omega (arith, has.0, has.1)) c.index-lock.ensures c.lock-side.ensures.fits.0 c.lock-side.ensures.loan c.lock-side.ensures.fits.1 in
    let is_of : h.side.segment ≡ c.args.segment = omega (arith, now.1, has.0) in
    let olds : List (HeldSide g.row.D.Denot) = c.from_mut-sides.result.now in
    let held : All (IsHeldOf node) olds = subst (λ (l : List (HeldSide g.row.D.Denot)). All (IsHeldOf node) l) (sym c.from_mut-sides.ensures.value) (all_alone (IsHeldOf node) h now.0) in
    let segments : segments_in olds ≡ c.args.segment ∷ [] = ap (λ (l : List (HeldSide g.row.D.Denot)). segments_in l) c.from_mut-sides.ensures.value ∙ ap (λ (s : ℕ). s ∷ []) is_of in
    let e = c.commit_on-committed.ensures in
    let set : IsSetOf (c.args.segment ∷ []) (segments_in olds) = subst (λ (l : List ℕ). IsSetOf (c.args.segment ∷ []) l) (sym segments) (record { ascends = tt; same = λ n. refl }) in
    inr (record {
      olds = olds;
      news = c.commit_on-committed.new.sides;
      asked = set;
      got = held;
      given = e.held;
      commits = record { here = e.here; committed = e.committed; nothing = e.nothing; why = e.why; absent = e.absent; refused = e.refused };
    })
