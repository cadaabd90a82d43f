use Rattle.std.proofs.Common.{rules, ◌≡◌, ℕ, List, refl, sym, subst, ◌∙◌, length, arith}
use Rattle.std.proofs.Math.ListN.{take}
use Rattle.lc_stage.specs.declared.stage_view.StageView.{StageView}
use Rattle.lc_stage.specs.Staging.{Agree, AreRecords}
use Rattle.lc_stage.specs.Seats.{commit_view, flush_view}
use Rattle.lc_log_side.specs.Among.{AreInFront, IsAmong}
use Rattle.lc_log_side.proofs.Confirms.{Stands, is_front, stands, among_stable}
use Rattle.lc_log_side.proofs.SideKeeps.{stays, stays_same}
use Rattle.lc_log_side.proofs.log_side.LogSide.confirm.Goals as goal

pub invariant_of-self : goal.invariant_of-self
invariant_of-self g c = stays g.D.Area c.self.inside c.meet-seat.new.flusher c.self.inside.probe c.self.invariant (search rules) c.self.invariant.idle_probe (stays_same _ _ c.meet-seat.ensures.views.0)

pub invariant_of-self-2 : goal.invariant_of-self-2
invariant_of-self-2 g c = stays g.D.Area c.self.inside c.meet-seat.new.flusher c.self.inside.probe c.self.invariant (search rules) c.self.invariant.idle_probe (stays_same _ _ c.meet-seat.ensures.views.0)

pub count_in_front-index-requires-clause-records :
    goal.count_in_front-index-requires-clause-records
count_in_front-index-requires-clause-records g c = let f : StageView = flush_view c.self.inside.flusher in let v : StageView = commit_view c.args.seat in let inv = c.self.invariant in
    let agree : Agree f v = subst (λ (z : StageView × StageView). Agree z.0 z.1) (λ k. (c.meet-seat.ensures.views.0 k, c.meet-seat.ensures.views.1 k)) c.meet-seat.ensures.agree in
    let front = is_front g.D.Area _ _ _ _ inv.holds in let has = c.requires.received in let is = has.2 in
    let here : has.0.round ≡ length f.past = sym is.0 ∙ (sym c.round.ensures ∙ (c.if-round-self.false ∙ inv.at_round)) in
    let low = inv.published in let at = inv.at_round in
    let s : Stands c.self.inside.stable.items has.0 = stands f v _ front.0 has.0 agree has.1 here front.1 (omega arith) in
    subst AreRecords (λ k. take ((sym is.1 ∙ sym c.place.ensures) k) (sym c.as_slice.ensures.value k)) s.before

pub returns-clause-here : goal.returns-clause-here
returns-clause-here g c = λ _. let f : StageView = flush_view c.self.inside.flusher in let v : StageView = commit_view c.args.seat in let inv = c.self.invariant in
    let agree : Agree f v = subst (λ (z : StageView × StageView). Agree z.0 z.1) (λ k. (c.meet-seat.ensures.views.0 k, c.meet-seat.ensures.views.1 k)) c.meet-seat.ensures.agree in
    let front = is_front g.D.Area _ _ _ _ inv.holds in let low = inv.published in let at = inv.at_round in (
      c.count_in_front-index.result,
      refl,
      λ r own is. let here : r.round ≡ length f.past = sym is.0 ∙ (sym c.round.ensures ∙ (c.if-round-self.false ∙ inv.at_round)) in
          let s : Stands c.self.inside.stable.items r = stands f v _ front.0 r agree own here front.1 (omega arith) in
          let counted : AreInFront c.self.inside.stable.items r.place c.count_in_front-index.result = subst (λ (z : List ℕ × ℕ). AreInFront z.0 z.1 c.count_in_front-index.result) (λ k. (c.as_slice.ensures.value k, (c.place.ensures ∙ is.1) k)) c.count_in_front-index.ensures in
          subst (λ (z : List ℕ). IsAmong z c.count_in_front-index.result r.place r.words) (search rules) (among_stable _ r _ s counted),
    )
