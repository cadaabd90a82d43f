use Rattle.std.proofs.Common.{rules, ◌≡◌, ◌+◌, Some, None, take, refl, sym, ap, subst, ◌∙◌, arith}
use Rattle.std.specs.Prelude.{slice_get}
use Rattle.lc_log_side.specs.LogView.{LogView}
use Rattle.lc_log_side.specs.Truncates.{SeesSides}
use Rattle.lc_log_side.proofs.PagesWritten.{got_item, sees_next, token_seen, none_seen}
use Rattle.lc_log_side.proofs.log_side.LogSide.see_all.Goals.{in-Some, in_default}
use Rattle.lc_log_side.proofs.log_side.LogSide.see_all.Goals as goal

pub loop-held-preserved : goal.loop-held-preserved
loop-held-preserved g c =
    let got : slice_get c.args.sides.now c.loop-held.held-index ≡ Some c.held-item.result = got_item c.args.sides.now c.loop-held.held-index c.held-item.result (let more = c.loop-held-test.true in omega arith) c.held-item.is in
    elim c.match-token.branch [
      | in-Some w ↦
          let token : c.held-item.result.side.standing.token ≡ Some w.in-Some.token.now = search rules in
          let seen = token_seen c.held-item.result.side.standing.token w.in-Some.token.now c.loop-held.self.known w.see.new.self.known token w.see.ensures.sees in
          subst (λ (s : LogView _). SeesSides c.args.self.now.known (take (c.loop-held.held-index + 1) c.args.sides.now) s.known × (s ≡ record c.args.self.now { known = s.known })) (sym w.self-is) (
            sees_next c.args.self.now.known c.args.sides.now c.loop-held.held-index c.held-item.result c.loop-held.self.known w.see.new.self.known c.loop-held.invariant.0 got seen,
            w.see.ensures.same ∙ ap (λ (s : LogView _). record s { known = w.see.new.self.known }) c.loop-held.invariant.1,
          )
      | in_default w ↦
          let token : c.held-item.result.side.standing.token ≡ None = search rules in
          subst (λ (s : LogView _). SeesSides c.args.self.now.known (take (c.loop-held.held-index + 1) c.args.sides.now) s.known × (s ≡ record c.args.self.now { known = s.known })) (sym w.self-is) (
            sees_next c.args.self.now.known c.args.sides.now c.loop-held.held-index c.held-item.result c.loop-held.self.known c.loop-held.self.known c.loop-held.invariant.0 got (none_seen c.held-item.result.side.standing.token c.loop-held.self.known c.loop-held.self.known token refl),
            c.loop-held.invariant.1,
          )
    ]
