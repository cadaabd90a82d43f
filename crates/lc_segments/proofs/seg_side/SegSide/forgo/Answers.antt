use Rattle.std.proofs.Common.{subst, sym, ◌∙◌}
use Rattle.lc_segments.specs.Delivering.{IsReadied}
use Rattle.lc_segments.specs.Receptions.{Prepares}
use Rattle.lc_segments.proofs.Received.{forgone, readied}
use Rattle.lc_segments.proofs.seg_side.SegSide.forgo.Goals as goal
use Rattle.lc_segments.proofs.seg_side.SegSide.forgo.Goals.{in-HeldBack, in_default}

pub returns : goal.returns
returns g c = λ part before ready. elim c.match-reception.branch [
  | in-HeldBack w ↦ forgone part before c.args.self.now c.match-reception.self w.in-HeldBack.seq (subst (λ r. Prepares part before r c.args.self.now) w.in-HeldBack.is ready) (w.self-is ∙ w.forget.ensures)
  | in_default w ↦ subst (IsReadied before) (sym w.self-is) (readied part before c.args.self.now c.args.reception w.in_default.not-HeldBack ready)
]
