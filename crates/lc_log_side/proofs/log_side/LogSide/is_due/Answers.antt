use Rattle.std.proofs.Common.{rules, ℕ, List, ap, subst, refl, inr, arith}
use Rattle.lc_token.specs.KnownClean.{known as known_of}
use Rattle.lc_token.specs.Reset.{AreKnown, IsAbove}
use Rattle.lc_model.specs.Merge.{IsLeastPair}
use Rattle.lc_log_side.specs.LogSide.{is_halted}
use Rattle.lc_log_side.specs.LogView.{LogView}
use Rattle.lc_log_side.specs.Resets.{CanReset, IsUnfit}
use Rattle.lc_segments.specs.declared.node_fault.NodeFault.TheVariants.{Unclean}
use Rattle.lc_log_side.proofs.log_side.LogSide.is_due.Goals as goal

pub returns-in-Ok-clause-due : goal.returns-in-Ok-clause-due
returns-in-Ok-clause-due g c = subst (λ (s : LogView g.row.D.Denot). CanReset s) c.self.view_is (
  (ap (is_halted g.D.Area) c.in-Idle.is, search rules),
  (λ spent. c.if-self-eq-LAST_ROUND.false (omega arith)),
  subst (λ (l : List ℕ). AreKnown l (known_of c.self.inside.known)) c.as_slice.ensures.value (c.in-Ok.ensures.clean.0 refl),
)

pub returns-in-Err-clause-refused : goal.returns-in-Err-clause-refused
returns-in-Err-clause-refused g c = subst (λ (s : LogView g.row.D.Denot). IsUnfit s (Unclean c.in-Err.unclean.segment c.in-Err.unclean.seq)) c.self.view_is (inr (inr (
  c.in-Err.unclean.segment,
  c.in-Err.unclean.seq,
  refl,
  (ap (is_halted g.D.Area) c.in-Idle.is, search rules),
  (λ spent. c.if-self-eq-LAST_ROUND.false (omega arith)),
  subst (λ (l : List ℕ). IsLeastPair (IsAbove l (known_of c.self.inside.known)) c.in-Err.unclean.segment c.in-Err.unclean.seq) c.as_slice.ensures.value ((c.may_reset_kept.ensures.unclean c.in-Err.unclean.segment c.in-Err.unclean.seq).0 c.in-Err.is),
)))
