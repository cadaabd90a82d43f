use Rattle.std.proofs.Common.{◌≡◌, true, refl, sym, ap, ◌∙◌}
use Rattle.lc_record.specs.Transaction.{is_member}
use Rattle.lc_tx.proofs.HoldsLemmas.{locked_holds}
use Rattle.lc_tx.proofs.tx.Tx.mode_of.Goals as goal
use Rattle.lc_tx.proofs.tx.Tx.mode_of.Goals.{Then-is_among}

locks : (c : Then-is_among) → is_member c.args.segment c.args.self.now.locked.items ≡ true
locks c = ap (is_member c.args.segment) (sym c.locked.ensures) ∙ sym c.is_among.ensures ∙ c.if-is_among.true

pub returns-then-is_among-clause-writing : goal.returns-then-is_among-clause-writing
returns-then-is_among-clause-writing c = (λ e. locks c, λ h. refl)

pub returns-then-is_among-clause-reading : goal.returns-then-is_among-clause-reading
returns-then-is_among-clause-reading c = (λ e. absurd cc, λ h. absurd (h.1 (locks c)))

pub returns-then-is_among-clause-none : goal.returns-then-is_among-clause-none
returns-then-is_among-clause-none c = (λ e. absurd cc, λ none. absurd (none (locked_holds c.args.self.now c.args.segment (locks c))))
