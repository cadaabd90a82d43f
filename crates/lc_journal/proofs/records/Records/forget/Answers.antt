use Rattle.std.proofs.Common.{◌∙◌, arith, refl}
use Rattle.lc_journal.proofs.Spans.{held, kept_so, seen_so, forgotten_so}
use Rattle.lc_journal.proofs.records.Records.forget.Goals as goal

pub overflow_sub-self : goal.overflow_sub-self
overflow_sub-self c =
    let h = held _ _ _ _ _ _ c.self.invariant c.self.view_is in
    omega (arith, c.requires.kept, h.before_is)

pub invariant_of-self : goal.invariant_of-self
invariant_of-self c =
    let h = held _ _ _ _ _ _ c.self.invariant c.self.view_is in
    kept_so _ _ _ _ _ _ (forgotten_so _ _ _ _ _ _ h c.args.number _ c.requires.kept c.requires.closed refl)

pub returns : goal.returns
returns c =
    let h = held _ _ _ _ _ _ c.self.invariant c.self.view_is in
    c.move_up.ensures ∙ seen_so _ _ _ _ _ _ (forgotten_so _ _ _ _ _ _ h c.args.number _ c.requires.kept c.requires.closed refl)
