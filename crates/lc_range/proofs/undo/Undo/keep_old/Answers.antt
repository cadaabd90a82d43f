use Rattle.std.proofs.Common.{◌≡◌, ◌⊎◌, ◌+◌, ◌≤◌, ℕ, ap, subst, arith}
use Rattle.std.specs.Prelude.{slice_index, OnErr, OnOk}
use Rattle.lc_range.specs.RangeSet.{CountsOutside, MissesSome}
use Rattle.lc_range.specs.Undo.{AddsCopies, KeepsOld, LiesBelow, NeedsBytesAbove, NeedsCopiesAbove, bytes_kept}
use Rattle.lc_range.specs.declared.range.Range.{Range}
use Rattle.lc_range.proofs.undo.Undo.keep_old.Goals as goal

pub keep_at-requires-clause-within : goal.keep_at-requires-clause-within
keep_at-requires-clause-within c = omega (arith, c.requires, ap (λ (r : Range). r.len) c.touched-place.ensures.range, ap (λ (r : Range). r.offset) c.touched-place.ensures.range)

pub returns-clause-kept : goal.returns-clause-kept
returns-clause-kept c =
    subst (λ (r : Range). OnOk c.keep_at.result (KeepsOld c.args.self.now c.args.set.now r.segment r.offset r.len (slice_index c.args.image.now) c.keep_at.new.self)) c.touched-place.ensures.range
    c.keep_at.ensures.kept

pub returns-clause-count : goal.returns-clause-count
returns-clause-count c =
    subst (λ (r : Range). OnOk c.keep_at.result ((n : ℕ) × CountsOutside c.args.set.now r.segment r.offset r.len n × (bytes_kept c.keep_at.new.self ≡ bytes_kept c.args.self.now + n))) c.touched-place.ensures.range
    c.keep_at.ensures.count

pub returns-clause-copies : goal.returns-clause-copies
returns-clause-copies c =
    subst (λ (r : Range). OnOk c.keep_at.result (AddsCopies c.args.self.now c.args.set.now r.segment r.offset r.len c.keep_at.new.self)) c.touched-place.ensures.range
    c.keep_at.ensures.copies

pub returns-clause-below : goal.returns-clause-below
returns-clause-below c =
    subst (λ (r : Range). OnOk c.keep_at.result ((s bound : ℕ) → LiesBelow c.args.self.now s bound → (s ≡ r.segment → r.offset + r.len ≤ bound) → LiesBelow c.keep_at.new.self s bound)) c.touched-place.ensures.range
    c.keep_at.ensures.below

pub returns-clause-memory : goal.returns-clause-memory
returns-clause-memory c =
    subst (λ (r : Range). OnErr c.keep_at.result (MissesSome c.args.set.now r.segment r.offset r.len)) c.touched-place.ensures.range
    c.keep_at.ensures.memory

pub returns-clause-needs : goal.returns-clause-needs
returns-clause-needs c =
    subst (λ (r : Range). OnErr c.keep_at.result (NeedsCopiesAbove 8 c.args.self.now c.args.set.now r.segment r.offset r.len ⊎ NeedsBytesAbove 64 c.args.self.now c.args.set.now r.segment r.offset r.len)) c.touched-place.ensures.range
    c.keep_at.ensures.needs
