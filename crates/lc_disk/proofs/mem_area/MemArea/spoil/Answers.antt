use Rattle.std.proofs.Common.{◌≡◌, false, Bool, List, ◌++◌, length, slice_index_or, take, drop, ◌∙◌, sym, ap, subst, arith}
use Rattle.std.proofs.lemmas.List.{take_at}
use Rattle.lc_disk.specs.Area.{BecomeDirty}
use Rattle.lc_disk.specs.Span.{IsSpan}
use Rattle.lc_disk.proofs.Outside.{was_clean}
use Rattle.lc_disk.proofs.mem_area.MemArea.spoil.Goals as goal

marked_is : (c : goal.After-widened-self) → take c.args.self.now.dirty.len (c.mark.new.dirty ++ drop (length c.mark.new.dirty) c.args.self.now.dirty.items) ≡ c.mark.new.dirty
marked_is c = take_at c.mark.new.dirty (drop (length c.mark.new.dirty) c.args.self.now.dirty.items) c.args.self.now.dirty.len (omega (arith, c.mark.auto.dirty, c.deref_mut.ensures.len))

marked : (c : goal.After-widened-self) → BecomeDirty c.args.at c.args.len (λ k. slice_index_or c.args.self.now.dirty.items k false) (λ k. slice_index_or c.mark.new.dirty k false)
marked c = subst (λ (l : List Bool). BecomeDirty c.args.at c.args.len (λ k. slice_index_or l k false) (λ k. slice_index_or c.mark.new.dirty k false)) c.deref_mut.ensures.value c.mark.ensures

pub invariant_of-self-clause-same_dirty : goal.invariant_of-self-clause-same_dirty
invariant_of-self-clause-same_dirty c = omega (arith, ap length (marked_is c), c.mark.auto.dirty, c.deref_mut.ensures.len, c.args.self.now.same_dirty)

pub invariant_of-self-clause-settled : goal.invariant_of-self-clause-settled
invariant_of-self-clause-settled c = λ k clean.
    c.args.self.now.settled k (was_clean c.args.at c.args.len _ _ (marked c) k (sym (ap (λ (l : List Bool). slice_index_or l k false) (marked_is c)) ∙ clean))

pub invariant_of-self-clause-spans : goal.invariant_of-self-clause-spans
invariant_of-self-clause-spans c =
    subst (λ (l : List Bool). IsSpan c.widened-self.result.start c.widened-self.result.end (λ k. slice_index_or l k false)) (sym (marked_is c))
    (c.widened-self.ensures.spans _ _ c.args.self.now.spans (marked c))

pub invariant_of-self-clause-within : goal.invariant_of-self-clause-within
invariant_of-self-clause-within c = c.widened-self.ensures.within _ c.args.self.now.within c.requires
