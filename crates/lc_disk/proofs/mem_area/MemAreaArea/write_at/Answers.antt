use Rattle.std.proofs.Common.{◌≡◌, ℕ, List, ◌++◌, length, slice_index_or, take, drop, ◌∙◌, sym, ap, arith}
use Rattle.std.proofs.lemmas.List.{take_at}
use Rattle.lc_disk.proofs.Outside.{same_where_clean}
use Rattle.lc_disk.proofs.mem_area.MemAreaArea.write_at.Goals as goal

laid_long : (n : ℕ) (laid old : List ℕ) → length laid ≡ n → length (take n (laid ++ drop (length laid) old)) ≡ n
laid_long n laid old long = ap length (take_at laid (drop (length laid) old) n long) ∙ long

pub invariant_of-self-clause-same_stable : goal.invariant_of-self-clause-same_stable
invariant_of-self-clause-same_stable c =
    let spoiled = c.spoil.new.self in
    omega (arith, laid_long spoiled.bytes.len c.overlay.new.area spoiled.bytes.items (omega (arith, c.overlay.auto.area, c.deref_mut.ensures.len)), c.deref_mut.ensures.len, ap length c.deref_mut.ensures.value, spoiled.same_stable)

pub invariant_of-self-clause-same_dirty : goal.invariant_of-self-clause-same_dirty
invariant_of-self-clause-same_dirty c =
    let spoiled = c.spoil.new.self in
    omega (arith, laid_long spoiled.bytes.len c.overlay.new.area spoiled.bytes.items (omega (arith, c.overlay.auto.area, c.deref_mut.ensures.len)), c.deref_mut.ensures.len, ap length c.deref_mut.ensures.value, spoiled.same_dirty)

pub invariant_of-self-clause-within : goal.invariant_of-self-clause-within
invariant_of-self-clause-within c =
    let spoiled = c.spoil.new.self in
    omega (arith, laid_long spoiled.bytes.len c.overlay.new.area spoiled.bytes.items (omega (arith, c.overlay.auto.area, c.deref_mut.ensures.len)), c.deref_mut.ensures.len, ap length c.deref_mut.ensures.value, spoiled.within)

pub invariant_of-self-clause-settled : goal.invariant_of-self-clause-settled
invariant_of-self-clause-settled c =
    let spoiled = c.spoil.new.self in
    let laid = c.overlay.new.area in
    let whole : take spoiled.bytes.len (laid ++ drop (length laid) spoiled.bytes.items) ≡ laid =
    take_at laid (drop (length laid) spoiled.bytes.items) spoiled.bytes.len (omega (arith, c.overlay.auto.area, c.deref_mut.ensures.len)) in
    λ k clean.
    spoiled.settled k clean
    ∙ sym (ap (λ (l : List ℕ). slice_index_or l k 0) c.deref_mut.ensures.value)
    ∙ sym (same_where_clean c.args.at (length c.args.bytes.now) c.deref_mut.result.now laid _ _ c.overlay.ensures.torn c.spoil.ensures.dirtied k clean)
    ∙ sym (ap (λ (l : List ℕ). slice_index_or l k 0) whole)
