use Rattle.std.proofs.Common.{◌≡◌, ℕ, [], length, None, sym, subst, arith, rules}
use Rattle.lc_heap.specs.Heap.{Holds, IsBlockAt, done}
use Rattle.lc_heap.proofs.Blocks.{bounded, ordered, then_free}
use Rattle.lc_heap.proofs.Reading.{behind_free, first_use, same_uses}
use Rattle.lc_heap.proofs.Walks.{block_there}
use Rattle.lc_heap.proofs.listing.next_block.Goals as goal

pub loop-place-init : goal.loop-place-init
loop-place-init c = record { free = done }

pub returns-in_err-block : goal.returns-in_err-block
returns-in_err-block c =
    let none : c.from_residual.result ≡ None = search rules in
    let lacks : IsBlockAt c.args.bytes.now c.loop-place.place → ⊥ = rw c.in_err-block.was at c.block_at.ensures in
    rw none (λ marked uses blocks. absurd (lacks (block_there c.loop-place.invariant.free blocks c.loop-place-test.true)))

pub returns-in-Some : goal.returns-in-Some
returns-in-Some c marked uses blocks =
    let is = c.in_ok-block.ensures in
    let some = rw c.in-Some.is at is.asked in
    let first = first_use (behind_free c.loop-place.invariant.free blocks (omega arith)) c.loop-place-test.true c.in-Some.len some in
    (first.0, first.1, subst (λ (n : ℕ). Holds c.args.bytes.now (length c.args.bytes.now) n first.0) (sym is.ends) first.2)

pub loop-place-preserved : goal.loop-place-preserved
loop-place-preserved c =
    let is = c.in_ok-block.ensures in
    let none = rw c.in_default.is at is.asked in
    record { free = subst (λ (n : ℕ). Holds c.args.bytes.now n c.args.end []) (sym is.ends) (then_free c.loop-place.invariant.free is.sound none) }

pub returns : goal.returns
returns c marked uses blocks =
    let known = c.loop-place.invariant.free in
    let here : c.loop-place.place ≡ length c.args.bytes.now = omega (arith, c.loop-place-test.false, bounded known (ordered blocks)) in
    same_uses blocks (subst (λ (n : ℕ). Holds c.args.bytes.now n c.args.end []) here known)
