use Rattle.std.proofs.Common.{◌≡◌, ◌⊎◌, ◌<◌, ◌≤◌, ℕ, List, Some, length, refl, ap, subst, ◌∙◌, arith}
use Rattle.std.specs.Prelude.{slice_get}
use Rattle.std.proofs.lemmas.List.{take_all}
use Rattle.lc_lock.specs.declared.ticket_lock.TicketLock.{TicketLock}
use Rattle.lc_rest.specs.declared.cluster_part.ClusterPart.TheVariants.{Log}
use Rattle.lc_record.proofs.ListLemmas.{left_first as next_is, left_more}
use Rattle.lc_node.specs.LeftBy.{StoodBehind}
use Rattle.lc_segments.specs.SegView.{SegView}
use Rattle.lc_segments.specs.declared.node_fault.NodeFault.TheVariants.{Mismatch, NoMemory}
use Rattle.lc_node.proofs.LeftSegments.{none_behind, one_behind}
use Rattle.lc_log_side.proofs.Refused.{handed_on}
use Rattle.lc_node.proofs.Refused.{of_segment}
use Rattle.lc_node.proofs.leaving_segments.SegmentImages.take.Goals as goal

pub returns-in_err-image-clause-refused : goal.returns-in_err-image-clause-refused
returns-in_err-image-clause-refused g c =
    handed_on c.from_residual-in_err-image.result c.in_err-image.field-0.0 (λ fault. (fault ≡ Mismatch (Log c.args.node)) ⊎ (fault ≡ NoMemory)) c.from_residual-in_err-image.ensures.1
    (of_segment c.args.node _ c.in_err-image.field-0.0 c.in_err-image.ensures.refused)

pub loop-init : goal.loop-init
loop-init g c = record {
  left = omega arith;
  images = omega (arith, c.in_ok-images.ensures.len);
  applied = omega (arith, c.in_ok-applied.ensures.len);
  images_fit = omega (arith, c.in_ok-images.ensures.capacity, c.len.ensures);
  applied_fit = omega (arith, c.in_ok-applied.ensures.capacity, c.len-2.ensures);
  taken = refl;
  behind = none_behind c.args.node c.in_ok-images.images.items c.in_ok-applied.applied.items c.args.tokens.now.items c.in_ok-images.ensures.items c.in_ok-applied.ensures.items;
  settled = c.requires.settled;
}

pub loop-preserved : goal.loop-preserved
loop-preserved g c =
    let inv = c.loop.invariant in
    let n = c.loop.counter in
    let all = c.args.segments.items in
    let its = c.in_ok-image.ensures in
    let same : c.into_inner.result ≡ c.lock-side.result.0 = c.into_inner.ensures ∙ c.side.view_is in
    let some : n < length all = omega (arith, c.loop-test.true, c.len-end.ensures, c.args.segments.ok.0) in
    let next : slice_get all n ≡ Some c.remove-lock.result = next_is all c.loop.segments.items n c.remove-lock.result inv.taken some c.remove-lock.ensures.value in
    record {
      left = omega (arith, c.remove-lock.ensures.len, inv.left);
      images = omega (arith, c.push_reserved.ensures.len, inv.images);
      applied = omega (arith, c.push_reserved-in-loop.ensures.len, inv.applied);
      images_fit = omega (arith, c.push_reserved.ensures.capacity, inv.images_fit);
      applied_fit = omega (arith, c.push_reserved-in-loop.ensures.capacity, inv.applied_fit);
      taken = left_more all c.loop.segments.items c.remove-lock.new.self.items n inv.taken c.remove-lock.ensures.items;
      behind = one_behind c.args.node all n c.remove-lock.result c.into_inner.result next (ap (λ (s : SegView _). s.segment) same ∙ c.lock-side.ensures.fits.0) c.push_reserved.new.self.items c.push_reserved-in-loop.new.self.items inv.behind
          its.image c.push_reserved.ensures.items its.applied c.push_reserved-in-loop.ensures.items its.serves its.tokens;
      settled = its.settled;
    }

pub returns-clause-behind : goal.returns-clause-behind
returns-clause-behind g c =
    let all = c.args.segments.items in
    let reached : length all ≤ c.loop.counter = omega (arith, c.loop-test.false, c.len-end.ensures, c.args.segments.ok.0) in
    subst (λ (l : List (TicketLock (SegView g.row.D.Denot) ℕ)). StoodBehind c.args.node l c.loop.images.items c.loop.applied.items c.args.tokens.now.items c.loop.tokens.items) (take_all c.loop.counter all reached) c.loop.invariant.behind
