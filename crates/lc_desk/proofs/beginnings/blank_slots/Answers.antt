use Rattle.std.proofs.Common.{◌≡◌, ◌+◌, length, ◌∷◌, ◌++◌, [], arith}
use Rattle.lc_record.proofs.ListLemmas.{each_push as each_pushed}
use Rattle.lc_desk.specs.Blank.{IsOfSegment, StandsAt}
use Rattle.lc_desk.proofs.Furnishing.{each_same}
use Rattle.lc_desk.proofs.beginnings.blank_slots.Goals as goal

pub loop-before-preserved : goal.loop-before-preserved
loop-before-preserved c =
    let g = c.args.geometry.now in
    let old = c.loop-before.slots.items in
    let new = c.in_ok-slot.slot in
    let len : length old ≡ c.loop-before.before = omega (arith, c.loop-before.invariant.count, c.loop-before.slots.ok.0) in
    record {
      count = omega (arith, c.in_ok-push.ensures.len, c.loop-before.invariant.count);
      slots = each_same (λ k slot. IsOfSegment g (k + 1) slot) (old ++ new ∷ []) _ c.in_ok-push.ensures.items
          (each_pushed (λ k slot. IsOfSegment g (k + 1) slot) old new c.loop-before.invariant.slots (rw len c.in_ok-slot.ensures.slot));
      stand = each_same (λ k slot. StandsAt g c.args.node (k + 1) slot) (old ++ new ∷ []) _ c.in_ok-push.ensures.items
          (each_pushed (λ k slot. StandsAt g c.args.node (k + 1) slot) old new c.loop-before.invariant.stand (rw len c.in_ok-slot.ensures.stands));
    }
