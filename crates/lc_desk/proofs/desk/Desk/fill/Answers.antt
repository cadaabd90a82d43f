use Rattle.std.proofs.Common.{◌+◌, sym, ◌∙◌, ap, arith}
use Rattle.std.specs.Prelude.{slice_get}
use Rattle.std.specs.Vec.{with_items}
use Rattle.lc_desk.specs.Blank.{IsOfSegment}
use Rattle.lc_desk.specs.Fresh.{IsFreshSlot}
use Rattle.lc_desk.specs.declared.here.Here.{Here}
use Rattle.lc_desk.proofs.Furnishing.{all_back, each_same, in_place_of, runs_free, short_of}
use Rattle.lc_desk.proofs.desk.Desk.fill.Goals as goal

pub invariant_of-self : goal.invariant_of-self
invariant_of-self g c =
    let geometry = c.args.recovered.now.geometry in
    let old = c.args.self.now.here in
    let here : Here = record { slots = with_items old.slots c.fill_slots.new.slots; spare = old.spare } in
    let are = all_back old.slots.len c.fill_slots.new.slots _ (omega (arith, c.fill_slots.auto.slots, c.as_mut_slice.ensures.len)) in
    let slots = each_same (λ k slot. IsOfSegment geometry (k + 1) slot) c.fill_slots.new.slots here.slots.items are c.fill_slots.ensures.slots in
    record {
      runs = runs_free here geometry.threads c.args.self.now.seats.items c.requires.desk.seats;
      few = c.args.self.now.few;
      few_slots = c.args.self.now.few_slots;
      short = short_of geometry here slots c.requires.desk.spare;
      in_place = in_place_of geometry here slots;
    }

pub returns-clause-fresh : goal.returns-clause-fresh
returns-clause-fresh g c = λ node stand.
    let old = c.args.self.now.here in
    let are = all_back old.slots.len c.fill_slots.new.slots _ (omega (arith, c.fill_slots.auto.slots, c.as_mut_slice.ensures.len)) in
    each_same (λ k slot. IsFreshSlot c.args.recovered.now node (k + 1) slot) c.fill_slots.new.slots _ are
    (c.fill_slots.ensures.fresh node (λ k slot got. stand k slot (ap (λ l. slice_get l k) (sym c.as_mut_slice.ensures.value) ∙ got)))
