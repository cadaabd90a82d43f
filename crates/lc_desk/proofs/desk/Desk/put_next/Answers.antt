use Rattle.std.proofs.Common.{◌-◌, ap, refl, subst, ◌∙◌}
use Rattle.std.specs.Vec.{with_item}
use Rattle.lc_token.specs.Backlog.{Backlog, PassesOn}
use Rattle.lc_desk.proofs.Away.{in_place_away, runs_away, short_put, slot_at, stands_there}
use Rattle.lc_desk.proofs.desk.Desk.put_next.Goals as goal

pub pass_on-requires : goal.pass_on-requires
pass_on-requires c =
    let w = c.args.self.now in
    let slot = c.index_mut-slot.result.now in
    let at = slot_at w.here c.args.segment slot c.requires.first c.requires.slot c.index_mut-slot.ensures.value in
    (c.requires.next slot at).1

pub invariant_of-self-clause-runs : goal.invariant_of-self-clause-runs
invariant_of-self-clause-runs c =
    let w = c.args.self.now in
    let slot = c.index_mut-slot.result.now in
    let at = slot_at w.here c.args.segment slot c.requires.first c.requires.slot c.index_mut-slot.ensures.value in
    runs_away w.here (c.args.segment - 1) slot (record slot { image = c.args.image; parts = c.pass_on.new.self }) at refl (c.requires.next slot at).0 w.seats.items w.runs

pub invariant_of-self-clause-short : goal.invariant_of-self-clause-short
invariant_of-self-clause-short c =
    let w = c.args.self.now in
    let slot = c.index_mut-slot.result.now in
    let at = slot_at w.here c.args.segment slot c.requires.first c.requires.slot c.index_mut-slot.ensures.value in
    short_put w.here (c.args.segment - 1) slot (record slot { image = c.args.image; parts = c.pass_on.new.self }) at refl c.requires.short w.short

pub invariant_of-self-clause-in_place : goal.invariant_of-self-clause-in_place
invariant_of-self-clause-in_place c =
    let w = c.args.self.now in
    let slot = c.index_mut-slot.result.now in
    let at = slot_at w.here c.args.segment slot c.requires.first c.requires.slot c.index_mut-slot.ensures.value in
    let its = stands_there w.here c.args.segment slot c.requires.first at w.in_place in
    in_place_away w.here (c.args.segment - 1) slot (record slot { image = c.args.image; parts = c.pass_on.new.self }) at refl
    (ap (λ (b : Backlog). b.segment) c.pass_on.ensures.counted) (ap (λ (b : Backlog). b.due) c.pass_on.ensures.counted ∙ its.1) w.in_place

pub returns : goal.returns
returns c =
    let w = c.args.self.now in
    let slot = c.index_mut-slot.result.now in
    let at = slot_at w.here c.args.segment slot c.requires.first c.requires.slot c.index_mut-slot.ensures.value in
    let counted_is = c.pass_on.ensures.counted in
    record {
      slot = slot;
      passes = subst (PassesOn c.args.seq slot.parts c.pass_on.result) counted_is c.pass_on.ensures.passes;
      has = record {
        at = at;
        here = ap (λ (b : Backlog). record w.here { slots = with_item w.here.slots (c.args.segment - 1) (record slot { image = c.args.image; parts = b }) }) counted_is;
        seats = refl;
      };
    }
