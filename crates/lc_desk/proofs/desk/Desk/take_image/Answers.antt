use Rattle.std.proofs.Common.{◌≡◌, ◌-◌, ℕ, Global, Vec, length, ap, refl, ◌∙◌, arith}
use Rattle.lc_tx.specs.declared.image.Image.{Image as Picture}
use Rattle.lc_desk.proofs.Away.{in_place_away, runs_away, short_put, slot_at, stands_there}
use Rattle.lc_desk.proofs.desk.Desk.take_image.Goals as goal

pub invariant_of-self-clause-runs : goal.invariant_of-self-clause-runs
invariant_of-self-clause-runs c =
    let w = c.args.self.now in
    let slot = c.index_mut-slot.result.now in
    let at = slot_at w.here c.args.segment slot c.requires.first c.requires.slot c.index_mut-slot.ensures.value in
    runs_away w.here (c.args.segment - 1) slot (record slot { image = c.replace.new.dest }) at refl (c.requires.away slot at) w.seats.items w.runs

pub invariant_of-self-clause-short : goal.invariant_of-self-clause-short
invariant_of-self-clause-short c =
    let w = c.args.self.now in
    let slot = c.index_mut-slot.result.now in
    let at = slot_at w.here c.args.segment slot c.requires.first c.requires.slot c.index_mut-slot.ensures.value in
    let none : length c.replace.new.dest.bytes.items ≡ 0 = ap (λ (p : Picture). length p.bytes.items) c.replace.ensures.after ∙ ap (λ (v : Vec ℕ Global). length v.items) c.new-2.ensures.bytes ∙ ap length c.new.ensures.items in
    short_put w.here (c.args.segment - 1) slot (record slot { image = c.replace.new.dest }) at refl (omega (arith, none)) w.short

pub invariant_of-self-clause-in_place : goal.invariant_of-self-clause-in_place
invariant_of-self-clause-in_place c =
    let w = c.args.self.now in
    let slot = c.index_mut-slot.result.now in
    let at = slot_at w.here c.args.segment slot c.requires.first c.requires.slot c.index_mut-slot.ensures.value in
    let its = stands_there w.here c.args.segment slot c.requires.first at w.in_place in
    in_place_away w.here (c.args.segment - 1) slot (record slot { image = c.replace.new.dest }) at refl refl its.1 w.in_place

pub returns : goal.returns
returns c =
    let w = c.args.self.now in
    let slot = c.index_mut-slot.result.now in
    let at = slot_at w.here c.args.segment slot c.requires.first c.requires.slot c.index_mut-slot.ensures.value in
    record { slot = slot; other = c.replace.new.dest; own = c.replace.ensures.value; has = record { at = at; here = refl; seats = refl } }
