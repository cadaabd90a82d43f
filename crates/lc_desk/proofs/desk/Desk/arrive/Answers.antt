use Rattle.std.proofs.Common.{◌≡◌, ◌-◌, ◌<◌, ℕ, [], Some, refl, sym, ap, ◌∙◌, arith}
use Rattle.std.specs.Prelude.{slice_get}
use Rattle.std.specs.Vec.{with_item}
use Rattle.std.proofs.lemmas.Option.{slice_get_read}
use Rattle.lc_record.proofs.ListLemmas.{slice_get-map_some as get-map}
use Rattle.lc_desk.specs.Here.{beside}
use Rattle.lc_desk.specs.declared.here.Here.{Here}
use Rattle.lc_desk.proofs.Arrived.{arrives, runs_came, same_came}
use Rattle.lc_desk.proofs.Shortness.{in_place_moved, short_moved}
use Rattle.lc_desk.proofs.desk.Desk.arrive.Goals as goal

module _ (c : goal.After-arrive-arg-2-1) where
  its : (c.index_mut-slot.result.now.token.segment ≡ c.args.token.segment) × (c.index_mut-slot.result.now.parts.segment ≡ c.args.token.segment) × (c.index_mut-slot.result.now.parts.due ≡ [])
  its =
      let w = c.args.self.now in
      let slot = c.index_mut-slot.result.now in
      let within : c.segment.result - 1 < w.here.slots.len = omega (arith, c.segment.ensures, c.requires.first, c.requires.slot) in
      let at = slice_get_read w.here.slots.items w.here.slots.len (c.segment.result - 1) slot w.here.slots.ok.0 within c.index_mut-slot.ensures.value in
      let place = w.in_place (c.segment.result - 1) (beside slot) (get-map beside w.here.slots.items (c.segment.result - 1) slot at) in
      (omega (arith, place.0, c.segment.ensures, c.requires.first), omega (arith, place.1, c.segment.ensures, c.requires.first), place.2)

pub arrive-requires-clause-none_due : goal.arrive-requires-clause-none_due
arrive-requires-clause-none_due c = (its c).2

pub arrive-requires-clause-same_token : goal.arrive-requires-clause-same_token
arrive-requires-clause-same_token c = sym (its c).0

pub arrive-requires-clause-same_hold_back : goal.arrive-requires-clause-same_hold_back
arrive-requires-clause-same_hold_back c = (its c).1 ∙ sym (its c).0

pub invariant_of-self-clause-runs : goal.invariant_of-self-clause-runs
invariant_of-self-clause-runs c =
    let w = c.args.self.now in
    let slot = c.index_mut-slot.result.now in
    let within : c.segment.result - 1 < w.here.slots.len = omega (arith, c.segment.ensures, c.requires.first, c.requires.slot) in
    let at = slice_get_read w.here.slots.items w.here.slots.len (c.segment.result - 1) slot w.here.slots.ok.0 within c.index_mut-slot.ensures.value in
    runs_came w.here (c.segment.result - 1) slot w.seats.items c.arrive.new.self slot.parts.applied c.args.token c.arrive.result at (c.requires.empty slot (rw c.segment.ensures at at))
    (record {
      behind = c.arrive.ensures.behind;
      done = c.arrive.ensures.done;
      placed_is = c.arrive.ensures.placed;
      err = c.arrive.ensures.err;
    })
    w.runs

pub returns : goal.returns
returns c =
    let w = c.args.self.now in
    let slot = c.index_mut-slot.result.now in
    let within : c.segment.result - 1 < w.here.slots.len = omega (arith, c.segment.ensures, c.requires.first, c.requires.slot) in
    let at = slice_get_read w.here.slots.items w.here.slots.len (c.segment.result - 1) slot w.here.slots.ok.0 within c.index_mut-slot.ensures.value in
    let there : slice_get w.here.slots.items (c.args.token.segment - 1) ≡ Some slot = rw c.segment.ensures at at in
    record {
      arrives = arrives w _ c.args.token c.requires.first slot there (c.requires.empty slot there) c.arrive.new.self c.arrive.result
          (record {
            behind = c.arrive.ensures.behind;
            done = c.arrive.ensures.done;
            placed_is = c.arrive.ensures.placed;
            err = c.arrive.ensures.err;
          })
          (ap (λ (n : ℕ). let here : Here = record w.here { slots = with_item w.here.slots (n - 1) (record slot { token = c.arrive.new.self }) } in here) c.segment.ensures) refl;
    }

pub invariant_of-self-clause-in_place : goal.invariant_of-self-clause-in_place
invariant_of-self-clause-in_place c =
    let w = c.args.self.now in
    let slot = c.index_mut-slot.result.now in
    let within : c.segment.result - 1 < w.here.slots.len = omega (arith, c.segment.ensures, c.requires.first, c.requires.slot) in
    let at = slice_get_read w.here.slots.items w.here.slots.len (c.segment.result - 1) slot w.here.slots.ok.0 within c.index_mut-slot.ensures.value in
    in_place_moved w.here (c.segment.result - 1) slot c.arrive.new.self at (same_came slot.token c.arrive.new.self c.args.token c.arrive.result c.arrive.ensures.placed c.arrive.ensures.err) w.in_place

pub invariant_of-self-clause-short : goal.invariant_of-self-clause-short
invariant_of-self-clause-short c =
    let w = c.args.self.now in
    let slot = c.index_mut-slot.result.now in
    let within : c.segment.result - 1 < w.here.slots.len = omega (arith, c.segment.ensures, c.requires.first, c.requires.slot) in
    let at = slice_get_read w.here.slots.items w.here.slots.len (c.segment.result - 1) slot w.here.slots.ok.0 within c.index_mut-slot.ensures.value in
    short_moved w.here (c.segment.result - 1) slot c.arrive.new.self at w.short
