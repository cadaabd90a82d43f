use Rattle.lc_desk.proofs.Furnishing.{in_place_of}
use Rattle.lc_desk.proofs.desk.Desk.blank.Goals as goal

pub new-requires-3-clause-in_place : goal.new-requires-3-clause-in_place
new-requires-3-clause-in_place c = in_place_of c.args.geometry.now (record { slots = c.in_ok-blank_slots.field-0; spare = c.new-2.result }) c.in_ok-blank_slots.ensures.slots
