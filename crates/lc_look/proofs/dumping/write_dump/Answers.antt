use Rattle.std.proofs.Common.{List, ℕ, take, drop, subst}
use Rattle.std.specs.Io.KnownBytes.{Appends}
use Rattle.std.proofs.KnownBytes.{Appends-trans}
use Rattle.std.proofs.lemmas.Result.{on_ok_weaker}
use Rattle.lc_look.specs.Dumps.{dump_text, slot_text, slots_text}
use Rattle.lc_look.proofs.dumping.write_dump.Goals as goal

pub returns : goal.returns
returns g c =
    let held = g.W.Write.contents c.args.writer.now in
    let one = g.W.Write.contents c.write_page.new.writer in
    let two = g.W.Write.contents c.write_slot.new.writer in
    let holds = g.W.Write.contents c.write_slot-2.new.writer in
    let slots : List ℕ = c.args.found.now.slots in
    on_ok_weaker c.write_slot-2.result (λ end.
    Appends-trans held one holds (dump_text c.args.page c.args.found.now.bytes) (slots_text slots) c.in_ok-write_page.ensures
    (Appends-trans one two holds (slot_text 0 (take 272 slots)) (slot_text 1 (drop 272 slots))
    (subst (λ (l : List ℕ). Appends one two (slot_text 0 l)) c.split_at.ensures.front c.in_ok-write_slot.ensures)
    (subst (λ (l : List ℕ). Appends two holds (slot_text 1 l)) c.split_at.ensures.back end))) c.write_slot-2.ensures
