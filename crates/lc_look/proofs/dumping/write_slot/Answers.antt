use Rattle.std.proofs.Common.{◌≡◌, ℕ, ◌++◌, codes, ap, subst, ◌∙◌}
use Rattle.std.specs.Prelude.{decimal}
use Rattle.std.specs.Int.{w64, from_le_bytes}
use Rattle.std.specs.Io.KnownBytes.{Appends}
use Rattle.std.proofs.KnownBytes.{Appends-trans}
use Rattle.std.proofs.lemmas.Result.{on_ok_weaker}
use Rattle.lc_page.specs.Page.{sequence_of}
use Rattle.lc_look.specs.Dumps.{slot_text}
use Rattle.lc_look.proofs.dumping.write_slot.Goals as goal

pub returns : goal.returns
unfolding slot_text
returns g c =
    let held = g.W.Write.contents c.args.writer.now in
    let one = g.W.Write.contents c.write.new.self in
    let two = g.W.Write.contents c.write_hex.new.writer in
    let holds = g.W.Write.contents c.write-2.new.self in
    let number : c.from_le_bytes-number.result ≡ sequence_of c.args.bytes.now = c.from_le_bytes-number.ensures ∙ ap (from_le_bytes w64) c.copy_from_slice.ensures.after in
    on_ok_weaker c.write-2.result (λ end.
    Appends-trans held one holds _ _ c.in_ok-write.ensures.bytes
    (Appends-trans one two holds _ _ c.in_ok-write_hex.ensures
    (subst (λ (n : ℕ). Appends two holds (codes " number " ++ (decimal n ++ codes "\n"))) number end))) c.write-2.ensures.bytes
