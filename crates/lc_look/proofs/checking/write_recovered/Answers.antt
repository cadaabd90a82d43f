use Rattle.std.proofs.Common.{subst, ℕ, arith}
use Rattle.std.specs.Io.KnownBytes.{Appends}
use Rattle.lc_recover.specs.Forecast.{sequence_of}
use Rattle.lc_text.specs.Text.{segment_text}
use Rattle.lc_look.proofs.AreasRecovered.{one_segment}
use Rattle.lc_look.proofs.checking.write_recovered.Goals as goal

pub loop-segment-preserved : goal.loop-segment-preserved
loop-segment-preserved g c =
    let held = g.W.Write.contents c.args.writer.now in
    let mid = g.W.Write.contents c.loop-segment.writer in
    let holds = g.W.Write.contents c.write_segment.new.writer in
    one_segment (sequence_of c.args.forecast.now) c.loop-segment.segment held mid holds (omega arith) c.loop-segment.invariant
    (subst (λ (n : ℕ). Appends mid holds (segment_text c.loop-segment.segment n)) c.sequence.ensures.number c.in_ok-write_segment.ensures)
