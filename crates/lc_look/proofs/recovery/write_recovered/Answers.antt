use Rattle.std.proofs.Common.{◌≡◌, ℕ, ◌-◌, ap, subst, arith}
use Rattle.std.proofs.lemmas.Result.{on_ok_weaker}
use Rattle.std.specs.Io.KnownBytes.{Appends}
use Rattle.std.proofs.KnownBytes.{Appends-trans}
use Rattle.lc_record.specs.declared.geometry.Geometry.{Geometry}
use Rattle.lc_recover.specs.Recovered.{sequence_of}
use Rattle.lc_text.specs.Text.{segment_text}
use Rattle.lc_look.proofs.AreasRecovered.{first_segments, one_segment}
use Rattle.lc_look.proofs.recovery.write_recovered.Goals as goal

pub loop-segment-preserved : goal.loop-segment-preserved
loop-segment-preserved g c =
    let held = g.W.Write.contents c.args.writer.now in
    let mid = g.W.Write.contents c.loop-segment.writer in
    let holds = g.W.Write.contents c.write_segment.new.writer in
    one_segment (sequence_of c.args.store.now) c.loop-segment.segment held mid holds (omega arith) c.loop-segment.invariant
    (subst (λ (n : ℕ). Appends mid holds (segment_text c.loop-segment.segment n)) c.sequence.ensures.number c.in_ok-write_segment.ensures)

pub returns : goal.returns
returns g c =
    let held = g.W.Write.contents c.args.writer.now in
    let mid = g.W.Write.contents c.loop-segment.writer in
    let holds = g.W.Write.contents c.write_reply.new.writer in
    let same = ap (λ (h : Geometry). h.segments) c.geometry-segment-end.ensures in
    let past = c.loop-segment-test.false in
    let within = c.loop-segment.auto.segment-end (omega arith) in
    let all : c.loop-segment.segment - 1 ≡ c.args.store.now.geometry.segments = omega (arith, same, past, within) in
    let front : Appends held mid (first_segments (sequence_of c.args.store.now) c.args.store.now.geometry.segments) =
    subst (λ (n : ℕ). Appends held mid (first_segments (sequence_of c.args.store.now) n)) all c.loop-segment.invariant in
    on_ok_weaker c.write_reply.result (λ end. Appends-trans held mid holds _ _ front end) c.write_reply.ensures
