use Rattle.std.proofs.Common.{◌≡◌, ℕ, ◌+◌, ◌-◌, ◌*◌, List, take, drop, ap, subst, arith}
use Rattle.std.specs.Prelude.{flat_map}
use Rattle.std.specs.Io.KnownBytes.{Appends}
use Rattle.lc_record.specs.Marks.{counting}
use Rattle.lc_text.proofs.Writes.{same_bytes}
use Rattle.lc_look.specs.Dumps.{dump_line, dump_text}
use Rattle.lc_look.proofs.ChecksShown.{next_text}
use Rattle.lc_look.proofs.dumping.write_page.Goals as goal

pub loop-line-preserved : goal.loop-line-preserved
loop-line-preserved g c =
    let held = g.W.Write.contents c.args.writer.now in
    let mid = g.W.Write.contents c.loop-line.writer in
    let holds = g.W.Write.contents c.write_line.new.writer in
    let line : ℕ = c.loop-line.line in
    let its : ℕ → List ℕ = λ k. dump_line (c.args.page * 256 + k * 16) (take 16 (drop (k * 16) c.args.bytes.now)) in
    let long : line * 16 + 16 - line * 16 ≡ 16 = omega arith in
    let own : Appends mid holds (its line) = same_bytes mid holds _ _ (ap (λ (n : ℕ). dump_line (c.args.page * 256 + line * 16) (take n (drop (line * 16) c.args.bytes.now))) long) c.in_ok-write_line.ensures in
    let here : line ≡ 0 + line = omega arith in
    next_text its 0 line held mid holds c.loop-line.invariant (subst (λ (k : ℕ). Appends mid holds (its k)) here own)

pub returns : goal.returns
unfolding dump_text
returns g c =
    let held = g.W.Write.contents c.args.writer.now in
    let mid = g.W.Write.contents c.loop-line.writer in
    let its : ℕ → List ℕ = λ k. dump_line (c.args.page * 256 + k * 16) (take 16 (drop (k * 16) c.args.bytes.now)) in
    let all : c.loop-line.line ≡ 16 = omega (arith, c.loop-line-test.false, c.loop-line.auto.line-end) in
    subst (λ (n : ℕ). Appends held mid (flat_map its (counting 0 n))) all c.loop-line.invariant
