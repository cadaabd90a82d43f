use Rattle.std.proofs.Common.{[]}
use Rattle.lc_look.proofs.DumpsShown.{spaced-more}
use Rattle.lc_look.proofs.dumping.write_spaced.Goals as goal

pub loop-byte-preserved : goal.loop-byte-preserved
loop-byte-preserved g c =
    spaced-more [] c.args.bytes.now c.loop-byte.byte-index (g.W.Write.contents c.args.writer.now) (g.W.Write.contents c.loop-byte.writer)
    (g.W.Write.contents c.write_all.new.self) (g.W.Write.contents c.write_hex.new.writer) c.loop-byte-test.true c.loop-byte.invariant c.in_ok-write_all.ensures.bytes c.in_ok-write_hex.ensures
