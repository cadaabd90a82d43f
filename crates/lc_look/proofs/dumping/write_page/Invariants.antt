use Rattle.std.proofs.Common.{◌+◌, ◌*◌, take, drop}
use Rattle.std.specs.Prelude.{flat_map}
use Rattle.std.specs.Io.KnownBytes.{Appends}
use Rattle.lc_record.specs.Marks.{counting}
use Rattle.lc_look.specs.Dumps.{dump_line}
use Rattle.lc_look.proofs.dumping.write_page.Given as goal

abbrev pub invariant-loop-line : goal.invariant-loop-line
invariant-loop-line g l =
    Appends (g.W.Write.contents l.fn.writer) (g.W.Write.contents l.writer)
    (flat_map (λ line. dump_line (l.page * 256 + line * 16) (take 16 (drop (line * 16) l.bytes))) (counting 0 l.line))
