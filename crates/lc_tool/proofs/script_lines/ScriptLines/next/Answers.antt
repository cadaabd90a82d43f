use Rattle.std.proofs.Common.{◌==◌, List, Option, None, ap, ℕ}
use Rattle.std.specs.Prelude.{if◌then◌else◌}
use Rattle.std.specs.Io.Buffered.{reader_buffer, reader_capacity}
use Rattle.std.specs.Io.KnownBytes.{prepend_known}
use Rattle.lc_tool.specs.Coming.{lines_left}
use Rattle.lc_tool.specs.declared.source.Source.{Source}
use Rattle.lc_tool.proofs.Comings.{long_line}
use Rattle.lc_tool.proofs.script_lines.ScriptLines.next.Goals as goal

pub returns-in-Err-clause-long : goal.returns-in-Err-clause-long
returns-in-Err-clause-long g c = λ many.
    let source = c.args.self.now.source in
    let left = λ (o : Option (List ℕ)). if reader_capacity source == 0 then None else prepend_known (reader_buffer source) o in
    let same = ap left (ap (λ (s : Source g.row.R.Denot). g.R.Read.remaining s.reader.now) c.get_mut.ensures.value) in
    long_line _ (lines_left g.R.Read.remaining c.args.self.now) _ c.new-line.result.items c.read_until.new.buf.items 1048576 same c.new-line.ensures.items c.in-Err.ensures.none_lost c.in-Err.ensures.stops many
