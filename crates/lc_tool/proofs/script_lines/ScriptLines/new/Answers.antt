use Rattle.std.proofs.Common.{ap, ◌∙◌}
use Rattle.lc_tool.specs.declared.source.Source.{Source}
use Rattle.lc_tool.proofs.Comings.{first_left}
use Rattle.lc_tool.proofs.script_lines.ScriptLines.new.Goals as goal

pub returns-in-Ok : goal.returns-in-Ok
returns-in-Ok g c =
    let left = λ (source : Source g.row.R.Denot). g.R.Read.remaining source.reader.now in
    record {
      left =
          first_left left c.in-Ok.source c.in-Ok.ensures.capacity c.in-Ok.ensures.empty ∙ ap left c.in-Ok.ensures.inner ∙ ap (λ reader. g.R.Read.remaining reader.now) c.new.ensures.reader;
    }
