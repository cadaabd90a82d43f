use Rattle.std.proofs.Common.{true≢false, sym, ◌∙◌}
use Rattle.std.specs.Io.KnownBytes.{Appends}
use Rattle.lc_look.specs.Dumps.{DumpsAreas, no_page_text}
use Rattle.lc_look.proofs.AreasRecovered.{ended_with}
use Rattle.lc_look.proofs.dumping.dump_areas.Goals as goal

pub returns-clause-dumps : goal.returns-clause-dumps
returns-clause-dumps g c =
    let held = g.W.Write.contents c.args.writer.now in
    let holds = g.W.Write.contents c.write_no_page.new.writer in
    ended_with c.write_no_page.result c.ended.result 1 c.ended.ensures (Appends held holds (no_page_text c.args.segment c.args.page))
    (λ status. DumpsAreas g.D.Area c.args.geometry.now c.args.areas.now c.args.segment c.args.page held holds status) c.write_no_page.ensures
    (λ shown has. absurd (true≢false (sym (c.has_page.ensures.1 has) ∙ c.if-has_page.false)))
