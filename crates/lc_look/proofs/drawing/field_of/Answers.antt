use Rattle.std.proofs.Common.{List, ◌+◌, subst, sym}
use Rattle.lc_look.specs.declared.page_cell.PageCell.{PageCell}
use Rattle.lc_look.specs.Draws.{AreEach, IsCellOf}
use Rattle.lc_look.proofs.PicturesRead.{each-more}
use Rattle.lc_look.proofs.drawing.field_of.Goals as goal

pub loop-page-preserved : goal.loop-page-preserved
loop-page-preserved c =
    let Such = IsCellOf c.args.forecast.now.store c.args.segment c.args.area.now in
    subst (λ (l : List PageCell). AreEach Such (c.loop-page.page + 1) l) (sym {A = List PageCell} c.in_ok-push.ensures.items)
    (each-more Such c.loop-page.page c.loop-page.cells.items c.cell_of.result c.loop-page.invariant c.cell_of.ensures)
