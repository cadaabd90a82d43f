use Rattle.lc_look.specs.Picture.{cell_title_text}
use Rattle.lc_look.proofs.page_cell.write_cell_title.Goals as goal

pub returns : goal.returns
unfolding cell_title_text
returns g c = c.write.ensures.bytes
