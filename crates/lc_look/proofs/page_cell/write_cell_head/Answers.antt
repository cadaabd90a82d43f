use Rattle.lc_look.specs.Picture.{cell_head_text}
use Rattle.lc_look.proofs.page_cell.write_cell_head.Goals as goal

pub returns : goal.returns
unfolding cell_head_text
returns g c = c.write.ensures.bytes
