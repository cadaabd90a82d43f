use Rattle.lc_look.specs.Picture.{edge_text}
use Rattle.lc_look.proofs.log_bar.write_edge.Goals as goal

pub returns : goal.returns
unfolding edge_text
returns g c = c.write.ensures.bytes
