use Rattle.lc_look.specs.Picture.{lane_text}
use Rattle.lc_look.proofs.log_bar.write_lane.Goals as goal

pub returns : goal.returns
unfolding lane_text
returns g c = c.write.ensures.bytes
