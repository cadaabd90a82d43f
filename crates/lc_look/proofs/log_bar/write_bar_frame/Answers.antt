use Rattle.lc_look.specs.Picture.{bar_frame_text}
use Rattle.lc_look.proofs.log_bar.write_bar_frame.Goals as goal

pub returns : goal.returns
unfolding bar_frame_text
returns g c = c.write.ensures.bytes
