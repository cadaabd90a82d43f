use Rattle.lc_look.specs.Picture.{bar_trailing_text}
use Rattle.lc_look.proofs.log_bar.write_bar_trailing.Goals as goal

pub returns : goal.returns
unfolding bar_trailing_text
returns g c = c.write.ensures.bytes
