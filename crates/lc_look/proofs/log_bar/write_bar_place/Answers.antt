use Rattle.lc_look.specs.Picture.{bar_place_text}
use Rattle.lc_look.proofs.log_bar.write_bar_place.Goals as goal

pub returns : goal.returns
unfolding bar_place_text
returns g c = c.write.ensures.bytes
