use Rattle.lc_look.specs.Picture.{head_text}
use Rattle.lc_look.proofs.store_picture.write_head.Goals as goal

pub returns : goal.returns
unfolding head_text
returns g c = c.write.ensures.bytes
