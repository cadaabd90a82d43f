use Rattle.lc_look.specs.Picture.{fields_begin_text}
use Rattle.lc_look.proofs.store_picture.write_fields_begin.Goals as goal

pub returns : goal.returns
unfolding fields_begin_text
returns g c = c.write.ensures.bytes
