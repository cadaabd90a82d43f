use Rattle.lc_look.specs.Picture.{next_field_text}
use Rattle.lc_look.proofs.segment_field.write_next_field.Goals as goal

pub returns : goal.returns
unfolding next_field_text
returns g c = c.write.ensures.bytes
