use Rattle.lc_look.specs.Picture.{field_head_text}
use Rattle.lc_look.proofs.segment_field.write_field_head.Goals as goal

pub returns : goal.returns
unfolding field_head_text
returns g c = c.write.ensures.bytes
