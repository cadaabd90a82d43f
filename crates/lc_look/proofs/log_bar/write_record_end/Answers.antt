use Rattle.lc_look.specs.Picture.{record_end_text}
use Rattle.lc_look.proofs.log_bar.write_record_end.Goals as goal

pub returns : goal.returns
unfolding record_end_text
returns g c = c.write.ensures.bytes
