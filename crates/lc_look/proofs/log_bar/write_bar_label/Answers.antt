use Rattle.lc_look.specs.Picture.{bar_label_text}
use Rattle.lc_look.proofs.log_bar.write_bar_label.Goals as goal

pub returns : goal.returns
unfolding bar_label_text
returns g c = c.write.ensures.bytes
