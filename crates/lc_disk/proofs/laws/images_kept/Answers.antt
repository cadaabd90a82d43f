use Rattle.lc_disk.proofs.Images.{image_kept}
use Rattle.lc_disk.proofs.laws.images_kept.Goals as goal

pub returns : goal.returns
returns c = image_kept
