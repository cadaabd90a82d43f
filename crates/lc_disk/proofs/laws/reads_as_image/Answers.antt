use Rattle.lc_disk.proofs.Images.{image_own}
use Rattle.lc_disk.proofs.laws.reads_as_image.Goals as goal

pub returns : goal.returns
returns c = image_own
