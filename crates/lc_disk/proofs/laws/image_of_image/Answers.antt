use Rattle.lc_disk.proofs.Images.{image_again}
use Rattle.lc_disk.proofs.laws.image_of_image.Goals as goal

pub returns : goal.returns
returns c = image_again
