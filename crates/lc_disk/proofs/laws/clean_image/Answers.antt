use Rattle.lc_disk.proofs.Images.{image_clean}
use Rattle.lc_disk.proofs.laws.clean_image.Goals as goal

pub returns : goal.returns
returns c = image_clean
