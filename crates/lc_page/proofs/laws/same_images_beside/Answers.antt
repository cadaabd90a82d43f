use Rattle.lc_page.proofs.StateLemmas.{kept_images}
use Rattle.lc_page.proofs.laws.same_images_beside.Goals as goal

pub returns : goal.returns
returns c = kept_images
