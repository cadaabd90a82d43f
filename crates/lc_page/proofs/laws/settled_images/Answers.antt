use Rattle.lc_page.proofs.StateLemmas.{settled_images}
use Rattle.lc_page.proofs.laws.settled_images.Goals as goal

pub returns : goal.returns
returns c = settled_images
