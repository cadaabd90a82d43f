use Rattle.lc_page.proofs.StateLemmas.{images_settled}
use Rattle.lc_page.proofs.laws.settled_from_images.Goals as goal

pub returns : goal.returns
returns c = images_settled
