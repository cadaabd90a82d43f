use Rattle.lc_changes.proofs.PutBack.{puts_give_images}
use Rattle.lc_changes.proofs.laws.puts_give_images.Goals as goal

pub returns : goal.returns
returns c = puts_give_images
