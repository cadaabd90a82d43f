use Rattle.lc_page.proofs.StateLemmas.{kept_settled}
use Rattle.lc_page.proofs.laws.keeps_settled.Goals as goal

pub returns : goal.returns
returns c = λ page now later dirty soiled. kept_settled now later dirty soiled page
