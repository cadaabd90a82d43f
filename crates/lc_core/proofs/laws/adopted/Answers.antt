use Rattle.lc_rest.proofs.Testing.{consistent}
use Rattle.lc_rest.proofs.Values.{value-put}
use Rattle.lc_core.proofs.AdoptsUp.{up-fits, up-honest}
use Rattle.lc_core.proofs.laws.adopted.Goals as goal

pub returns-clause-fits : goal.returns-clause-fits
returns-clause-fits g c = λ f up is new. (up-fits _ f up (consistent f is) new, up-honest _ f up new)

pub returns-clause-value : goal.returns-clause-value
returns-clause-value g c = value-put
