use Rattle.lc_rest.proofs.Testing.{consistent}
use Rattle.lc_rest.proofs.Values.{disks-found, sound-found, value-put}
use Rattle.lc_rest.proofs.laws.stands_for.Goals as goal

pub returns-clause-consistent : goal.returns-clause-consistent
returns-clause-consistent c = consistent

pub returns-clause-sound : goal.returns-clause-sound
returns-clause-sound c = λ f is. sound-found f (consistent f is)

pub returns-clause-fits : goal.returns-clause-fits
returns-clause-fits c = λ f is. disks-found f (consistent f is)

pub returns-clause-value : goal.returns-clause-value
returns-clause-value c = value-put
