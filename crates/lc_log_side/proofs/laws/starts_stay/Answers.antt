use Rattle.std.proofs.Common.{◌++◌, ap, ◌∙◌, append_assoc}
use Rattle.lc_log_side.proofs.laws.starts_stay.Goals as goal

pub returns : goal.returns
returns c = λ records more count place start. (start.0, start.1 ++ more, ap (λ l. l ++ more) start.2 ∙ append_assoc start.0 start.1 more, start.3, start.4)
