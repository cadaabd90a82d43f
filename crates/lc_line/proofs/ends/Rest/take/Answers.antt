use Rattle.std.proofs.Common.{◌≡◌, ◌∷◌, [], sym, subst}
use Rattle.std.specs.Prelude.{MatchOption}
use Rattle.crossbeam_channel.specs.Claims.{view}
use Rattle.lc_line.proofs.Keeps.{takes_first, totals}
use Rattle.lc_line.proofs.Left.{left, taken_first}
use Rattle.lc_line.proofs.ends.Rest.take.Goals as goal

pub try_recv_as-requires-clause-rule : goal.try_recv_as-requires-clause-rule
try_recv_as-requires-clause-rule g c = (takes_first _ _ c.args.self.now.sends c.args.self.now.takes, totals _ _ c.args.self.now.sends c.args.self.now.takes)

pub returns : goal.returns
returns g c = let v = view c.args.self.now.pass in let w = view c.try_recv_as.new.pass in
    subst (λ r. MatchOption r ((left v ≡ []) × (left w ≡ [])) (λ x. left v ≡ x ∷ left w)) (sym c.ok.ensures.value) (taken_first v w c.try_recv_as.result c.try_recv_as.ensures.rule)
