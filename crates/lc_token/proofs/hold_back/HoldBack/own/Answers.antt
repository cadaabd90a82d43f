use Rattle.std.proofs.Common.{◌≡◌, ◌+◌, ap}
use Rattle.lc_token.specs.Backlog.{Backlog, parts_above}
use Rattle.lc_token.proofs.BacklogLemmas.{own_keeps}
use Rattle.lc_token.proofs.hold_back.HoldBack.own.Goals as goal

pub invariant_of-self : goal.invariant_of-self
invariant_of-self c =
    let next : c.args.seq ≡ c.self.inside.applied + 1 = rw (ap (λ (b : Backlog). b.applied) c.self.view_is) c.requires in
    (own_keeps c.self.inside.applied c.args.seq c.self.inside.kept c.take_next.new.self c.take_next.result next c.self.invariant c.take_next.ensures).0

pub returns : goal.returns
returns c =
    let next : c.args.seq ≡ c.self.inside.applied + 1 = rw (ap (λ (b : Backlog). b.applied) c.self.view_is) c.requires in
    let kept = (own_keeps c.self.inside.applied c.args.seq c.self.inside.kept c.take_next.new.self c.take_next.result next c.self.invariant c.take_next.ensures).1 in
    rw kept (ap (λ (b : Backlog). record b { applied = c.args.seq; kept = parts_above c.args.seq b.kept }) c.self.view_is)
