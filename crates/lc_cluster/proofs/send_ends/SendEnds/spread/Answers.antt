use Rattle.std.proofs.Common.{◌-◌, ◌^◌, min, ap, subst, ◌∙◌}
use Rattle.lc_cluster.specs.Copies.{AreAllNext, AreNext}
use Rattle.lc_segments.specs.Each.{Each}
use Rattle.lc_log_side.specs.Published.{published}
use Rattle.lc_cluster.specs.Spread.{missing_in}
use Rattle.lc_cluster.proofs.SentToAll.{most_sent}
use Rattle.lc_cluster.proofs.send_ends.SendEnds.spread.Goals as goal

pub returns-clause-prefix : goal.returns-clause-prefix
returns-clause-prefix g c = λ before. let all = published c.args.log.now in
    c.send_copies-sent.ensures.prefix all (subst (λ l. Each (λ peer lacks. AreNext all peer lacks.items) l c.in-Ok.copies.items) c.as_slice.ensures.value c.in-Ok.ensures.next) before

pub returns-clause-left : goal.returns-clause-left
returns-clause-left g c = let all = published c.args.log.now in c.missing-left.ensures ∙ ap (λ l. min (2 ^ 64 - 1) (missing_in all l)) c.as_slice-2.ensures.value

pub returns-clause-most : goal.returns-clause-most
returns-clause-most g c = λ before kept. let all = published c.args.log.now in
    most_sent c.args.log.now.gone all c.args.self.now.ends.items c.send_copies-sent.new.peers.items c.in-Ok.copies.items c.send_copies-sent.ensures.all
    (subst (λ l. Each (λ peer lacks. AreAllNext c.args.log.now.gone all peer lacks.items) l c.in-Ok.copies.items) c.as_slice.ensures.value c.in-Ok.ensures.most) before kept
