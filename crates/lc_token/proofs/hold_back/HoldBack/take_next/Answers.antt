use Rattle.std.proofs.Common.{rules, ◌≡◌, None, sym, subst}
use Rattle.std.specs.Prelude.{Option}
use Rattle.lc_record.specs.declared.part.Part.{Part}
use Rattle.lc_token.specs.Backlog.{Backlog, HandsOutKept}
use Rattle.lc_token.proofs.BacklogLemmas.{none_taken}
use Rattle.lc_token.proofs.hold_back.HoldBack.take_next.Goals as goal

pub returns-in_err-part-clause-handed : goal.returns-in_err-part-clause-handed
returns-in_err-part-clause-handed c =
    let old : Backlog = record { segment = c.self.inside.segment; applied = c.self.inside.applied; due = c.self.inside.due.parts; kept = c.self.inside.kept } in
    let same : old ≡ c.args.self.now = c.self.view_is in
    let taken : c.take_next.result ≡ None = search rules in
    let none : c.from_residual.result ≡ None = search rules in
    let takes = none_taken old c.take_next.result c.take_next.new.self c.self.invariant taken c.take_next.ensures in
    subst (λ (o : Option Part). HandsOutKept c.args.self.now o (record old { kept = c.take_next.new.self })) (sym none)
    (subst (λ (b : Backlog). HandsOutKept b None (record old { kept = c.take_next.new.self })) same takes)
