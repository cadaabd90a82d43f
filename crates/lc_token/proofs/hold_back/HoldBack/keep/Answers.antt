use Rattle.std.proofs.Common.{◌≡◌, sym, subst, false}
use Rattle.lc_token.specs.Backlog.{Backlog, is_known}
use Rattle.lc_token.proofs.BacklogLemmas.{keep_ascends}
use Rattle.lc_token.proofs.hold_back.HoldBack.keep.Goals as goal

pub invariant_of-self : goal.invariant_of-self
invariant_of-self c =
    let unknown = subst (λ (b : Backlog). is_known b c.args.part.seq ≡ false) (sym c.self.view_is) c.requires in
    keep_ascends (record { segment = c.self.inside.segment; applied = c.self.inside.applied; due = c.self.inside.due.parts; kept = c.self.inside.kept }) c.args.part c.put.result c.put.new.self c.self.invariant unknown c.put.ensures.put c.put.ensures.err
