use Rattle.std.proofs.Common.{◌≡◌, ◌+◌, ◌∷◌, ◌∙◌, ap, sym, subst, false}
use Rattle.lc_token.specs.Backlog.{Backlog, advanced, due_behind, is_known}
use Rattle.lc_token.proofs.BacklogLemmas.{applied_is, apply_ascends}
use Rattle.lc_token.proofs.hold_back.HoldBack.apply.Goals as goal

pub invariant_of-self-2 : goal.invariant_of-self-2
invariant_of-self-2 c =
    let old : Backlog = record { segment = c.self.inside.segment; applied = c.self.inside.applied; due = c.self.inside.due.parts; kept = c.self.inside.kept } in
    let next : c.args.part.seq ≡ old.applied + 1 = subst (λ (b : Backlog). c.args.part.seq ≡ b.applied + 1) (sym c.self.view_is) c.requires.next in
    let unknown : is_known old c.args.part.seq ≡ false = subst (λ (b : Backlog). is_known b c.args.part.seq ≡ false) (sym c.self.view_is) c.requires.unknown in
    rw (c.move_next-self-inside.ensures.last, c.move_next-self-inside.ensures.kept) (apply_ascends old c.args.part c.self.invariant next unknown)

pub returns-clause-advanced : goal.returns-clause-advanced
returns-clause-advanced c =
    let old : Backlog = record { segment = c.self.inside.segment; applied = c.self.inside.applied; due = c.self.inside.due.parts; kept = c.self.inside.kept } in
    let next : c.args.part.seq ≡ old.applied + 1 = subst (λ (b : Backlog). c.args.part.seq ≡ b.applied + 1) (sym c.self.view_is) c.requires.next in
    let unknown : is_known old c.args.part.seq ≡ false = subst (λ (b : Backlog). is_known b c.args.part.seq ≡ false) (sym c.self.view_is) c.requires.unknown in
    let due = c.in_ok-reserve.ensures.parts in
    rw (c.move_next-self-inside.ensures.last, c.move_next-self-inside.ensures.kept, c.move_next-self-inside.ensures.due, ap (λ q. q.parts) c.push_reserved.ensures, due)
    (applied_is old c.args.part c.self.invariant next unknown ∙ ap (λ (b : Backlog). advanced b (due_behind b.applied (c.args.part ∷ b.kept))) c.self.view_is)
