use Rattle.std.proofs.Common.{ℕ, ◌-◌}
use Rattle.lc_model.specs.declared.reply.Reply.{Reply}
use Rattle.lc_c.specs.BeginsFree.{BeginsFree, BeginsFrom}
use Rattle.lc_c.specs.Beside.{IsSameBeside}
use Rattle.lc_c.specs.declared.session_state.SessionState.{SessionState}
use Rattle.lc_c.proofs.session.Session.begin_free.Given as goal

abbrev pub invariant-loop-thread : goal.invariant-loop-thread
invariant-loop-thread l =
    ((found : ℕ) (reply : Reply) (new : SessionState) → BeginsFrom (l.last - l.thread) l.node l.writing l.reading l.thread l.self.stage found reply new
    → BeginsFree l.node l.writing l.reading l.fn.self.stage found reply new)
    × IsSameBeside l.fn.self l.self
