-- What a step of one node does, whichever of the node's own events it is.
use Rattle.std.specs.Prelude.{◌≡◌, ◌<◌, ℕ, Bool, true, false, nat_lt, None, Result, IfOk, OnErr}
use Rattle.std.specs.declared.alloc.AllocError.{AllocError}
use Rattle.lc_disk.specs.declared.area.Area.{Ghosts}
use Rattle.lc_model.specs.Refusals.{common_refusal}
use Rattle.lc_model.specs.Sound.{Sound}
use Rattle.lc_model.specs.State.{Setting, State}
use Rattle.lc_model.specs.declared.event.Event.{Event}
use Rattle.lc_model.specs.declared.event.Event.TheVariants.{Begin, SetRange, Write, Read, Abort, Reserve, Close, FlushStep, Leave, Arrive, Deliver, Trim, ResetStep}
use Rattle.lc_model.specs.declared.reply.Reply.{Reply}
use Rattle.lc_events.specs.CallReplies.{calls_log}
use Rattle.lc_journal.specs.FaultReplies.{TellsFault}
use Rattle.lc_desk.specs.Growing.{MayReadSome, MaySetMore}
use Rattle.lc_journal.specs.Log.{is_sealed}
use Rattle.lc_events.specs.MayReply.{may_answer}
use Rattle.lc_events.specs.NodeState.{FitsNode, GoesOn, HasSameRoom, StillFitsNode, WantsPlace}
use Rattle.lc_settled.specs.Numbers.{Numbers}
use Rattle.lc_events.specs.Stepping.{is_plain}
use Rattle.lc_events.specs.declared.node_state.NodeState.{NodeState}

-- one node does it alone, and looks at no other
abbrev pub is_own : Event → Bool
is_own (Leave node segment) = false
is_own (Arrive node segment) = false
is_own (Deliver sender number segment to) = false
is_own (Trim node) = false
is_own event = is_plain event

-- this node does it alone; its thread is one of so many
abbrev pub IsOf : ℕ → ℕ → Event → Type 0
IsOf n threads (Begin node thread segments reading) = (node ≡ n) × (thread < threads)
IsOf n threads (SetRange node thread segment offset len) = (node ≡ n) × (thread < threads)
IsOf n threads (Write node thread segment offset bytes) = (node ≡ n) × (thread < threads)
IsOf n threads (Read node thread segment offset len) = (node ≡ n) × (thread < threads)
IsOf n threads (Abort node thread) = (node ≡ n) × (thread < threads)
IsOf n threads (Reserve node thread) = (node ≡ n) × (thread < threads)
IsOf n threads (Close node thread) = (node ≡ n) × (thread < threads)
IsOf n threads (FlushStep node) = node ≡ n
IsOf n threads (ResetStep node) = node ≡ n
IsOf n threads event = ⊥

module _ {D : Type 0} (a : Ghosts D) where
  -- what it may want memory for
  abbrev pub WantsOf : ℕ → Event → NodeState D a → Type 0
  WantsOf n (SetRange node thread segment offset len) old = MaySetMore thread segment offset len old.desk
  WantsOf n (Read node thread segment offset len) old = MayReadSome thread segment offset len old.desk
  WantsOf n (Reserve node thread) old = WantsPlace a n thread (is_sealed a old.journal.log) old
  WantsOf n event old = ⊥

  -- where its log is sealed just while a reset is under way
  abbrev pub FollowsSealed : ℕ → Event → NodeState D a → Reply → NodeState D a → Type 0
  FollowsSealed n event old reply new =
      (m : Setting) (s : State) (x : Numbers) → Sound m.geometry s → common_refusal m.geometry s event ≡ None → FitsNode a m n old s x
      → is_sealed a old.journal.log ≡ nat_lt 0 (x.reset n) → GoesOn a m n event s x reply new

  -- where memory is wanted nothing has changed
  pub record StepsNode (n : ℕ) (event : Event) (old : NodeState D a) (result : Result Reply AllocError) (new : NodeState D a) : Type 0 where
    pub follows : IfOk result (λ reply. FollowsSealed n event old reply new)
    pub memory : OnErr result (WantsOf n event old)
    pub err : OnErr result (StillFitsNode a old new)
    pub room : HasSameRoom a old new
    -- the device of its log is called and fails just where the reply tells of it
    pub device : IfOk result (λ reply. TellsFault a (calls_log event reply) reply old.journal.log new.journal.log)
    pub no_fault : OnErr result (new.journal.log ≡ old.journal.log)
    pub names : IfOk result (λ reply. may_answer event reply ≡ true)
