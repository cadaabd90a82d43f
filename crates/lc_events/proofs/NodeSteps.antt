-- A step of one node, and of the store that it is of.
use Rattle.std.proofs.Common.{Bool, ◌≡◌, ℕ, ◌<◌, true, false, ◌++◌, [], ◌∷◌, List, Option, Some, None, get_or, refl, sym, ap, subst, ◌∙◌, arith}
use Rattle.std.specs.Prelude.{Result, Ok, IfOk, OnErr, option_map, slice_get, slice_set, vec_len}
use Rattle.std.specs.declared.alloc.AllocError.{AllocError}
use Rattle.std.proofs.lemmas.Result.{IfOk-weaker}
use Rattle.std.proofs.lemmas.Option.{same_Some as same_some}
use Rattle.lc_disk.specs.declared.area.Area.{Ghosts}
use Rattle.lc_record.specs.declared.geometry.Geometry.{Geometry}
use Rattle.lc_model.specs.Refusals.{Named, are_known, by_thread, common_refusal, is_known, named}
use Rattle.lc_model.specs.State.{Setting, State}
use Rattle.lc_model.specs.declared.event.Event.{Event}
use Rattle.lc_model.specs.declared.event.Event.TheVariants.{Begin, SetRange, Write, Read, Abort, Reserve, Close, FlushStep, Leave, Arrive, Deliver, Trim, PageStep, ResetStep, Stop, RecoverStep}
use Rattle.lc_model.specs.declared.refusal.Refusal.TheVariants.{DeviceFault, Unknown}
use Rattle.lc_model.specs.declared.reply.Reply.{Reply}
use Rattle.lc_model.specs.declared.reply.Reply.TheVariants.{Refused}
use Rattle.lc_model.proofs.Rows.{known, seat_known}
use Rattle.lc_events.specs.CallReplies.{calls_log}
use Rattle.lc_events.specs.FaultReplies.{CountsFaults}
use Rattle.lc_journal.specs.FaultReplies.{TellsFault, is_unknown}
use Rattle.lc_events.specs.Faults.{CallsLog, areas_in, log_failures, log_kinds, logs_of}
use Rattle.lc_desk.specs.FollowsDesk.{FollowsOpen, StillFits}
use Rattle.lc_desk.specs.Here.{the_images}
use Rattle.lc_journal.specs.Log.{area_of, is_failed, is_sealed}
use Rattle.lc_desk.specs.MayReply.{done_or, is_turn}
use Rattle.lc_events.specs.MayReply.{may_answer, may_reserve}
use Rattle.lc_events.specs.NodeState.{FollowsNode, FollowsReserve, HasSameRoom, StillFitsNode, WantsPlace, moved_by}
use Rattle.lc_events.specs.NodeSteps.{IsOf, StepsNode, WantsOf, is_own}
use Rattle.lc_events.specs.Nodes.{AreWhole}
use Rattle.lc_settled.specs.Numbers.{Numbers}
use Rattle.lc_desk.specs.Prepares.{GetsPlace}
use Rattle.lc_journal.specs.Logging.{end_of_records}
use Rattle.lc_events.specs.Refuses.{ActsRunning}
use Rattle.lc_events.specs.Running.{FitsAll, FitsRunning, Onward}
use Rattle.lc_settled.specs.Settled.{open_answer}
use Rattle.lc_events.specs.Stepping.{Wants}
use Rattle.lc_settled.specs.Turns.{Turns}
use Rattle.lc_desk.specs.declared.desk.Desk.{Desk}
use Rattle.lc_journal.specs.declared.log.Log.{Log}
use Rattle.lc_events.specs.declared.node_state.NodeState.{NodeState}
use Rattle.lc_events.specs.declared.running.Running.{Running}
use Rattle.lc_record.proofs.ListLemmas.{OnErr_from as on_err}
use Rattle.lc_events.proofs.AtOnce.{stands}
use Rattle.lc_events.proofs.CallsTold.{log_of}
use Rattle.lc_events.proofs.Faults.{flush_counts, logs_stay, one_called, same_kinds}
use Rattle.lc_journal.proofs.Faults.{own_tells}
use Rattle.lc_events.proofs.Going.{by_desk, settled_by}
use Rattle.lc_journal.proofs.Logged.{err_then}
use Rattle.lc_events.proofs.Onward.{desk_still, stays_onward, still_onward, whole_set}
use Rattle.lc_events.proofs.Sealing.{sealed_is}
use Rattle.lc_events.proofs.Shortness.{same_count}

-- the node that acts is the one that does it
module _ (g : Geometry) (n threads : ℕ) (all : threads ≡ g.threads) where
  seated : (node thread : ℕ) (segments : List ℕ) → are_known g (by_thread node thread segments) ≡ true → Some n ≡ Some node → (node ≡ n) × (thread < threads)
  seated node thread segments is acts = (sym (same_some n node acts), subst (λ (k : ℕ). thread < k) (sym all) (seat_known g node thread segments is).1)

  pub of_node : (event : Event) → is_own event ≡ true → is_known g event ≡ true → Some n ≡ option_map (λ its. its.node) (named event) → IsOf n threads event
  of_node (Begin node thread segments reading) own is acts = seated node thread (segments ++ reading) is acts
  of_node (SetRange node thread segment offset len) own is acts = seated node thread (segment ∷ []) is acts
  of_node (Write node thread segment offset bytes) own is acts = seated node thread (segment ∷ []) is acts
  of_node (Read node thread segment offset len) own is acts = seated node thread (segment ∷ []) is acts
  of_node (Abort node thread) own is acts = seated node thread [] is acts
  of_node (Reserve node thread) own is acts = seated node thread [] is acts
  of_node (Close node thread) own is acts = seated node thread [] is acts
  of_node (FlushStep node) own is acts = sym (same_some n node acts)
  of_node (Leave node segment) own is acts = absurd cc
  of_node (Arrive node segment) own is acts = absurd cc
  of_node (Deliver sender number segment to) own is acts = absurd cc
  of_node (Trim node) own is acts = absurd cc
  of_node (PageStep node segment page) own is acts = absurd cc
  of_node (ResetStep node) own is acts = sym (same_some n node acts)
  of_node (Stop choices) own is acts = absurd cc
  of_node RecoverStep own is acts = absurd cc

-- it moves no token
pub moves_none : (n threads : ℕ) (event : Event) (reply : Reply) → IsOf n threads event → moved_by event reply ≡ 0
moves_none n threads (Begin node thread segments reading) reply of = refl
moves_none n threads (SetRange node thread segment offset len) reply of = refl
moves_none n threads (Write node thread segment offset bytes) reply of = refl
moves_none n threads (Read node thread segment offset len) reply of = refl
moves_none n threads (Abort node thread) reply of = refl
moves_none n threads (Reserve node thread) reply of = refl
moves_none n threads (Close node thread) reply of = refl
moves_none n threads (FlushStep node) reply of = refl
moves_none n threads (Leave node segment) reply of = absurd of
moves_none n threads (Arrive node segment) reply of = absurd of
moves_none n threads (Deliver sender number segment to) reply of = absurd of
moves_none n threads (Trim node) reply of = absurd of
moves_none n threads (PageStep node segment page) reply of = absurd of
moves_none n threads (ResetStep node) reply of = refl
moves_none n threads (Stop choices) reply of = absurd of
moves_none n threads RecoverStep reply of = absurd of

module _ {D : Type 0} (a : Ghosts D) where
  -- a log that stays, under such a reply
  pub plain_tells : (may : Reply → Bool) → may (Refused DeviceFault) ≡ false → may (Refused Unknown) ≡ false → (calls : Bool) → calls ≡ false → (reply : Reply) (old new : Log D a) → may reply ≡ true → new ≡ old
      → TellsFault a calls reply old new
  plain_tells may fault unknown calls is reply old new its same = own_tells a may fault unknown calls is reply old new its (ap (area_of a) same)

  -- an event of one of its threads
  pub desk_steps : (n node : ℕ) (event : Event) (own : ℕ → Event) (old : NodeState D a) (result : Result Reply AllocError) (new : Desk) → event ≡ own node → node ≡ n
      → IfOk result (λ reply. (k : ℕ) → FollowsOpen k old.desk (own k) reply new) → the_images.IsSameBeside old.desk.here new.here → vec_len new.seats ≡ vec_len old.desk.seats
      → OnErr result (WantsOf a n (own n) old) → OnErr result (StillFits old.desk new) → IfOk result (λ reply. may_answer (own n) reply ≡ true)
      → may_answer (own n) (Refused DeviceFault) ≡ false → may_answer (own n) (Refused Unknown) ≡ false
      → (own n ≡ RecoverStep → ⊥) → ((m : Setting) (s : State) (x : Numbers) → open_answer m s x (own n) ≡ None)
      → ((m : Setting) (s : State) (x : Numbers) (reply : Reply) → Turns m s x (own n) reply x) → ((reply : Reply) → calls_log (own n) reply ≡ false)
      → StepsNode a n event old result (record { desk = new; journal = old.journal; known = old.known })
  desk_steps n node event own old result new is same follows beside seats memory err names fault unknown other none turns free =
      subst (λ (e : Event). StepsNode a n e old result (record { desk = new; journal = old.journal; known = old.known })) (sym (is ∙ ap own same)) (record {
        follows = IfOk-weaker result _ _ (λ reply goes m s x sound common fits sealed.
            let step = goes n m s (known m.geometry s (own n) common) sound fits.desk in
            by_desk a m n (own n) s x reply step.0 step.1 (settled_by m s x (own n) reply other (λ answer told. (let no : None ≡ Some answer = sym (none m s x) ∙ told in absurd cc))) (turns m s x reply) old fits new step.2
            beside step.3) follows;
        memory = memory;
        err = err_then result err (λ still m k s x. desk_still a m k s x old new still beside);
        room = record { seats = seats; slots = same_count old.desk.here new.here beside };
        device = IfOk-weaker result _ _ (λ reply its. plain_tells (may_answer (own n)) fault unknown (calls_log (own n) reply) (free reply) reply old.journal.log old.journal.log its refl) names;
        no_fault = err_then result err (λ still. refl);
        names = names;
      })

  -- a reservation that is closed
  pub closed_steps : (n thread : ℕ) (old : NodeState D a) (reply : Reply) (new : NodeState D a) → FollowsNode a n (Close n thread) old reply new → HasSameRoom a old new → done_or is_turn reply ≡ true
      → new.journal.log ≡ old.journal.log → StepsNode a n (Close n thread) old (Ok reply) new
  closed_steps n thread old reply new follows room names log = record {
    follows = λ m s x sound common fits sealed. follows m s x sound common fits;
    memory = tt;
    err = tt;
    room = room;
    device = plain_tells (done_or is_turn) refl refl false refl reply old.journal.log new.journal.log names log;
    no_fault = tt;
    names = names;
  }

  -- a step of its log
  pub device_steps : (n : ℕ) (event : Event) (old : NodeState D a) (reply : Reply) (new : NodeState D a) → FollowsNode a n event old reply new → HasSameRoom a old new
      → TellsFault a (calls_log event reply) reply old.journal.log new.journal.log → may_answer event reply ≡ true → StepsNode a n event old (Ok reply) new
  device_steps n event old reply new follows room device names = record {
    follows = λ m s x sound common fits sealed. follows m s x sound common fits;
    memory = tt;
    err = tt;
    room = room;
    device = device;
    no_fault = tt;
    names = names;
  }

  -- a transaction that gets its place
  pub placed_steps : (n thread : ℕ) (old : NodeState D a) (result : Result Reply AllocError) (new : NodeState D a) → IfOk result (λ reply. FollowsReserve a n thread (is_sealed a old.journal.log) old reply new)
      → OnErr result (WantsPlace a n thread (is_sealed a old.journal.log) old) → OnErr result (StillFitsNode a old new) → HasSameRoom a old new → IfOk result (λ reply. may_reserve reply ≡ true)
      → new.journal.log ≡ old.journal.log → StepsNode a n (Reserve n thread) old result new
  placed_steps n thread old result new follows memory err room names log = record {
    follows = follows;
    memory = memory;
    err = err;
    room = room;
    device = IfOk-weaker result _ _ (λ reply its. plain_tells may_reserve refl refl false refl reply old.journal.log new.journal.log its log) names;
    no_fault = on_err result _ log;
    names = names;
  }

  -- what it wants memory for, the store does
  pub wants_at : (w : Running D a) (n threads : ℕ) (event : Event) (node : NodeState D a) → slice_get w.nodes.items n ≡ Some node → is_failed a node.journal.log ≡ false → IsOf n threads event
      → WantsOf a n event node → Wants a w event
  wants_at w n threads (SetRange k thread segment offset len) node at up of wants = (node, ap (slice_get w.nodes.items) of.0 ∙ at, wants)
  wants_at w n threads (Read k thread segment offset len) node at up of wants = (node, ap (slice_get w.nodes.items) of.0 ∙ at, wants)
  wants_at w n threads (Reserve k thread) node at up of wants = λ m s x h.
      let fits = h.each n node at in
      (end_of_records a node.journal, subst (λ (i : ℕ). GetsPlace m i thread s x (end_of_records a node.journal)) (sym of.0) (wants m s x h.sound fits (sealed_is a node.journal.log (x.reset n) fits.journal.reset_is up)))
  wants_at w n threads (Begin k thread segments reading) node at up of wants = wants
  wants_at w n threads (Write k thread segment offset bytes) node at up of wants = wants
  wants_at w n threads (Abort k thread) node at up of wants = wants
  wants_at w n threads (Close k thread) node at up of wants = wants
  wants_at w n threads (FlushStep k) node at up of wants = wants
  wants_at w n threads (Leave k segment) node at up of wants = absurd wants
  wants_at w n threads (Arrive k segment) node at up of wants = absurd wants
  wants_at w n threads (Deliver sender number segment to) node at up of wants = absurd wants
  wants_at w n threads (Trim k) node at up of wants = absurd wants
  wants_at w n threads (PageStep k segment page) node at up of wants = absurd wants
  wants_at w n threads (ResetStep k) node at up of wants = wants
  wants_at w n threads (Stop choices) node at up of wants = absurd wants
  wants_at w n threads RecoverStep node at up of wants = absurd wants

  acts_up : (nodes : List (NodeState D a)) (o : Option Named) (n : ℕ) (node : NodeState D a) → Some n ≡ option_map (λ its. its.node) o → slice_get nodes n ≡ Some node → ActsRunning a o nodes
      → is_failed a node.journal.log ≡ false
  acts_up nodes None n node acts at runs = absurd cc
  acts_up nodes (Some its) n node acts at runs = runs node (ap (slice_get nodes) (sym (same_some n its.node acts)) ∙ at)

  -- the node that acts, where nothing is refused at once
  module _ (w : Running D a) (event : Event) (own : is_own event ≡ true) (is : is_known w.geometry event ≡ true) (runs : ActsRunning a (named event) w.nodes.items)
      (n : ℕ) (acts : Some n ≡ option_map (λ its. its.node) (named event)) (node : NodeState D a) (read : node ≡ get_or w.nodes.items n node) where
    there : slice_get w.nodes.items n ≡ Some node
    there = stands a w event is n acts node read

    pub up_there : is_failed a node.journal.log ≡ false
    up_there = acts_up w.nodes.items (named event) n node acts there runs

    pub of_there : IsOf n (vec_len node.desk.seats) event
    of_there = of_node w.geometry n (vec_len node.desk.seats) (w.whole n node there).seats event own is acts

    -- what it does, the store does
    module _ (result : Result Reply AllocError) (new : NodeState D a) (steps : StepsNode a n event node result new) where
      pub whole_there : AreWhole a w.geometry (slice_set w.nodes.items n new)
      whole_there = whole_set a w.geometry w.nodes.items n node new there w.whole steps.room.seats steps.room.slots

      pub follows_there : IfOk result (λ reply. (m : Setting) (s : State) (x : Numbers) → FitsRunning a m w s x → common_refusal m.geometry s event ≡ None
          → Onward a m event s x reply w.geometry (slice_set w.nodes.items n new) w.travelling.items)
      follows_there = IfOk-weaker result _ _ (λ reply goes m s x h common.
          let fits = h.each n node there in
          let none = moves_none n (vec_len node.desk.seats) event reply of_there in
          stays_onward a m n event s x reply w.geometry w.nodes.items w.travelling.items h common node there new
          (goes m s x h.sound common fits (sealed_is a node.journal.log (x.reset n) fits.journal.reset_is up_there)) (λ k e. absurd (omega (arith, e, none)))) steps.follows

      pub memory_there : OnErr result (Wants a w event)
      memory_there = err_then result steps.memory (wants_at w n (vec_len node.desk.seats) event node there up_there of_there)

      pub err_there : OnErr result ((m : Setting) (s : State) (x : Numbers) → FitsRunning a m w s x → FitsAll a m w.geometry (slice_set w.nodes.items n new) w.travelling.items s x)
      err_there = err_then result steps.err (λ still m s x h. still_onward a m n s x w.geometry w.nodes.items w.travelling.items node new there (still m n s x) h)

      pub faults_there : IfOk result (λ reply. CountsFaults reply (log_failures a (logs_of a w.nodes.items)) (log_failures a (logs_of a (slice_set w.nodes.items n new)))
          × (log_kinds a (logs_of a (slice_set w.nodes.items n new)) ≡ log_kinds a (logs_of a w.nodes.items))
          × CallsLog a event (calls_log event reply) (areas_in a w.nodes.items) (areas_in a (slice_set w.nodes.items n new)))
      faults_there = IfOk-weaker result _ _ (λ reply tells. (
        flush_counts a w.nodes.items n node new (calls_log event reply) reply there tells up_there,
        same_kinds a w.nodes.items n node new (calls_log event reply) reply there tells,
        one_called a w.nodes.items n node new (calls_log event reply) reply there tells event (log_of n (vec_len node.desk.seats) event reply of_there),
      )) steps.device

      pub known_there : IfOk result (λ reply. is_unknown reply ≡ false)
      known_there = IfOk-weaker result _ _ (λ reply tells. tells.known) steps.device

      pub logs_there : OnErr result (logs_of a (slice_set w.nodes.items n new) ≡ logs_of a w.nodes.items)
      logs_there = err_then result steps.no_fault (logs_stay a w.nodes.items n node new there)
