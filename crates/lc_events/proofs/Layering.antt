-- Of nodes that run: what an event that wants no memory does, from the nodes up to the store.
use Rattle.std.proofs.Common.{◌≡◌, ℕ, false, true, List, Option, Some, None, get_or, refl, sym, subst, ◌∙◌}
use Rattle.std.specs.Prelude.{Result, Ok, Err, IfErr, option_map, slice_set}
use Rattle.std.specs.declared.alloc.AllocError.{AllocError}
use Rattle.lc_disk.specs.declared.area.Area.{Ghosts}
use Rattle.lc_record.specs.declared.geometry.Geometry.{Geometry}
use Rattle.lc_token.specs.declared.token.Token.{Token}
use Rattle.lc_model.specs.Machine.{Row}
use Rattle.lc_model.specs.Refusals.{Unless, common_refusal, named}
use Rattle.lc_model.specs.State.{Setting, State}
use Rattle.lc_model.specs.declared.event.Event.{Event}
use Rattle.lc_model.specs.declared.event.Event.TheVariants.{Read}
use Rattle.lc_model.specs.declared.refusal.Refusal.{Refusal}
use Rattle.lc_model.specs.declared.reply.Reply.{Reply}
use Rattle.lc_model.specs.declared.reply.Reply.TheVariants.{Refused}
use Rattle.lc_desk.specs.FollowsDesk.{FollowsOpen}
use Rattle.lc_journal.specs.FaultReplies.{is_fault, is_unknown}
use Rattle.lc_events.specs.Layers.{StepsRunning, TriesRunning}
use Rattle.lc_events.specs.CallReplies.{calls_log}
use Rattle.lc_events.specs.Faults.{SameLogs}
use Rattle.lc_events.specs.MayReply.{may_answer}
use Rattle.lc_desk.specs.MayReply.{may_read}
use Rattle.lc_events.specs.NodeSteps.{StepsNode, is_own}
use Rattle.lc_settled.specs.Numbers.{Numbers}
use Rattle.lc_events.specs.Refuses.{Refuses, RefusesFirst}
use Rattle.lc_events.specs.Running.{FitsRunning, FollowsRow, Onward}
use Rattle.lc_events.specs.Stepping.{StepsOn, TellsWriting, is_plain}
use Rattle.lc_events.specs.declared.node_state.NodeState.{NodeState}
use Rattle.lc_events.specs.declared.running.Running.{Running}
use Rattle.std.proofs.lemmas.Result.{IfOk-weaker}
use Rattle.lc_events.proofs.AtOnce.{stands}
use Rattle.lc_journal.proofs.Logged.{err_then}
use Rattle.lc_events.proofs.Refusing.{if_ok_both}
use Rattle.lc_events.proofs.CallsTold.{refused_log}
use Rattle.lc_events.proofs.Faults.{quiet}
use Rattle.lc_events.proofs.Geometries.{refuses_known}
use Rattle.lc_events.proofs.Names.{answers_may, common_may, common_quiet, plain_acts}
use Rattle.lc_events.proofs.NodeSteps.{desk_steps, err_there, faults_there, follows_there, known_there, logs_there, memory_there}
use Rattle.lc_events.proofs.Ordinary.{follows_step, refused_step}
use Rattle.lc_journal.proofs.OwnReplies.{own_known, own_no_fault}
use Rattle.lc_desk.proofs.Seating.{set_same}

module _ {D : Type 0} (a : Ghosts D) where
  -- what its row gives where nothing refuses it at once
  pub row_steps : (w : Running D a) (event : Event) (o : Option Refusal) → Refuses a w event o → o ≡ None → (reply : Reply) (geometry : Geometry) (nodes : List (NodeState D a)) (travelling : List (Option Token))
      → ((m : Setting) (s : State) (x : Numbers) → FitsRunning a m w s x → common_refusal m.geometry s event ≡ None → Onward a m event s x reply geometry nodes travelling)
      → (m : Setting) (s : State) (x : Numbers) → FitsRunning a m w s x → TellsWriting m x event false → StepsOn a m event s x reply geometry nodes travelling
  row_steps w event o refuses none reply geometry nodes travelling follows m s x h told =
      let common : common_refusal m.geometry s event ≡ None = sym (refuses m s x h) ∙ none in
      let on = follows m s x h common in
      record {
        after = on.after;
        next = on.next;
        step = subst (λ (c : Option Refusal). Unless c s reply on.after (Row m s event reply on.after)) (sym common) on.row;
        settled = on.settled;
        turns = on.turns;
        fits = on.fits;
      }

  -- what its node does, where nothing refuses it at once
  module _ (w : Running D a) (event : Event) (own : is_own event ≡ true) (o : Option Refusal) (first : RefusesFirst a w event o) (none : o ≡ None) (n : ℕ) (acts : Some n ≡ option_map (λ its. its.node) (named event)) (node : NodeState D a) (read : node ≡ get_or w.nodes.items n node)
      (result : Result Reply AllocError) (new : NodeState D a) (steps : StepsNode a n event node result new)
      (later : Running D a) (geometry : later.geometry ≡ w.geometry) (nodes : later.nodes.items ≡ slice_set w.nodes.items n new) (travelling : later.travelling.items ≡ w.travelling.items) where
    pub node_tries : TriesRunning a w event result later
    node_tries =
        let refuses = first.refused in
        let is = first.known none in
        let runs = first.running none in
        let follows = follows_there a w event own is runs n acts node read result new steps in
        let told = faults_there a w event own is runs n acts node read result new steps in
        let known = known_there a w event own is runs n acts node read result new steps in
        record {
          steps = IfOk-weaker result _ _ (λ reply all. record {
            follows = rw (geometry, nodes, travelling) (row_steps w event o refuses none reply w.geometry (slice_set w.nodes.items n new) w.travelling.items all.0);
            counts = record {
              counts = rw nodes all.1.0.0;
              devices = record { geometry = geometry; kinds = rw nodes all.1.0.1 };
              calls = rw nodes all.1.0.2;
            };
            unknown = refuses_known w.geometry event reply is all.1.1.0;
            names = answers_may event reply all.1.1.1;
          }) (if_ok_both result _ _ follows (if_ok_both result _ _ told (if_ok_both result _ _ known steps.names)));
          memory = err_then result (memory_there a w event own is runs n acts node read result new steps) (λ wants. (subst (λ (r : Option Refusal). Refuses a w event r) none refuses, wants));
          err = err_then result (err_there a w event own is runs n acts node read result new steps) (λ still m s x h. rw (geometry, nodes, travelling) (still m s x h));
          no_fault = err_then result (logs_there a w event own is runs n acts node read result new steps) (λ same. record { geometry = geometry; logs = rw nodes same });
        }

  -- what is refused at once
  pub refused_running : (w : Running D a) (event : Event) (o : Option Refusal) → RefusesFirst a w event o → (refusal : Refusal) → o ≡ Some refusal → is_plain event ≡ true → StepsRunning a w event (Refused refusal) w
  refused_running w event o first refusal some plain =
      let common = first.names refusal some in
      record {
        follows = refused_step a w event o first.refused false refusal some plain;
        counts = quiet a w event (Refused refusal) w (refused_log event refusal (common_quiet refusal common)) (common_quiet refusal common) (record { geometry = refl; logs = refl });
        unknown = first.unknown refusal some;
        names = common_may event refusal (plain_acts event plain) common;
      }

  -- also where it may want memory
  pub refused_tries : (w : Running D a) (event : Event) (o : Option Refusal) → RefusesFirst a w event o → (refusal : Refusal) → o ≡ Some refusal → is_plain event ≡ true → TriesRunning a w event (Ok (Refused refusal)) w
  refused_tries w event o first refusal some plain = record {
    steps = refused_running w event o first refusal some plain;
    memory = tt;
    err = tt;
    no_fault = tt;
  }

  -- what goes beyond one node, and calls no log
  module _ (w : Running D a) (event : Event) (o : Option Refusal) (first : RefusesFirst a w event o) (none : o ≡ None) where
    pub moved_running : (reply : Reply) (later : Running D a) → FollowsRow a w event reply later → SameLogs a w later → calls_log event reply ≡ false → is_fault reply ≡ false → is_unknown reply ≡ false → may_answer event reply ≡ true
        → StepsRunning a w event reply later
    moved_running reply later follows logs free well known names = record {
      follows = follows_step a w event o first.refused false event reply later none refl follows;
      counts = quiet a w event reply later free well logs;
      unknown = refuses_known w.geometry event reply (first.known none) known;
      names = answers_may event reply names;
    }

  -- what a thread is shown changes nothing
  pub read_running : (w : Running D a) (n thread segment offset len : ℕ) (o : Option Refusal) → RefusesFirst a w (Read n thread segment offset len) o → o ≡ None → (node : NodeState D a) → node ≡ get_or w.nodes.items n node
      → (reply : Reply) → ((k : ℕ) → FollowsOpen k node.desk (Read k thread segment offset len) reply node.desk) → may_read reply ≡ true
      → StepsRunning a w (Read n thread segment offset len) reply w
  read_running w n thread segment offset len o first none node read reply follows its =
      let refuses = first.refused in
      let is = first.known none in
      let runs = first.running none in
      let event = Read n thread segment offset len in
      let r : Result Reply AllocError = Ok reply in
      let steps : StepsNode a n event node r node = desk_steps a n n event (λ k. Read k thread segment offset len) node r node.desk refl refl follows (refl, refl) refl tt tt its refl refl (λ e. absurd cc) (λ m s x. refl)
      (λ m s x other. refl) (λ other. refl) in
      let same = set_same w.nodes.items n node (stands a w event is n refl node read) in
      record {
        follows = follows_step a w event o refuses false event reply w none refl (λ m s x h common.
            subst (λ nodes. Onward a m event s x reply w.geometry nodes w.travelling.items) same (follows_there a w event refl is runs n refl node read r node steps m s x h common));
        counts = quiet a w event reply w refl (own_no_fault may_read refl reply its) (record { geometry = refl; logs = refl });
        unknown = refuses_known w.geometry event reply is (own_known may_read refl reply its);
        names = answers_may event reply its;
      }

pub err_both : {X E : Type 0} (r : Result X E) (P Q R : E → Type 0) → ((e : E) → P e → Q e → R e) → IfErr r P → IfErr r Q → IfErr r R
err_both (Ok x) P Q R f p q = tt
err_both (Err e) P Q R f p q = f e p q
