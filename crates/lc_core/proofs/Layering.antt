-- Of the store: what an event that wants no memory does, from the nodes up to the store.
use Rattle.std.proofs.Common.{◌≡◌, ◌++◌, Bool, false, true, refl, sym, ap, subst, ◌∙◌, true≢false}
use Rattle.std.specs.Prelude.{Result, Ok, Err}
use Rattle.std.specs.declared.alloc.AllocError.{AllocError}
use Rattle.std.specs.Global.{Vec}
use Rattle.lc_disk.specs.declared.area.Area.{Ghosts}
use Rattle.lc_model.specs.State.{Setting}
use Rattle.lc_model.specs.declared.event.Event.{Event}
use Rattle.lc_model.specs.declared.event.Event.TheVariants.{RecoverStep}
use Rattle.lc_model.specs.declared.refusal.Refusal.TheVariants.{Down as IsDown}
use Rattle.lc_model.specs.declared.reply.Reply.{Reply}
use Rattle.lc_model.specs.declared.reply.Reply.TheVariants.{Refused}
use Rattle.lc_core.specs.Answered.{Tries}
use Rattle.lc_core.specs.Calls.{CallsArea, KeepsAreas}
use Rattle.lc_events.specs.FaultReplies.{CountsFaults}
use Rattle.lc_core.specs.Faults.{CountsPhase, area_failures, phase_failures}
use Rattle.lc_events.specs.Faults.{CountsLogs, SameDevices, log_failures, logs_of}
use Rattle.lc_events.specs.Geometries.{RefusesUnknown}
use Rattle.lc_events.specs.MayReply.{may_reply}
use Rattle.lc_desk.specs.Pages.{FitsPages}
use Rattle.lc_core.specs.Geometries.{phase_geometry}
use Rattle.lc_events.specs.Layers.{StepsRunning, TriesRunning}
use Rattle.lc_core.specs.Layers.{StepsUp, TriesUp}
use Rattle.lc_settled.specs.Numbers.{Numbers}
use Rattle.lc_core.specs.Pages.{areas_of}
use Rattle.lc_core.specs.Recovers.{RefusesAtOnce}
use Rattle.lc_events.specs.Stepping.{FollowsStep, TellsWriting, is_plain}
use Rattle.lc_core.specs.Stepping.{works_up}
use Rattle.lc_core.specs.Truncating.{StepsTo}
use Rattle.lc_core.specs.World.{AsksIn, FitsPhase, Leads}
use Rattle.lc_desk.specs.declared.pages.Pages.{Pages}
use Rattle.lc_core.specs.declared.world_phase.WorldPhase.{WorldPhase}
use Rattle.lc_core.specs.declared.world_phase.WorldPhase.TheVariants.{Up}
use Rattle.lc_events.specs.declared.running.Running.{Running}
use Rattle.lc_core.specs.declared.up.Up.{Up as Rising}
use Rattle.lc_core.specs.declared.world.World.{World}
use Rattle.std.proofs.lemmas.Result.{IfOk-weaker}
use Rattle.lc_core.proofs.Asking.{asks_world}
use Rattle.lc_core.proofs.Devices.{steps_devices}
use Rattle.lc_journal.proofs.Logged.{err_then}
use Rattle.lc_core.proofs.Refusing.{on_err_both}
use Rattle.lc_core.proofs.Failures.{up_counts, up_still_failed}
use Rattle.lc_core.proofs.CallsTold.{refused_free}
use Rattle.lc_core.proofs.Geometries.{down_outside, up_geometry, up_outside}
use Rattle.lc_events.proofs.Names.{common_may}
use Rattle.lc_core.proofs.Names.{works_acts}
use Rattle.lc_core.proofs.OneArea.{calls_none, step_calls, step_keeps, up_calls, up_keeps}
use Rattle.lc_core.specs.Lives.{Anyhow, StillLives}
use Rattle.lc_core.proofs.Living.{others_told, up_still_lives, up_told}
use Rattle.lc_core.proofs.Recoveries.{not_up, runs_up, up_follows, up_still}
use Rattle.lc_core.proofs.StaysHonest.{keeps_honest, stays_honest}
use Rattle.lc_core.proofs.Recovers.{down_refuses, up_asks}

module _ {D : Type 0} (a : Ghosts D) where
  -- what the nodes do, the store does; it is told whether a page of a segment is being written
  pub up_moves : (up later : Rising D a) (event : Event) (reply : Reply) (writing : Bool) → is_plain event ≡ true → ((m : Setting) (x : Numbers) → FitsPages a m up.segments.items x → TellsWriting m x event writing)
      → later.segments ≡ up.segments → FollowsStep a writing up.running event reply later.running → CountsLogs a up.running event reply later.running → RefusesUnknown up.running.geometry event reply → may_reply event reply ≡ true
      → StepsUp a up event reply later
  up_moves up later event reply writing plain told segments follows counts unknown names =
      let r : Result Reply AllocError = Ok reply in
      record {
        follows = λ m s x h. runs_up a m s x up later event reply writing plain segments counts.devices follows (told m x h.pages) h;
        faults =
            subst (λ (v : Vec (Pages D a)). CountsFaults reply (phase_failures a (Up up)) (log_failures a (logs_of a later.running.nodes.items) ++ area_failures a (areas_of a v.items))) (sym segments)
            (up_counts a up event reply later.running counts);
        geometry = counts.devices.geometry;
        unknown = unknown;
        calls = step_calls a up later event plain r (ap (λ (v : Vec (Pages D a)). areas_of a v.items) segments) counts tt;
        names = names;
      }

  pub up_steps : (up later : Rising D a) (event : Event) (reply : Reply) → is_plain event ≡ true → ((m : Setting) (x : Numbers) → TellsWriting m x event false) → later.segments ≡ up.segments
      → StepsRunning a up.running event reply later.running → StepsUp a up event reply later
  up_steps up later event reply plain told segments steps = up_moves up later event reply false plain (λ m x h. told m x) segments steps.follows steps.counts steps.unknown steps.names

  -- what wants no memory
  pub steps_tries : (up : Rising D a) (event : Event) (reply : Reply) (later : Rising D a) → StepsUp a up event reply later → TriesUp a up event (Ok reply) later
  steps_tries up event reply later steps = record {
    steps = steps;
    memory = tt;
    err = tt;
    no_fault = tt;
    geometry = tt;
    kept = tt;
  }

  -- also where it may want memory
  pub up_tries : (up later : Rising D a) (event : Event) (result : Result Reply AllocError) → is_plain event ≡ true → ((m : Setting) (x : Numbers) → TellsWriting m x event false) → later.segments ≡ up.segments
      → TriesRunning a up.running event result later.running → TriesUp a up event result later
  up_tries up later event result plain told segments tries = record {
    steps = IfOk-weaker result _ _ (λ reply. up_steps up later event reply plain told segments) tries.steps;
    memory = tries.memory;
    err = err_then result (on_err_both result _ _ tries.err tries.no_fault) (λ both m s x h. record {
      running = both.0 m s x h.running;
      pages = rw segments h.pages;
      failed = rw segments h.failed;
    });
    no_fault = err_then result tries.no_fault (λ same.
        subst (λ (v : Vec (Pages D a)). log_failures a (logs_of a later.running.nodes.items) ++ area_failures a (areas_of a v.items) ≡ phase_failures a (Up up)) (sym segments) (up_still_failed a up later.running same));
    geometry = err_then result tries.no_fault (λ same. same.geometry);
    kept = step_keeps a up later result (ap (λ (v : Vec (Pages D a)). areas_of a v.items) segments) tries.no_fault;
  }

  -- the devices are the same, whatever is answered
  pub tries_devices : (old new : Running D a) (event : Event) (result : Result Reply AllocError) → TriesRunning a old event result new → SameDevices a old new
  tries_devices old new event result tries = steps_devices a old new event result (IfOk-weaker result _ _ (λ reply steps. steps.counts) tries.steps) tries.no_fault

  -- so is the geometry
  pub tries_geometry : (up later : Rising D a) (event : Event) (result : Result Reply AllocError) → TriesUp a up event result later → later.running.geometry ≡ up.running.geometry
  tries_geometry up later event (Ok reply) tries = tries.steps.geometry
  tries_geometry up later event (Err fault) tries = tries.geometry

  pub steps_up : (old new : World D a) (up later : Rising D a) (event : Event) (reply : Reply) → old.phase ≡ Up up → new.phase ≡ Up later → (event ≡ RecoverStep → ⊥) → StepsUp a up event reply later
      → StepsTo a old event reply new
  steps_up old new up later event reply was is other steps = record {
    follows = λ m s x h. subst (λ (p : WorldPhase D a). Leads a m event s x reply p) (sym is) (up_follows a old.phase up later event reply was steps.follows (stays_honest a up later event reply steps.calls) m s x h);
    anyhow = subst (λ (p : WorldPhase D a). Anyhow a old.phase event reply p) (sym is) (up_told a old.phase up later event reply was other steps.follows);
    at_once = up_asks a old.phase up was event other reply new.phase;
    faults =
        subst (λ (p : WorldPhase D a). CountsPhase a old.phase reply p) (sym is) (subst (λ (p : WorldPhase D a). CountsPhase a p reply (Up later)) (sym was) steps.faults);
    geometry = ap (phase_geometry a) is ∙ up_geometry a old.phase up later was steps.geometry;
    unknown = up_outside a old.phase up event reply was steps.unknown;
    calls = subst (λ (p : WorldPhase D a). CallsArea a old.phase event reply p) (sym is) (up_calls a old.phase up later event reply was steps.calls);
    names = steps.names;
  }

  -- and so where it may want memory
  pub tries_up : (old new : World D a) (up later : Rising D a) (event : Event) (result : Result Reply AllocError) → old.phase ≡ Up up → new.phase ≡ Up later → (event ≡ RecoverStep → ⊥) → TriesUp a up event result later
      → Tries a old event result new
  tries_up old new up later event (Ok reply) was is other tries = steps_up old new up later event reply was is other tries.steps
  tries_up old new up later event (Err fault) was is other tries =
      let asks : AsksIn a old.phase event = subst (λ (p : WorldPhase D a). AsksIn a p event) (sym was) tries.memory in
      record {
        asks = asks_world a old event asks;
        at_all = asks;
        still = λ m s x h. subst (λ (p : WorldPhase D a). FitsPhase a m p s x) (sym is) (up_still a old.phase up later was (keeps_honest a up later tries.kept) tries.err m s x h);
        lives = subst (λ (p : WorldPhase D a). StillLives a old.phase p) (sym is) (up_still_lives a old.phase up later was tries.err);
        failures = ap (phase_failures a) is ∙ tries.no_fault ∙ ap (phase_failures a) (sym was);
        geometry = ap (phase_geometry a) is ∙ up_geometry a old.phase up later was tries.geometry;
        kept = subst (λ (p : WorldPhase D a). KeepsAreas a old.phase p) (sym is) (up_keeps a old.phase up later was tries.kept);
      }

  -- one that is down does nothing
  pub steps_down : (old new : World D a) → new.phase ≡ old.phase → (event : Event) → works_up event ≡ true → ((up : Rising D a) → old.phase ≡ Up up → ⊥) → StepsTo a old event (Refused IsDown) new
  steps_down old new same event works other = record {
    follows = λ m s x h. subst (λ (p : WorldPhase D a). Leads a m event s x (Refused IsDown) p) (sym same) (not_up a old.phase event other works m s x h);
    anyhow = others_told a old.phase event (Refused IsDown) new.phase other (λ recovers. (let no : false ≡ true = sym (ap works_up recovers) ∙ works in absurd cc));
    at_once = subst (λ (p : WorldPhase D a). RefusesAtOnce a old.phase event (Refused IsDown) p) (sym same) (down_refuses a old.phase event other works);
    faults = record { fault = λ fails. absurd (true≢false (sym fails)); none = λ _. ap (phase_failures a) same };
    geometry = ap (phase_geometry a) same;
    unknown = down_outside a old.phase event (Refused IsDown) other refl;
    calls = subst (λ (p : WorldPhase D a). CallsArea a old.phase event (Refused IsDown) p) (sym same) (calls_none a old.phase event (Refused IsDown) (λ g. refused_free g event IsDown refl));
    names = common_may event IsDown (works_acts event works) refl;
  }
