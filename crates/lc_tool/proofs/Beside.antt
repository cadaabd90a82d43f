-- A store beside a life: how it stands, and what becomes of that.
use Rattle.std.proofs.Common.{◌≡◌, ◌∙◌, ℕ, Bool, true, List, Option, Some, None, refl, sym, ap, subst}
use Rattle.std.specs.Io.KnownBytes.{Appends}
use Rattle.std.specs.Prelude.{Result, Ok, Err, IfOk, if◌then◌else◌}
use Rattle.lc_disk.specs.declared.area.Area.{Ghosts}
use Rattle.lc_disk.specs.declared.choice.Choice.{Choice}
use Rattle.lc_record.specs.declared.geometry.Geometry.{Geometry}
use Rattle.lc_model.specs.State.{Setting, State}
use Rattle.lc_model.specs.declared.event.Event.{Event}
use Rattle.lc_model.specs.declared.event.Event.TheVariants.{FlushStep, RecoverStep, Stop}
use Rattle.lc_model.specs.declared.refusal.Refusal.TheVariants.{Down as IsDown}
use Rattle.lc_model.specs.declared.reply.Reply.{Reply}
use Rattle.lc_model.specs.declared.reply.Reply.TheVariants.{Refused}
use Rattle.lc_core.specs.Geometries.{RefusesOutside, phase_geometry}
use Rattle.lc_core.specs.Lives.{Anyhow, FitsLife, Life, Told}
use Rattle.lc_settled.specs.Numbers.{Numbers}
use Rattle.lc_core.specs.Recovers.{RefusesAtOnce}
use Rattle.lc_core.specs.Stepping.{works_up}
use Rattle.lc_core.specs.World.{FollowsAnyhow}
use Rattle.lc_core.specs.declared.world_phase.WorldPhase.{WorldPhase}
use Rattle.lc_core.specs.declared.world_phase.WorldPhase.TheVariants.{Down, Up, Taken}
use Rattle.lc_core.specs.declared.world.World.{World}
use Rattle.lc_core.proofs.Living.{one_lives}
use Rattle.lc_look.specs.Printed.{Adds}
use Rattle.lc_text.specs.Text.{reply_text}
use Rattle.lc_text.specs.declared.command.Command.{Command}
use Rattle.lc_text.specs.declared.command.Command.TheVariants.{End, Flush, Recover, Step as Asks}
use Rattle.lc_tool.specs.Fits.{Follows, FollowsAll, FollowsEnd, IsUpBeside, Leads, Performs, RefusesDown, RunsRecovery}
use Rattle.lc_tool.specs.Session.{Does, end_text}
use Rattle.lc_tool.specs.Tells.{KeepsTo, TellsAt, TellsCommand, TellsDown, TellsEvent, TellsRefusal}
use Rattle.lc_tool.specs.Verdict.{verdict_of}
use Rattle.lc_tool.specs.declared.verdict.Verdict.{Verdict}
use Rattle.lc_tool.proofs.Keeping.{step_keeps}
use Rattle.lc_tool.proofs.Performing.{end_performs, flush_performs, recover_performs}

-- the line of what is refused because the store is down
pub refused_down : (reply : Reply) (verdict : Verdict) (text_of : Reply → List ℕ) → text_of (Refused IsDown) ≡ reply_text (Refused IsDown) → reply ≡ Refused IsDown → verdict ≡ verdict_of reply
    → TellsRefusal IsDown (text_of reply) verdict
refused_down reply verdict text_of same is by = (ap text_of is ∙ same, by ∙ ap verdict_of is)

module _ {D : Type 0} (a : Ghosts D) where
  -- the geometry is that of the life
  pub life_geometry : (g : Geometry) (at : Option Life) (phase : WorldPhase D a) → FitsLife a g at phase → phase_geometry a phase ≡ Some g
  life_geometry g None (Down r) fits = ap (λ (h : Geometry). Some h) fits
  life_geometry g None (Up up) fits = absurd fits
  life_geometry g None Taken fits = absurd fits
  life_geometry g (Some life) (Down r) fits = absurd fits
  life_geometry g (Some life) (Up up) fits = ap (λ (h : Geometry). Some h) (sym fits.0.running.geometry_is ∙ fits.1)
  life_geometry g (Some life) Taken fits = absurd fits

  -- What is told of an event that is no stop
  pub told_by : (old new : WorldPhase D a) (event : Event) (reply : Reply) → ((choices : List (List Choice)) → event ≡ Stop choices → ⊥) → (((choices : List (List Choice)) → event ≡ Stop choices → ⊥) → Anyhow a old event reply new)
      → RefusesAtOnce a old event reply new → Told a old event reply new
  told_by old new event reply not anyhow at_once = record { anyhow = anyhow; at_once = at_once; stops = λ choices is. absurd (not choices is) }

  pub told_all : {E : Type 0} (old new : WorldPhase D a) (event : Event) (result : Result Reply E) → ((choices : List (List Choice)) → event ≡ Stop choices → ⊥)
      → IfOk result (λ reply. ((choices : List (List Choice)) → event ≡ Stop choices → ⊥) → Anyhow a old event reply new) → IfOk result (λ reply. RefusesAtOnce a old event reply new)
      → IfOk result (λ reply. Told a old event reply new)
  told_all old new event (Ok reply) not anyhow at_once = told_by old new event reply not anyhow at_once
  told_all old new event (Err e) not anyhow at_once = tt

  -- One that is up

  at_phase : (g : Geometry) (life : Life) (w : World D a) (phase : WorldPhase D a) → w.phase ≡ phase → FitsLife a g (Some life) phase → IsUpBeside a life.setting w life.state life.numbers × (life.setting.geometry ≡ g)
  at_phase g life w (Up up) is fits = ((up, is, fits.0), fits.1)
  at_phase g life w (Down r) is fits = absurd fits
  at_phase g life w Taken is fits = absurd fits

  pub up_of : (g : Geometry) (life : Life) (w : World D a) → FitsLife a g (Some life) w.phase → IsUpBeside a life.setting w life.state life.numbers × (life.setting.geometry ≡ g)
  up_of g life w fits = at_phase g life w w.phase refl fits

  pub life_of : (g : Geometry) (life : Life) (w : World D a) → IsUpBeside a life.setting w life.state life.numbers → life.setting.geometry ≡ g → FitsLife a g (Some life) w.phase
  life_of g life w beside same = subst (λ (p : WorldPhase D a). FitsLife a g (Some life) p) (sym beside.1) (beside.2, same)

  -- a step of it
  pub up_follows : (old new : World D a) (event : Event) (reply : Reply) → FollowsAnyhow a old.phase event reply new.phase → Follows a (IsUpBeside a) old event reply new
  up_follows old new event reply goes m s x beside =
      let on = goes beside.0 beside.1 in
      let led = on.2 m s x beside.2 in
      record { after = led.after; next = led.next; step = led.step; settled = led.settled; turns = led.turns; fits = (on.0, on.1, led.fits) }

  -- what it leads to
  pub led_life : (Goes : Setting → State → Numbers → State → Numbers → Type 0) (old new : World D a) → Leads a (IsUpBeside a) Goes old new → (g : Geometry) (life : Life) → FitsLife a g (Some life) old.phase
      → (s : State) × (x : Numbers) × Goes life.setting life.state life.numbers s x × FitsLife a g (Some (record { setting = life.setting; state = s; numbers = x })) new.phase
  led_life Goes old new leads g life fits =
      let here = up_of g life old fits in
      let led = leads life.setting life.state life.numbers here.0 in
      (led.0, led.1, led.2, life_of g (record { setting = life.setting; state = led.0; numbers = led.1 }) new led.3 here.1)

  -- One that is down

  down_refuses : (old new : WorldPhase D a) (event : Event) (reply : Reply) (g : Geometry) → works_up event ≡ true → RefusesAtOnce a old event reply new → FitsLife a g None old
      → (reply ≡ Refused IsDown) × FitsLife a g None new
  down_refuses (Down r) new event reply g works at_once fits =
      let its = at_once IsDown (ap (λ (b : Bool). if b then Some IsDown else None) works) in
      (its.0, subst (λ (p : WorldPhase D a). FitsLife a g None p) (sym its.1) fits)
  down_refuses (Up up) new event reply g works at_once fits = absurd fits
  down_refuses Taken new event reply g works at_once fits = absurd fits

  pub refuses_down : (old new : World D a) (event : Event) (reply : Reply) → works_up event ≡ true → RefusesAtOnce a old.phase event reply new.phase → RefusesDown a old reply new
  refuses_down old new event reply works at_once g fits = down_refuses old.phase new.phase event reply g works at_once fits

  -- what is answered otherwise was not down
  pub not_down : (old mid new : World D a) (event : Event) (reply other : Reply) → works_up event ≡ true → RefusesAtOnce a old.phase event reply mid.phase → (reply ≡ Refused IsDown → ⊥) → RefusesDown a old other new
  not_down old mid new event reply other works at_once not g fits = absurd (not (refuses_down old mid event reply works at_once g fits).0)

  -- An event

  pub event_tells : (old new : World D a) (event : Event) (reply : Reply) → RefusesOutside a old.phase event reply → Told a old.phase event reply new.phase → (g : Geometry) (at : Option Life) → FitsLife a g at old.phase
      → (after : Option Life) × FitsLife a g after new.phase × TellsEvent g at event reply after
  event_tells old new event reply outside told g at fits =
      let come = one_lives a g at old.phase event reply new.phase fits told in
      let keeps = step_keeps a old.phase new.phase event reply outside told.at_once g (life_geometry g at old.phase fits) in
      (come.0, come.2, record { keeps = keeps; lives = come.1 })

  -- Commands

  module _ (old new : World D a) (held holds : Option (List ℕ)) (verdict : Verdict) where
    -- whatever the store stands beside, the command is such
    abbrev pub Tells : (Geometry → Option Life → List ℕ → Verdict → Option Life → Type 0) → Type 0
    Tells Such = (g : Geometry) (at : Option Life) → FitsLife a g at old.phase → (after : Option Life) × FitsLife a g after new.phase × Adds (λ text end. Such g at text end after) held holds verdict

    -- so it is under another name of the command
    pub tells_as : (command other : Command) → command ≡ other → Tells (λ g at text end after. TellsCommand g at other text end after) → Tells (λ g at text end after. TellsCommand g at command text end after)
    tells_as command other same tells = subst (λ (c : Command). Tells (λ g at text end after. TellsCommand g at c text end after)) (sym same) tells

    pub asked_tells : (event : Event) (reply : Reply) → RefusesOutside a old.phase event reply → Told a old.phase event reply new.phase → verdict ≡ verdict_of reply → Appends held holds (reply_text reply)
        → Tells (λ g at text end after. TellsCommand g at (Asks event) text end after)
    asked_tells event reply outside told is shown g at fits =
        let tells = event_tells old new event reply outside told g at fits in
        (tells.0, tells.1, (reply_text reply, (reply, tells.2, (refl, is)), shown))

    -- one that is up does it, and one that is down does it so
    pub either_tells : (command : Command) → Performs a (IsUpBeside a) old command held holds verdict new
        → ((g : Geometry) → FitsLife a g None old.phase → (after : Option Life) × FitsLife a g after new.phase × Adds (λ text end. TellsDown g command text end after) held holds verdict)
        → Tells (λ g at text end after. TellsAt g at command text end after)
    either_tells command performs down g None fits = down g fits
    either_tells command performs down g (Some life) fits =
        let led = led_life (λ m s x after next. (text : List ℕ) × Does m s x command text verdict after next × Appends held holds text) old new performs g life fits in
        (Some (record { setting = life.setting; state = led.0; numbers = led.1 }), led.3, (led.2.0, (led.0, led.1, led.2.1, refl), led.2.2))

    -- it refuses
    pub down_tells : (reply : Reply) (text_of : Reply → List ℕ) → text_of (Refused IsDown) ≡ reply_text (Refused IsDown) → RefusesDown a old reply new → verdict ≡ verdict_of reply → Appends held holds (text_of reply)
        → (g : Geometry) → FitsLife a g None old.phase → (after : Option Life) × FitsLife a g after new.phase × Adds (λ text end. TellsRefusal IsDown text end × (after ≡ None)) held holds verdict
    down_tells reply text_of same refuses is shown g fits =
        let its = refuses g fits in
        (None, its.1, (text_of reply, (refused_down reply verdict text_of same its.0 is, refl), shown))

    pub end_tells : (node thread : ℕ) (reply : Reply) → FollowsEnd a (IsUpBeside a) old node thread reply new → RefusesDown a old reply new → verdict ≡ verdict_of reply → Appends held holds (end_text reply)
        → Tells (λ g at text end after. TellsCommand g at (End node thread) text end after)
    end_tells node thread reply follows refuses is shown =
        either_tells (End node thread) (end_performs a (IsUpBeside a) old new node thread reply held holds verdict follows is shown) (down_tells reply end_text refl refuses is shown)

    pub flush_tells : (node : ℕ) (reply : Reply) → FollowsAll a (IsUpBeside a) old (FlushStep node) reply new → RefusesDown a old reply new → verdict ≡ verdict_of reply → Appends held holds (reply_text reply)
        → Tells (λ g at text end after. TellsCommand g at (Flush node) text end after)
    flush_tells node reply follows refuses is shown =
        either_tells (Flush node) (flush_performs a (IsUpBeside a) old new node reply held holds verdict follows is shown) (down_tells reply reply_text refl refuses is shown)

    pub recover_tells : (reply : Reply) → FollowsAll a (IsUpBeside a) old RecoverStep reply new → RunsRecovery a old reply new → ((g : Geometry) → phase_geometry a old.phase ≡ Some g → KeepsTo g RecoverStep reply)
        → verdict ≡ verdict_of reply → Appends held holds (reply_text reply) → Tells (λ g at text end after. TellsCommand g at Recover text end after)
    recover_tells reply follows recovers keeps is shown =
        either_tells Recover (recover_performs a (IsUpBeside a) old new reply held holds verdict follows is shown)
        (λ g fits. let run = recovers g fits in
        (run.0, run.1, (reply_text reply, (reply, run.3, record { keeps = keeps g (life_geometry g None old.phase fits); lives = run.2 }, (refl, is)), shown)))
