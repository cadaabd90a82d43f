-- Of the store: a run of several events: with a step after it, and as a run of the plain machine.
use Rattle.std.proofs.Common.{◌≡◌, ℕ, ◌+◌, ◌<◌, true, List, [], ◌∷◌, ◌++◌, length, get_or, take, Some, refl, sym, ◌∙◌, ap, subst, inr}
use Rattle.std.specs.Prelude.{slice_get}
use Rattle.std.proofs.lemmas.List.{take_more}
use Rattle.std.proofs.lemmas.Option.{slice_get_read}
use Rattle.lc_disk.specs.declared.area.Area.{Ghosts}
use Rattle.lc_model.specs.Machine.{Step}
use Rattle.lc_model.specs.State.{Setting, State}
use Rattle.lc_model.specs.declared.event.Event.{Event}
use Rattle.lc_model.specs.declared.event.Event.TheVariants.{SetRange, Read, Reserve, Deliver, RecoverStep}
use Rattle.lc_model.specs.declared.reply.Reply.{Reply}
use Rattle.lc_settled.specs.Numbers.{Numbers}
use Rattle.lc_core.specs.Runs.{FollowsRun, GivesUp}
use Rattle.lc_settled.specs.Runs.{RunsOn}
use Rattle.lc_settled.specs.Settled.{Settled}
use Rattle.lc_core.specs.Asks.{may_grow}
use Rattle.lc_events.specs.Stepping.{AsksMemory}
use Rattle.lc_core.specs.World.{AsksAtAll, AsksIn, AsksWorld, FitsWorld, FollowsWorld, StillFitsWorld}
use Rattle.lc_settled.specs.Turns.{Turns}
use Rattle.lc_core.specs.declared.world_phase.WorldPhase.{WorldPhase}
use Rattle.lc_core.specs.declared.world_phase.WorldPhase.TheVariants.{Down, Up, Taken}
use Rattle.lc_core.specs.declared.world.World.{World}

runs_on_more : (m : Setting) (s : State) (x : Numbers) (events : List Event) (replies : List Reply) (mid : State) (between : Numbers) (event : Event) (reply : Reply) (after : State) (next : Numbers) → RunsOn m s x events replies mid between → Step m mid event reply after → Settled m mid between event reply → Turns m mid between event reply next → RunsOn m s x (events ++ event ∷ []) (replies ++ reply ∷ []) after next
runs_on_more m s x [] [] mid between event reply after next run step settled turns = (
  after,
  next,
  subst (λ (v : State). Step m v event reply after) run.0 step,
  subst (λ (y : Numbers). Settled m s y event reply) run.1 (subst (λ (v : State). Settled m v between event reply) run.0 settled),
  subst (λ (y : Numbers). Turns m s y event reply next) run.1 (subst (λ (v : State). Turns m v between event reply next) run.0 turns),
  (refl, refl),
)
runs_on_more m s x [] (r ∷ replies) mid between event reply after next run step settled turns = absurd run
runs_on_more m s x (e ∷ events) [] mid between event reply after next run step settled turns = absurd run
runs_on_more m s x (e ∷ events) (r ∷ replies) mid between event reply after next run step settled turns = (
  run.0,
  run.1,
  run.2,
  run.3,
  run.4,
  runs_on_more m run.0 run.1 events replies mid between event reply after next run.5 step settled turns,
)

module _ {D : Type 0} (a : Ghosts D) where
  pub run_start : (w : World D a) → FollowsRun a w [] [] w
  run_start w m s x h = (s, x, (refl, refl), h)

  -- after the first `count` events, the next one
  pub run_more : (old mid new : World D a) (events : List Event) (count : ℕ) (event : Event) (replies : List Reply) (reply : Reply) → count < length events → event ≡ get_or events count event → FollowsRun a old (take count events) replies mid → FollowsWorld a mid event reply new → FollowsRun a old (take (count + 1) events) (replies ++ reply ∷ []) new
  run_more old mid new events count event replies reply below is run step =
      subst (λ (es : List Event). FollowsRun a old es (replies ++ reply ∷ []) new)
      (sym (take_more events count event below ∙ ap (λ e. take count events ++ e ∷ []) (sym is)))
      (λ m s x h.
      (let so_far = run m s x h in
      let on = step m so_far.0 so_far.1 so_far.3 in
      (on.after, on.next, runs_on_more m s x (take count events) replies so_far.0 so_far.1 event reply on.after on.next so_far.2 on.step on.settled on.turns, on.fits)))

  -- where it still fits
  pub run_still : (old mid new : World D a) (events : List Event) (replies : List Reply) → FollowsRun a old events replies mid → ((m : Setting) (s : State) (x : Numbers) → FitsWorld a m mid s x → FitsWorld a m new s x) → FollowsRun a old events replies new
  run_still old mid new events replies run still m s x h =
      let so_far = run m s x h in
      (so_far.0, so_far.1, so_far.2, still m so_far.0 so_far.1 so_far.3)

  -- whatever it fits, only these events want memory
  grows : (phase : WorldPhase D a) (event : Event) → AsksIn a phase event → may_grow event ≡ true
  grows (Down r) event = elim event as (λ (e : Event). AsksAtAll a r e → may_grow e ≡ true) [
    | RecoverStep ↦ λ asks. refl
    | _ ↦ λ asks. absurd asks
  ]
  grows (Up up) event = elim event as (λ (e : Event). AsksMemory a up.running e → may_grow e ≡ true) [
    | SetRange node thread segment offset len ↦ λ asks. refl
    | Read node thread segment offset len ↦ λ asks. refl
    | Reserve node thread ↦ λ asks. refl
    | Deliver sender number segment to ↦ λ asks. refl
    | _ ↦ λ asks. absurd asks.1
  ]
  grows Taken event = λ asks. absurd asks

  -- where the next event asks for memory, and what stands after it still fits
  pub gives_up : (old mid new : World D a) (events : List Event) (replies : List Reply) (event : Event) → length replies < length events → event ≡ get_or events (length replies) event
      → FollowsRun a old (take (length replies) events) replies mid → AsksIn a mid.phase event → AsksWorld a mid event → StillFitsWorld a mid new → GivesUp a old events replies new
  gives_up old mid new events replies event below is run at_all asks still =
      let there : slice_get events (length replies) ≡ Some event = slice_get_read events (length events) (length replies) event refl below is in
      inr (
        (event, there, grows mid.phase event at_all),
        λ m s x h.
            (let so_far = run m s x h in
            record {
              after = so_far.0;
              next = so_far.1;
              run = so_far.2;
              fits = still m so_far.0 so_far.1 so_far.3;
              event = event;
              is_next = there;
              asks = asks m so_far.0 so_far.1 so_far.3;
            }),
      )
