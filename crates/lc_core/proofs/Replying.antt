-- Of the store: what a call of a store hands out is the reply to its event.
use Rattle.std.proofs.Common.{◌≡◌, true, List, Option, Some, sym, subst}
use Rattle.std.proofs.lemmas.Option.{same_Some as same_some}
use Rattle.lc_disk.specs.declared.area.Area.{Ghosts}
use Rattle.lc_disk.specs.declared.choice.Choice.{Choice}
use Rattle.lc_model.specs.declared.event.Event.{Event}
use Rattle.lc_model.specs.declared.event.Event.TheVariants.{Stop}
use Rattle.lc_model.specs.declared.reply.Reply.{Reply}
use Rattle.lc_core.specs.Answered.{ComesTo}
use Rattle.lc_events.specs.Answered.{StandsFor}
use Rattle.lc_core.specs.Calls.{CallsArea}
use Rattle.lc_core.specs.Faults.{CountsPhase}
use Rattle.lc_core.specs.Geometries.{RefusesOutside, phase_geometry}
use Rattle.lc_core.specs.Lives.{Anyhow}
use Rattle.lc_events.specs.MayReply.{may_reply}
use Rattle.lc_core.specs.Recovers.{RefusesAtOnce}
use Rattle.lc_core.specs.Truncating.{StepsTo}
use Rattle.lc_core.specs.World.{FollowsWorld}
use Rattle.lc_core.specs.declared.world.World.{World}

module _ {D : Type 0} (a : Ghosts D) where
  pub stands_steps : (event : Event) (answer reply : Reply) (old new : World D a) → StandsFor event (Some answer) reply → StepsTo a old event reply new → StepsTo a old event answer new
  stands_steps event answer reply old new stands steps = subst (λ (r : Reply). StepsTo a old event r new) (sym (same_some answer reply (stands steps.names))) steps

  pub stands_comes : (event : Event) (answer : Option Reply) (reply : Reply) (old new : World D a) → StandsFor event answer reply → StepsTo a old event reply new → ComesTo a old event answer new
  stands_comes event answer reply old new stands steps = subst (λ (o : Option Reply). ComesTo a old event o new) (sym (stands steps.names)) steps

  -- the clauses of a step that is no stop
  pub steps_of : (old : World D a) (event : Event) (reply : Reply) (new : World D a) → ((choices : List (List Choice)) → event ≡ Stop choices → ⊥) → FollowsWorld a old event reply new
      → RefusesAtOnce a old.phase event reply new.phase → CountsPhase a old.phase reply new.phase → phase_geometry a new.phase ≡ phase_geometry a old.phase → RefusesOutside a old.phase event reply
      → (((choices : List (List Choice)) → event ≡ Stop choices → ⊥) → CallsArea a old.phase event reply new.phase)
      → (((choices : List (List Choice)) → event ≡ Stop choices → ⊥) → Anyhow a old.phase event reply new.phase) → may_reply event reply ≡ true → StepsTo a old event reply new
  steps_of old event reply new no_stop follows at_once faults geometry unknown calls anyhow names = record {
    follows = follows;
    anyhow = anyhow no_stop;
    at_once = at_once;
    faults = faults;
    geometry = geometry;
    unknown = unknown;
    calls = calls no_stop;
    names = names;
  }
