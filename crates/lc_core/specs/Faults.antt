-- Of the store: how often the devices of a store have failed, and what its replies tell of it.
use Rattle.std.specs.Prelude.{◌≡◌, ℕ, List, [], ◌∷◌, ◌++◌, map, Option, Some}
use Rattle.lc_disk.specs.declared.area.Area.{Ghosts}
use Rattle.lc_model.specs.declared.reply.Reply.{Reply}
use Rattle.lc_events.specs.FaultReplies.{CountsFaults}
use Rattle.lc_core.specs.Pages.{areas_of}
use Rattle.lc_core.specs.declared.world_phase.WorldPhase.{WorldPhase}
use Rattle.lc_core.specs.declared.world_phase.WorldPhase.TheVariants.{Down, Up, Taken}
use Rattle.lc_events.specs.Faults.{log_failures, logs_of}

-- reply by reply: each that tells of a failure tells of one, and no other failure there is
abbrev pub CountsAll : List Reply → List (Option ℕ) → List (Option ℕ) → Type 0
CountsAll [] olds news = news ≡ olds
CountsAll (reply ∷ replies) olds news = (between : List (Option ℕ)) × CountsFaults reply olds between × CountsAll replies between news

module _ {D : Type 0} (a : Ghosts D) where
  -- how often each of these areas has failed
  abbrev pub area_failures : List D → List (Option ℕ)
  area_failures areas = map (λ area. Some (a.failures area)) areas

  -- those of the logs, and then those of the segments
  abbrev pub phase_failures : WorldPhase D a → List (Option ℕ)
  phase_failures (Down recovery) = area_failures recovery.areas
  phase_failures (Up up) = (log_failures a) ((logs_of a) up.running.nodes.items) ++ area_failures (areas_of a up.segments.items)
  phase_failures Taken = []

  -- and of a store of its areas
  abbrev pub CountsPhase : WorldPhase D a → Reply → WorldPhase D a → Type 0
  CountsPhase old reply new = CountsFaults reply (phase_failures old) (phase_failures new)
