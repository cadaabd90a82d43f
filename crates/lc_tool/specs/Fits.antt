-- What it is that a store follows the machine and the numbers over the commands of a script.
use Rattle.std.specs.Prelude.{◌≡◌, ◌⊎◌, ℕ, List, Option, None}
use Rattle.std.specs.Io.KnownBytes.{Appends}
use Rattle.lc_disk.specs.declared.area.Area.{Ghosts}
use Rattle.lc_record.specs.declared.geometry.Geometry.{Geometry}
use Rattle.lc_model.specs.Merge.{MergeFault}
use Rattle.lc_model.specs.State.{Setting, State}
use Rattle.lc_model.specs.declared.event.Event.{Event}
use Rattle.lc_model.specs.declared.event.Event.TheVariants.{RecoverStep, Reserve}
use Rattle.lc_model.specs.declared.refusal.Refusal.TheVariants.{DeviceFault, Down as IsDown}
use Rattle.lc_model.specs.declared.reply.Reply.{Reply}
use Rattle.lc_model.specs.declared.reply.Reply.TheVariants.{Refused}
use Rattle.lc_recover.specs.Reads.{AreHonest, ReadsRefused}
use Rattle.lc_recover.specs.Recovery.{begun}
use Rattle.lc_core.specs.Lives.{AnswersOne, FitsLife, Life}
use Rattle.lc_settled.specs.Numbers.{Numbers}
use Rattle.lc_core.specs.World.{FitsUp, FitsWorld, LeadsTo}
use Rattle.lc_core.specs.declared.world_phase.WorldPhase.TheVariants.{Down, Up}
use Rattle.lc_core.specs.declared.up.Up.{Up as UpStore}
use Rattle.lc_core.specs.declared.world.World.{World}
use Rattle.lc_tool.specs.Answers.{Answers, Ends, Finishes, IsStepped}
use Rattle.lc_tool.specs.Memory.{AsksMemory}
use Rattle.lc_tool.specs.Session.{Does}
use Rattle.lc_look.specs.Refused.{merge_refusal}
use Rattle.lc_text.specs.declared.command.Command.{Command}
use Rattle.lc_tool.specs.declared.verdict.Verdict.{Verdict}

module _ {D : Type 0} (a : Ghosts D) where
  -- it is up beside this state and these numbers, whatever its areas are
  abbrev pub IsUpBeside : Setting → World D a → State → Numbers → Type 0
  IsUpBeside m w s x = (up : UpStore D a) × (w.phase ≡ Up up) × FitsUp a m up s x

  -- The two uses of `Fits`: FitsWorld, of areas that keep to the model of a disk, and that one.
  module _ (Fits : Setting → World D a → State → Numbers → Type 0) where
    -- from whatever state and numbers the old one fits to such that the new one fits
    abbrev pub Leads : (Setting → State → Numbers → State → Numbers → Type 0) → World D a → World D a → Type 0
    Leads Goes old new =
        (m : Setting) (s : State) (x : Numbers) → Fits m old s x →
        (after : State) × (next : Numbers) × Goes m s x after next × Fits m new after next

    -- a step
    abbrev pub Follows : World D a → Event → Reply → World D a → Type 0
    Follows old event reply new = (m : Setting) (s : State) (x : Numbers) → Fits m old s x → LeadsTo m event s x reply (Fits m new)

    -- a reservation that is closed where it was made
    abbrev pub FollowsEnd : World D a → ℕ → ℕ → Reply → World D a → Type 0
    FollowsEnd old node thread reply new =
        Leads (λ m s x after next. (mid : State) × (between : Numbers) × Answers m s x (Reserve node thread) reply mid between × Ends m mid between node thread reply after next) old new

    -- steps of one event, until it is answered otherwise than that more is to come
    abbrev pub FollowsAll : World D a → Event → Reply → World D a → Type 0
    FollowsAll old event reply new = Leads (λ m s x after next. Finishes m s x event reply after next) old new

    -- a command, with what a writer held and holds
    abbrev pub Performs : World D a → Command → Option (List ℕ) → Option (List ℕ) → Verdict → World D a → Type 0
    Performs old command held holds verdict new =
        Leads (λ m s x after next. (text : List ℕ) × Does m s x command text verdict after next × Appends held holds text) old new

  -- a store that is down refuses, and stays so
  abbrev pub RefusesDown : World D a → Reply → World D a → Type 0
  RefusesDown old reply new = (g : Geometry) → FitsLife a g None old.phase → (reply ≡ Refused IsDown) × FitsLife a g None new.phase

  -- or it is recovered, until a step is answered otherwise than that more is to come
  abbrev pub RunsRecovery : World D a → Reply → World D a → Type 0
  RunsRecovery old reply new =
      (g : Geometry) → FitsLife a g None old.phase →
      (after : Option Life) × FitsLife a g after new.phase × AnswersOne g None RecoverStep reply after × (IsStepped reply → ⊥)

  -- the command asks for memory
  abbrev pub AsksFor : World D a → Command → Type 0
  AsksFor old command = (m : Setting) (s : State) (x : Numbers) → FitsWorld a m old s x → AsksMemory m s x command

  -- the areas of a store that is down, and of which no step of the recovery is done, read as one whose merge is refused
  pub record IsRefused (w : World D a) (fault : MergeFault) : Type 0 where
    pub geometry : Geometry
    pub areas : List D
    pub down : w.phase ≡ Down (begun geometry areas)
    pub honest : AreHonest a areas
    pub refused : ReadsRefused a geometry areas fault

  -- so is then its recovery, unless a device fails before the merge
  abbrev pub RefusesAll : World D a → Reply → Type 0
  RefusesAll old reply = (fault : MergeFault) → IsRefused old fault → (reply ≡ Refused (merge_refusal fault)) ⊎ (reply ≡ Refused DeviceFault)
