-- What a line did, and what it printed.
use Rattle.std.specs.Prelude.{◌≡◌, ◌⊎◌, ℕ, Bool, true, false, List, [], ◌++◌, Option, None, Some, if◌then◌else◌}
use Rattle.std.specs.Io.KnownBytes.{Appends, Keeps}
use Rattle.lc_disk.specs.declared.area.Area.{Ghosts}
use Rattle.lc_model.specs.Merge.{MergeFault}
use Rattle.lc_model.specs.State.{Setting, State}
use Rattle.lc_model.specs.declared.event.Event.TheVariants.{RecoverStep}
use Rattle.lc_model.specs.declared.reply.Reply.{Reply}
use Rattle.lc_settled.specs.Numbers.{Numbers}
use Rattle.lc_core.specs.World.{FitsWorld}
use Rattle.lc_core.specs.declared.world.World.{World}
use Rattle.lc_tool.specs.Memory.{LineAsksMemory}
use Rattle.lc_tool.specs.Answers.{Finishes}
use Rattle.lc_tool.specs.Fits.{Leads, IsRefused}
use Rattle.lc_text.specs.Line.{is_skipped, line_of}
use Rattle.lc_text.specs.Lines.{script_lines}
use Rattle.lc_tool.specs.Following.{lines_followed}
use Rattle.lc_tool.specs.Script.{Follows, Front, Given, Runs, RunsRead, RunsWhole}
use Rattle.lc_look.specs.Printed.{NoMemory, Adds}
use Rattle.lc_tool.specs.Session.{Does}
use Rattle.lc_look.specs.Refused.{RefusesStore}
use Rattle.lc_text.specs.Text.{not_understood_text, reply_text}
use Rattle.lc_tool.specs.Verdict.{verdict_of}
use Rattle.lc_text.specs.declared.command.Command.{Command}
use Rattle.lc_text.specs.declared.command.Line.TheVariants.{Skipped, Command as Commanded, NotUnderstood}
use Rattle.lc_tool.specs.declared.outcome.Outcome.{Outcome}
use Rattle.lc_tool.specs.declared.outcome.Outcome.TheVariants.{Goes, Ends}
use Rattle.lc_tool.specs.declared.verdict.Verdict.{Verdict}
use Rattle.lc_tool.specs.declared.verdict.Verdict.TheVariants.{Done, Refused, Faulted}

-- the script goes on after the command, which was refused or not
abbrev pub GoesBehind : Verdict → Bool → Type 0
GoesBehind Done was = was ≡ false
GoesBehind Refused was = was ≡ true
GoesBehind Faulted was = ⊥

-- the line's command was done
pub record IsDone (m : Setting) (s : State) (x : Numbers) (line shown : List ℕ) (verdict : Verdict) (after : State) (next : Numbers) : Type 0 where
  pub command : Command
  pub read : line_of line ≡ Commanded command
  pub done : Does m s x command shown verdict after next

-- the line was skipped, or its command was done
abbrev pub Passes : Setting → State → Numbers → List ℕ → List ℕ → Bool → State → Numbers → Type 0
Passes m s x line shown was after next =
    ((line_of line ≡ Skipped) × (shown ≡ []) × (was ≡ false) × (after ≡ s) × (next ≡ x))
    ⊎ ((verdict : Verdict) × IsDone m s x line shown verdict after next × GoesBehind verdict was)

-- what a line prints after what stands in front of it; a line that is skipped prints nothing
abbrev pub fronted : Front → ℕ → List ℕ → List ℕ
fronted front number line = if is_skipped line then [] else front number

-- there was no memory for a line that asks for some, the line was not understood, or a device failed at its command
abbrev pub Breaks : Setting → State → Numbers → List ℕ → ℕ → List ℕ → ℕ → Type 0
Breaks m s x line number shown status =
    (LineAsksMemory m s x line × NoMemory shown status)
    ⊎ (((line_of line ≡ NotUnderstood) × (shown ≡ not_understood_text number) × (status ≡ 2))
    ⊎ ((after : State) × (next : Numbers) × IsDone m s x line shown Faulted after next × (status ≡ 3)))

-- the recovery came to its end
abbrev pub IsRecovered : Setting → State → Numbers → State → Numbers → Type 0
IsRecovered m s x after next = (reply : Reply) × Finishes m s x RecoverStep reply after next × (verdict_of reply ≡ Done)

-- the line of a reply that ends the script, and the status
abbrev pub EndsWith : Verdict → Reply → List ℕ → ℕ → Type 0
EndsWith Done reply text status = ⊥
EndsWith Refused reply text status = (text ≡ reply_text reply) × (status ≡ 1)
EndsWith Faulted reply text status = (text ≡ reply_text reply) × (status ≡ 3)

-- it was refused, or there was no memory
abbrev pub IsGivenUp : Setting → State → Numbers → List ℕ → ℕ → Type 0
IsGivenUp m s x text status =
    NoMemory text status
    ⊎ ((reply : Reply) × (after : State) × (next : Numbers) × Finishes m s x RecoverStep reply after next × EndsWith (verdict_of reply) reply text status)

module _ {D : Type 0} (a : Ghosts D) where
  -- with what a writer held and holds
  abbrev pub LeavesLine : World D a → List ℕ → ℕ → Option (List ℕ) → Option (List ℕ) → Outcome → World D a → Type 0
  LeavesLine old line number held holds (Goes was) new =
      Leads a (FitsWorld a) (λ m s x after next. (shown : List ℕ) × Passes m s x line shown was after next × Appends held holds shown) old new
  LeavesLine old line number held holds (Ends status) new =
      (m : Setting) (s : State) (x : Numbers) → FitsWorld a m old s x → (shown : List ℕ) × Breaks m s x line number shown status × Appends held holds shown

  -- so does a line in front of which that stands
  abbrev pub LeavesFronted : Front → World D a → List ℕ → ℕ → Option (List ℕ) → Option (List ℕ) → Outcome → World D a → Type 0
  LeavesFronted front old line number held holds (Goes was) new =
      Leads a (FitsWorld a) (λ m s x after next. (shown : List ℕ) × Passes m s x line shown was after next × Appends held holds (fronted front number line ++ shown)) old new
  LeavesFronted front old line number held holds (Ends status) new =
      (is_skipped line ≡ false)
      × ((m : Setting) (s : State) (x : Numbers) → FitsWorld a m old s x → (shown : List ℕ) × Breaks m s x line number shown status × Appends held holds (front number ++ shown))

  -- all lines, from this store on
  abbrev pub RunsLines : Front → World D a → List ℕ → Option (List ℕ) → Option (List ℕ) → ℕ → Type 0
  RunsLines front old script held holds status =
      (m : Setting) (s : State) (x : Numbers) → FitsWorld a m old s x →
      (text : List ℕ) × Runs front m s x 1 false (script_lines script) text status × Appends held holds text

  -- read as a whole, or one by one
  abbrev pub RunsAll : Front → World D a → List ℕ → Option (List ℕ) → Option (List ℕ) → ℕ → Type 0
  RunsAll front old script held holds status =
      (m : Setting) (s : State) (x : Numbers) → FitsWorld a m old s x → Adds (λ text end. NoMemory text end ⊎ RunsWhole front m s x script text end) held holds status

  abbrev pub FollowsLines : Front → World D a → List ℕ → Option (List ℕ) → Option (List ℕ) → ℕ → Type 0
  FollowsLines front old script held holds status =
      (m : Setting) (s : State) (x : Numbers) → FitsWorld a m old s x → Adds (Follows front m s x 1 false (lines_followed script)) held holds status

  -- the script, on a store that is recovered; there may be no memory for it
  abbrev pub RunsRecovered : World D a → Given → Option (List ℕ) → Option (List ℕ) → ℕ → Type 0
  RunsRecovered old script held holds status =
      (m : Setting) (s : State) (x : Numbers) → FitsWorld a m old s x →
      Adds (λ text end. NoMemory text end ⊎ RunsRead m s x script text end) held holds status

  -- the recovery that comes first: the store goes on after it, or this is the status
  abbrev pub OpensStore : World D a → Option (List ℕ) → Option (List ℕ) → Option ℕ → World D a → Type 0
  OpensStore old held holds None new = Leads a (FitsWorld a) IsRecovered old new × Keeps held holds
  OpensStore old held holds (Some status) new =
      (m : Setting) (s : State) (x : Numbers) → FitsWorld a m old s x → Adds (IsGivenUp m s x) held holds status

  -- where the merge is refused it is not done
  abbrev pub RefusesFirst : World D a → Option (List ℕ) → Option (List ℕ) → Option ℕ → Type 0
  RefusesFirst old held holds None = (fault : MergeFault) → IsRefused a old fault → ⊥
  RefusesFirst old held holds (Some status) = (fault : MergeFault) → IsRefused a old fault → Adds (RefusesStore fault) held holds status
