-- What a script prints over any areas of a geometry, also over those of which nothing is known: while the store is down it refuses,
-- stops or recovers; from a recovery up to the next stop each line is that of the machine which begins with what was read, but that
-- a log may show any words; and the status follows from these.
use Rattle.std.specs.Prelude.{◌≡◌, ◌≢◌, ◌⊎◌, ℕ, ◌+◌, Bool, true, false, nat_lt, List, [], ◌∷◌, ◌++◌, length, Option, None, Some, MatchBool, if◌then◌else◌}
use Rattle.std.specs.Io.KnownBytes.{Keeps}
use Rattle.lc_record.specs.declared.record.Record.{Record}
use Rattle.lc_log.specs.LogText.{placed}
use Rattle.lc_record.specs.declared.geometry.Geometry.{Geometry}
use Rattle.lc_model.specs.Refusals.{is_known, is_node}
use Rattle.lc_model.specs.State.{State}
use Rattle.lc_model.specs.declared.event.Event.{Event}
use Rattle.lc_model.specs.declared.event.Event.TheVariants.{RecoverStep}
use Rattle.lc_model.specs.declared.refusal.Refusal.{Refusal}
use Rattle.lc_model.specs.declared.refusal.Refusal.TheVariants.{DeviceFault, Down as IsDown, Unknown}
use Rattle.lc_model.specs.declared.reply.Reply.{Reply}
use Rattle.lc_model.specs.declared.reply.Reply.TheVariants.{Refused}
use Rattle.lc_events.specs.Geometries.{is_delivery}
use Rattle.lc_core.specs.Lives.{AnswersOne, IsBorn, Life}
use Rattle.lc_settled.specs.Numbers.{Numbers}
use Rattle.lc_text.specs.Line.{is_skipped, line_of}
use Rattle.lc_tool.specs.Answers.{IsStepped}
use Rattle.lc_tool.specs.Outcome.{EndsWith, GoesBehind}
use Rattle.lc_text.specs.Lines.{script_lines}
use Rattle.lc_tool.specs.Following.{lines_followed}
use Rattle.lc_tool.specs.Script.{Front, Given, GoesOn, RestOfScript, front_of}
use Rattle.lc_look.specs.Printed.{NoMemory, Adds}
use Rattle.lc_tool.specs.Session.{Does, Says}
use Rattle.lc_text.specs.Text.{no_memory_text, not_understood_text, records_text, refusal_text, too_long_text, words_text}
use Rattle.lc_tool.specs.Verdict.{verdict_of, verdict_on}
use Rattle.lc_text.specs.declared.command.Command.{Command}
use Rattle.lc_text.specs.declared.command.Command.TheVariants.{Step as Asks, Recover, Log, Inspect}
use Rattle.lc_text.specs.declared.command.Line.{Line}
use Rattle.lc_text.specs.declared.command.Line.TheVariants.{Skipped, Command as Commanded, NotUnderstood}
use Rattle.lc_tool.specs.declared.outcome.Outcome.{Outcome}
use Rattle.lc_tool.specs.declared.outcome.Outcome.TheVariants.{Goes, Ends}
use Rattle.lc_tool.specs.declared.verdict.Verdict.{Verdict}
use Rattle.lc_tool.specs.declared.verdict.Verdict.TheVariants.{Done, Faulted}

-- What names something outside of the geometry is refused: as unknown, or because the store is down. Nothing else is unknown,
-- but for a delivery, of which the sender may not have the record.
pub record KeepsTo (g : Geometry) (event : Event) (reply : Reply) : Type 0 where
  pub outside : is_known g event ≡ false → (reply ≡ Refused Unknown) ⊎ (reply ≡ Refused IsDown)
  pub inside : is_known g event ≡ true → is_delivery event ≡ false → reply ≢ Refused Unknown

-- an event of a store that stands so: the reply is one that it may give, and this is how the store stands afterwards
pub record TellsEvent (g : Geometry) (at : Option Life) (event : Event) (reply : Reply) (after : Option Life) : Type 0 where
  pub keeps : KeepsTo g event reply
  pub lives : AnswersOne g at event reply after

-- the line of a refusal
abbrev pub TellsRefusal : Refusal → List ℕ → Verdict → Type 0
TellsRefusal refusal text verdict = (text ≡ refusal_text refusal) × (verdict ≡ verdict_on refusal)

-- the text of something
abbrev pub TellsShown : {A : Type 0} → (A → List ℕ) → List ℕ → Verdict → Type 0
TellsShown {A} text_of text verdict = (shown : A) × (text ≡ text_of shown) × (verdict ≡ Done)

-- of the log of a node, which an area has, and which a device may not read; of no other node
abbrev pub TellsLog : {A : Type 0} → Geometry → ℕ → (A → List ℕ) → List ℕ → Verdict → Type 0
TellsLog g node text_of text verdict = MatchBool (is_node g node)
    (TellsShown text_of text verdict ⊎ TellsRefusal DeviceFault text verdict)
    (TellsRefusal Unknown text verdict)

-- its words
abbrev pub TellsLogged : Geometry → ℕ → List ℕ → Verdict → Type 0
TellsLogged g node text verdict = TellsLog g node words_text text verdict

-- or its records
abbrev pub TellsInspected : Geometry → ℕ → List ℕ → Verdict → Type 0
TellsInspected g node text verdict = TellsLog g node (λ (records : List Record). records_text (placed 0 records)) text verdict

-- a command of a store that is up: as the machine and the numbers do it
abbrev pub TellsUp : Life → Command → List ℕ → Verdict → Option Life → Type 0
TellsUp life command text verdict after =
    (s : State) × (x : Numbers) × Does life.setting life.state life.numbers command text verdict s x
    × (after ≡ Some (record { setting = life.setting; state = s; numbers = x }))

-- of one that is down: it is recovered, step by step, or the line is that of a refusal
abbrev pub TellsDown : Geometry → Command → List ℕ → Verdict → Option Life → Type 0
TellsDown g Recover text verdict after = (reply : Reply) × (IsStepped reply → ⊥) × TellsEvent g None RecoverStep reply after × Says reply text verdict
TellsDown g command text verdict after = TellsRefusal IsDown text verdict × (after ≡ None)

-- of one that stands so
abbrev pub TellsAt : Geometry → Option Life → Command → List ℕ → Verdict → Option Life → Type 0
TellsAt g None command text verdict after = TellsDown g command text verdict after
TellsAt g (Some life) command text verdict after = TellsUp life command text verdict after

-- what a command prints over a store of this geometry that stands so, what becomes of it, and how the store stands
-- then. An event prints the line of its reply, two commands print words or records, and the others do what they do
-- while the store is up or down
abbrev pub TellsCommand : Geometry → Option Life → Command → List ℕ → Verdict → Option Life → Type 0
TellsCommand g at (Asks event) text verdict after = (reply : Reply) × TellsEvent g at event reply after × Says reply text verdict
TellsCommand g at (Log node) text verdict after = TellsLogged g node text verdict × (after ≡ at)
TellsCommand g at (Inspect node) text verdict after = TellsInspected g node text verdict × (after ≡ at)
TellsCommand g at command text verdict after = TellsAt g at command text verdict after

-- the line of this number: the script goes on after it, or it ends with a status
abbrev pub TellsLine : Geometry → Option Life → List ℕ → ℕ → List ℕ → Outcome → Option Life → Type 0
TellsLine g at line number shown (Goes was) after =
    ((line_of line ≡ Skipped) × (shown ≡ []) × (was ≡ false) × (after ≡ at))
    ⊎ ((command : Command) × (verdict : Verdict) × (line_of line ≡ Commanded command) × TellsCommand g at command shown verdict after × GoesBehind verdict was)
TellsLine g at line number shown (Ends status) after =
    (NoMemory shown status × (after ≡ at))
    ⊎ (((line_of line ≡ NotUnderstood) × (shown ≡ not_understood_text number) × (status ≡ 2) × (after ≡ at))
    ⊎ ((command : Command) × (line_of line ≡ Commanded command) × TellsCommand g at command shown Faulted after × (status ≡ 3)))

-- the same after what stands in front of a line
abbrev pub TellsFronted : Front → Geometry → Option Life → List ℕ → ℕ → List ℕ → Outcome → Option Life → Type 0
TellsFronted front g at line number text outcome after =
    ((line_of line ≡ Skipped) × (text ≡ []) × (outcome ≡ Goes false) × (after ≡ at))
    ⊎ ((is_skipped line ≡ false) × ((shown : List ℕ) × (text ≡ front number ++ shown) × TellsLine g at line number shown outcome after))

-- what the later lines print over a store that stands so
abbrev pub Living : Type 1
Living = Option Life → RestOfScript

module _ (front : Front) where
  -- by what the line of this number says: `next` is the same of the later lines
  abbrev pub TellsFrom : Geometry → Living → Option Life → ℕ → Bool → Line → List ℕ → ℕ → Type 0
  TellsFrom g next at number refused Skipped text status = next at refused text status
  TellsFrom g next at number refused NotUnderstood text status = (text ≡ front number ++ not_understood_text number) × (status ≡ 2)
  TellsFrom g next at number refused (Commanded command) text status =
      (shown : List ℕ) × (verdict : Verdict) × (after : Option Life)
      × TellsCommand g at command shown verdict after × GoesOn (next after) refused (front number ++ shown) verdict text status

  -- there may be no memory
  abbrev pub TellsOne : Geometry → Living → Option Life → ℕ → Bool → List ℕ → List ℕ → ℕ → Type 0
  TellsOne g next at number refused line text status =
      ((text ≡ front number ++ no_memory_text) × (status ≡ 1)) ⊎ TellsFrom g next at number refused (line_of line) text status

  -- over a store that stands so, where this is the number of the first of these lines, and whether something was refused before
  abbrev pub TellsLines : Geometry → Option Life → ℕ → Bool → List (List ℕ) → List ℕ → ℕ → Type 0
  TellsLines g at number refused [] text status = (text ≡ []) × (status ≡ (if refused then 1 else 0))
  TellsLines g at number refused (line ∷ lines) text status =
      TellsOne g (λ after was rest end. TellsLines g after (number + 1) was lines rest end) at number refused line text status

  -- the same of lines that are read one by one, of which the last may pass the limit
  abbrev pub TellsComing : Geometry → Living → Option Life → ℕ → Bool → Option (List ℕ) → List ℕ → ℕ → Type 0
  TellsComing g next at number refused None text status = (text ≡ too_long_text) × (status ≡ 2)
  TellsComing g next at number refused (Some line) text status = TellsOne g next at number refused line text status

  abbrev pub TellsFollowed : Geometry → Option Life → ℕ → Bool → List (Option (List ℕ)) → List ℕ → ℕ → Type 0
  TellsFollowed g at number refused [] text status = NoMemory text status ⊎ ((text ≡ []) × (status ≡ (if refused then 1 else 0)))
  TellsFollowed g at number refused (line ∷ lines) text status =
      NoMemory text status ⊎ TellsComing g (λ after was rest end. TellsFollowed g after (number + 1) was lines rest end) at number refused line text status

-- there was no memory, or the line of a refusal
abbrev pub TellsStop : List ℕ → ℕ → Type 0
TellsStop text status = NoMemory text status ⊎ ((reply : Reply) × EndsWith (verdict_of reply) reply text status)

-- the recovery that comes first, with what a writer held and holds: it says nothing, and the store has just come up; or this is the status
abbrev pub TellsOpening : Geometry → Option (List ℕ) → Option (List ℕ) → Option ℕ → Option Life → Type 0
TellsOpening g held holds None after = (life : Life) × (after ≡ Some life) × IsBorn g life × Keeps held holds
TellsOpening g held holds (Some status) after = Adds TellsStop held holds status

-- a script that is read as a whole, unless it is too long
abbrev pub TellsWhole : Front → Geometry → Option Life → List ℕ → List ℕ → ℕ → Type 0
TellsWhole front g at script text status =
    MatchBool (nat_lt 1048576 (length script)) ((text ≡ too_long_text) × (status ≡ 2)) (TellsLines front g at 1 false (script_lines script) text status)

abbrev pub TellsAll : Front → Geometry → Option Life → List ℕ → List ℕ → ℕ → Type 0
TellsAll front g at script text status = NoMemory text status ⊎ TellsWhole front g at script text status

-- read line by line, or as a whole
abbrev pub TellsRead : Geometry → Option Life → Given → List ℕ → ℕ → Type 0
TellsRead g at script text status = MatchBool script.manner.follow
    (TellsFollowed (front_of script.manner.number) g at 1 false (lines_followed script.bytes) text status)
    (TellsWhole (front_of script.manner.number) g at script.bytes text status)

-- after the recovery: there may be no memory for the script
abbrev pub TellsRecovered : Geometry → Option Life → Given → List ℕ → ℕ → Type 0
TellsRecovered g at script text status = NoMemory text status ⊎ TellsRead g at script text status

-- what a script prints over a store that is down, and the status that it ends with: a recovery comes first, and each line is told from
-- what has come up on
abbrev pub TellsScript : Geometry → Given → List ℕ → ℕ → Type 0
TellsScript g script text status = TellsStop text status ⊎ ((life : Life) × IsBorn g life × TellsRead g (Some life) script text status)
