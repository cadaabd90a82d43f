-- What a script prints over a store, and the status that it ends with.
use Rattle.std.specs.Prelude.{◌≡◌, ◌⊎◌, ℕ, ◌+◌, Bool, true, false, nat_lt, List, [], ◌∷◌, ◌++◌, length, Option, Some, None, MatchBool, if◌then◌else◌}
use Rattle.lc_model.specs.State.{State, Setting}
use Rattle.lc_model.specs.declared.event.Event.TheVariants.{RecoverStep}
use Rattle.lc_model.specs.declared.reply.Reply.{Reply}
use Rattle.lc_settled.specs.Numbers.{Numbers}
use Rattle.lc_text.specs.Lines.{script_lines}
use Rattle.lc_look.specs.Printed.{NoMemory}
use Rattle.lc_tool.specs.Answers.{Finishes}
use Rattle.lc_tool.specs.Following.{lines_followed}
use Rattle.lc_tool.specs.Memory.{LineAsksMemory}
use Rattle.lc_tool.specs.declared.manner.Manner.{Manner}
use Rattle.lc_text.specs.Line.{line_of}
use Rattle.lc_tool.specs.Session.{Does}
use Rattle.lc_text.specs.Text.{reply_text, not_understood_text, too_long_text, no_memory_text, line_number_text}
use Rattle.lc_tool.specs.Verdict.{verdict_of}
use Rattle.lc_text.specs.declared.command.Line.{Line}
use Rattle.lc_text.specs.declared.command.Line.TheVariants.{Skipped, Command as Commanded, NotUnderstood}
use Rattle.lc_tool.specs.declared.verdict.Verdict.{Verdict}
use Rattle.lc_tool.specs.declared.verdict.Verdict.TheVariants.{Done, Refused, Faulted}

-- what the later lines print: whether something was refused before, and the text and the status then
abbrev pub RestOfScript : Type 1
RestOfScript = Bool → List ℕ → ℕ → Type 0

-- the same from a state and numbers on
abbrev pub Going : Type 1
Going = State → Numbers → RestOfScript

-- after the text of a command: where a device has failed nothing more is done
abbrev pub GoesOn : RestOfScript → Bool → List ℕ → Verdict → List ℕ → ℕ → Type 0
GoesOn next refused shown Done text status = (rest : List ℕ) × (text ≡ shown ++ rest) × next refused rest status
GoesOn next refused shown Refused text status = (rest : List ℕ) × (text ≡ shown ++ rest) × next true rest status
GoesOn next refused shown Faulted text status = (text ≡ shown) × (status ≡ 3)

-- what stands in front of what a line prints, by the number of the line
abbrev pub Front : Type 0
Front = ℕ → List ℕ

-- its number, where that is asked for
abbrev pub front_of : Bool → Front
front_of true number = line_number_text number
front_of false number = []

module _ (front : Front) where
  -- What the rest of a script prints and which status it ends with, by what a line says: `next` is the same of the
  -- later lines.
  abbrev pub Prints : Going → Setting → State → Numbers → ℕ → Bool → Line → List ℕ → ℕ → Type 0
  Prints next m s x number refused Skipped text status = next s x refused text status
  Prints next m s x number refused NotUnderstood text status = (text ≡ front number ++ not_understood_text number) × (status ≡ 2)
  Prints next m s x number refused (Commanded command) text status =
      (shown : List ℕ) × (verdict : Verdict) × (after : State) × (later : Numbers)
      × Does m s x command shown verdict after later × GoesOn (next after later) refused (front number ++ shown) verdict text status

  -- a line that asks for memory may get none; else it is done
  abbrev pub RunsLine : Going → Setting → State → Numbers → ℕ → Bool → List ℕ → List ℕ → ℕ → Type 0
  RunsLine next m s x number refused line text status =
      (LineAsksMemory m s x line × (text ≡ front number ++ no_memory_text) × (status ≡ 1)) ⊎ Prints next m s x number refused (line_of line) text status

  -- from a state and numbers on, where this is the number of the first of these lines, and whether something was refused
  -- before
  abbrev pub Runs : Setting → State → Numbers → ℕ → Bool → List (List ℕ) → List ℕ → ℕ → Type 0
  Runs m s x number refused [] text status = (text ≡ []) × (status ≡ (if refused then 1 else 0))
  Runs m s x number refused (line ∷ lines) text status =
      RunsLine (λ after later was rest end. Runs m after later (number + 1) was lines rest end) m s x number refused line text status

  -- by a line that was read, or by one that passes the limit of a script: `next` is the same of the later lines
  abbrev pub Comes : Going → Setting → State → Numbers → ℕ → Bool → Option (List ℕ) → List ℕ → ℕ → Type 0
  Comes next m s x number refused None text status = (text ≡ too_long_text) × (status ≡ 2)
  Comes next m s x number refused (Some line) text status = RunsLine next m s x number refused line text status

  -- the same of lines that are read one by one, each of which may want memory
  abbrev pub Follows : Setting → State → Numbers → ℕ → Bool → List (Option (List ℕ)) → List ℕ → ℕ → Type 0
  Follows m s x number refused [] text status = NoMemory text status ⊎ ((text ≡ []) × (status ≡ (if refused then 1 else 0)))
  Follows m s x number refused (line ∷ lines) text status =
      NoMemory text status
      ⊎ Comes (λ after later was rest end. Follows m after later (number + 1) was lines rest end) m s x number refused line text status

-- a script as it is run: its bytes, and in which manner
pub record Given : Type 0 where
  pub manner : Manner
  pub bytes : List ℕ

abbrev pub given_as : Manner → List ℕ → Given
given_as manner bytes = record { manner = manner; bytes = bytes }

-- read as a whole, unless it is too long
abbrev pub RunsWhole : Front → Setting → State → Numbers → List ℕ → List ℕ → ℕ → Type 0
RunsWhole front m s x script text status = MatchBool (nat_lt 1048576 (length script))
    ((text ≡ too_long_text) × (status ≡ 2))
    (Runs front m s x 1 false (script_lines script) text status)

-- read line by line, or as a whole
abbrev pub RunsRead : Setting → State → Numbers → Given → List ℕ → ℕ → Type 0
RunsRead m s x script text status = MatchBool script.manner.follow
    (Follows (front_of script.manner.number) m s x 1 false (lines_followed script.bytes) text status)
    (RunsWhole (front_of script.manner.number) m s x script.bytes text status)

-- after the recovery that comes first, which says nothing where it is done: where it is refused nothing more is done
abbrev pub Opens : Setting → State → Numbers → Reply → Verdict → Given → List ℕ → ℕ → Type 0
Opens m s x reply Done script text status = RunsRead m s x script text status
Opens m s x reply Refused script text status = (text ≡ reply_text reply) × (status ≡ 1)
Opens m s x reply Faulted script text status = (text ≡ reply_text reply) × (status ≡ 3)

-- what a script prints, and the status that it ends with: the store is recovered, and then each line is done; there may be
-- no memory for the recovery or for the script
abbrev pub RunsScript : Setting → State → Numbers → Given → List ℕ → ℕ → Type 0
RunsScript m s x script text status =
    NoMemory text status
    ⊎ ((reply : Reply) × (after : State) × (next : Numbers) × Finishes m s x RecoverStep reply after next
    × Opens m after next reply (verdict_of reply) script text status)
