-- What the program prints, and the status that it ends with, by what was asked of it.
use Rattle.std.specs.Prelude.{◌≡◌, ℕ, Bool, List, Option, IfSome, string_bytes}
use Rattle.std.specs.Io.KnownBytes.{Appends, Keeps}
use Rattle.lc_record.specs.declared.geometry.Geometry.{Geometry}
use Rattle.lc_model.specs.Recovered.{zero_content}
use Rattle.lc_model.specs.State.{first_state}
use Rattle.lc_settled.specs.Numbers.{Numbers}
use Rattle.lc_tool.specs.CheckedJson.{TellsCheck}
use Rattle.lc_tool.specs.Copied.{TellsCopied}
use Rattle.lc_tool.specs.Files.{TellsInit, TellsInspection}
use Rattle.lc_look.specs.Recovers.{TellsRecovery}
use Rattle.lc_tool.specs.Script.{Given, RunsScript, given_as}
use Rattle.lc_look.specs.Printed.{Adds}
use Rattle.lc_tool.specs.Tells.{TellsScript}
use Rattle.lc_tool.specs.declared.line_list.TheConstants.{LINE_LIST}
use Rattle.lc_tool.specs.Found.{TellsDrawn, AnswersSized, TellsDumped}
use Rattle.lc_words.specs.declared.run_store.RunStore.TheVariants.{New, InFolder}
use Rattle.lc_words.specs.declared.asked.Asked.{Asked}
use Rattle.lc_words.specs.declared.asked.Asked.TheVariants.{Run, Init, Recover, Check, Dump, Draw, Copy, Inspect, Lines, Help, Version, Faulty, NotUnderstood}

-- a script on a new store of zeros: what the plain machine allows from its first state on, with no numbers used
abbrev pub RunsNew : Geometry → Given → Option (List ℕ) → Option (List ℕ) → ℕ → Type 0
RunsNew g script held holds status = (x : Numbers) → x.disks.numbers ≡ (λ segment. 0) → x.steps ≡ 0
    → Adds (RunsScript (record { geometry = g; start = zero_content g }) (first_state g) x script) held holds status

-- the text, with status 0
abbrev pub PrintsHelp : List ℕ → Option (List ℕ) → Option (List ℕ) → ℕ → Type 0
PrintsHelp text held holds status = (status ≡ 0) × Appends held holds text

-- a script with these bytes, by the flags
abbrev pub given : Bool → Bool → List ℕ → Given
given follow number = given_as (record { follow = follow; number = number })

-- with what is to be read, and what a writer held and holds
abbrev pub AnswersAsked : Asked → Option (List ℕ) → Option (List ℕ) → Option (List ℕ) → ℕ → Type 0
AnswersAsked (Run (New g) follow number) input held holds status = IfSome input (λ bytes. RunsNew g (given follow number bytes) held holds status)
AnswersAsked (Run (InFolder folder size) follow number) input held holds status =
    IfSome input (λ bytes. AnswersSized size (λ g. Adds (TellsScript g (given follow number bytes)) held holds status) held holds status)
AnswersAsked (Init folder g) input held holds status = Adds TellsInit held holds status
AnswersAsked (Recover folder size) input held holds status = AnswersSized size (λ g. Adds (TellsRecovery g) held holds status) held holds status
AnswersAsked (Check folder size json) input held holds status = Adds (TellsCheck json size) held holds status
AnswersAsked (Dump folder segment page) input held holds status = Adds (TellsDumped segment page) held holds status
AnswersAsked (Draw folder) input held holds status = Adds TellsDrawn held holds status
AnswersAsked (Copy folder to wanted) input held holds status = Adds TellsCopied held holds status
AnswersAsked (Inspect file reverse) input held holds status = TellsInspection reverse held holds status
AnswersAsked Lines input held holds status = PrintsHelp LINE_LIST.now held holds status
AnswersAsked (Help text) input held holds status = PrintsHelp (string_bytes text) held holds status
AnswersAsked (Version text) input held holds status = PrintsHelp (string_bytes text) held holds status
AnswersAsked (Faulty reason) input held holds status = (status ≡ 2) × Keeps held holds
AnswersAsked NotUnderstood input held holds status = (status ≡ 2) × Keeps held holds
