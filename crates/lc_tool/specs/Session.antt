-- What the lines of a script do: each command is one or more steps of the plain machine and of the numbers beside it, and
-- what is printed is the text of its replies.
use Rattle.std.specs.Prelude.{◌≡◌, ℕ, List}
use Rattle.lc_log.specs.LogText.{joined, placed}
use Rattle.lc_model.specs.State.{State, Setting}
use Rattle.lc_model.specs.declared.event.Event.TheVariants.{Reserve, FlushStep, RecoverStep}
use Rattle.lc_model.specs.declared.reply.Reply.{Reply}
use Rattle.lc_model.specs.declared.reply.Reply.TheVariants.{Nothing, Reserved, Reset}
use Rattle.lc_settled.specs.Numbers.{Numbers}
use Rattle.lc_tool.specs.Answers.{Answers, Ends, Finishes}
use Rattle.lc_tool.specs.Shown.{ShowsLog, ShowsPage}
use Rattle.lc_text.specs.Text.{reply_text, closed_text, truncated_text, words_text, records_text}
use Rattle.lc_tool.specs.Truncation.{Truncates}
use Rattle.lc_tool.specs.Verdict.{verdict_of}
use Rattle.lc_text.specs.declared.command.Command.{Command}
use Rattle.lc_text.specs.declared.command.Command.TheVariants.{Step as Asks, End, Flush, Truncate, Recover, Log, Inspect, Show}
use Rattle.lc_tool.specs.declared.verdict.Verdict.{Verdict}

-- the text of a reply, and what became of its command
abbrev pub Says : Reply → List ℕ → Verdict → Type 0
Says reply text verdict = (text ≡ reply_text reply) × (verdict ≡ verdict_of reply)

-- of a reservation that is closed
abbrev pub end_text : Reply → List ℕ
end_text (Reserved place words) = closed_text place words
end_text reply = reply_text reply

-- of a log that is empty, in this round
abbrev pub truncate_text : ℕ → Reply → List ℕ
truncate_text round Reset = truncated_text round
truncate_text round Nothing = truncated_text round
truncate_text round reply = reply_text reply

-- what a command prints, what becomes of it, and the state and the numbers after it
abbrev pub Does : Setting → State → Numbers → Command → List ℕ → Verdict → State → Numbers → Type 0
Does m s x (Asks event) text verdict after next = (reply : Reply) × Answers m s x event reply after next × Says reply text verdict
Does m s x (End node thread) text verdict after next =
    (reply : Reply) × (mid : State) × (between : Numbers) × Answers m s x (Reserve node thread) reply mid between
    × Ends m mid between node thread reply after next × (text ≡ end_text reply) × (verdict ≡ verdict_of reply)
Does m s x (Flush node) text verdict after next = (reply : Reply) × Finishes m s x (FlushStep node) reply after next × Says reply text verdict
Does m s x (Truncate node) text verdict after next =
    (reply : Reply) × Truncates m node s x reply after next × (text ≡ truncate_text (next.round node) reply) × (verdict ≡ verdict_of reply)
Does m s x Recover text verdict after next = (reply : Reply) × Finishes m s x RecoverStep reply after next × Says reply text verdict
Does m s x (Log node) text verdict after next =
    ShowsLog m s x node (λ records. words_text (joined records)) text verdict × (after ≡ s) × (next ≡ x)
Does m s x (Inspect node) text verdict after next =
    ShowsLog m s x node (λ records. records_text (placed 0 records)) text verdict × (after ≡ s) × (next ≡ x)
Does m s x (Show node segment page) text verdict after next = ShowsPage m s x node segment page text verdict × (after ≡ s) × (next ≡ x)
