-- What keeps to a geometry: over a store of any areas, whatever it stands beside.
use Rattle.std.specs.Prelude.{◌≡◌, ◌⊎◌, ◌&&◌, ℕ, List, Option, None, Some, MatchBool}
use Rattle.lc_record.specs.declared.geometry.Geometry.{Geometry}
use Rattle.lc_model.specs.Refusals.{is_node, is_page, is_segment}
use Rattle.lc_model.specs.declared.event.Event.TheVariants.{FlushStep, RecoverStep, Reserve}
use Rattle.lc_model.specs.declared.refusal.Refusal.TheVariants.{Down as IsDown, Unknown}
use Rattle.lc_model.specs.declared.reply.Reply.{Reply}
use Rattle.lc_core.specs.Lives.{Life}
use Rattle.lc_text.specs.Text.{page_text}
use Rattle.lc_text.specs.declared.command.Command.{Command}
use Rattle.lc_text.specs.declared.command.Command.TheVariants.{Step as Asks, End, Flush, Truncate, Recover, Log, Inspect, Show}
use Rattle.lc_tool.specs.Session.{Says, end_text, truncate_text}
use Rattle.lc_tool.specs.Tells.{KeepsTo, TellsInspected, TellsLogged, TellsRefusal, TellsShown}
use Rattle.lc_tool.specs.Verdict.{verdict_of}
use Rattle.lc_tool.specs.declared.verdict.Verdict.{Verdict}

-- the life is one of this geometry
abbrev pub IsOf : Geometry → Option Life → Type 0
IsOf g None = Unit {0}
IsOf g (Some life) = life.setting.geometry ≡ g

-- the bytes of a page that the geometry has; of no other, and only while the store is up
abbrev pub KeepsPage : Geometry → ℕ → ℕ → ℕ → List ℕ → Verdict → Type 0
KeepsPage g node segment page text verdict =
    MatchBool (is_node g node && is_segment g segment && is_page g page) (TellsShown page_text text verdict) (TellsRefusal Unknown text verdict)
    ⊎ TellsRefusal IsDown text verdict

-- the text of a reply that keeps to the geometry, or of what the geometry has
abbrev pub KeepsCommand : Geometry → Command → List ℕ → Verdict → Type 0
KeepsCommand g (Asks event) text verdict = (reply : Reply) × KeepsTo g event reply × Says reply text verdict
KeepsCommand g (End node thread) text verdict = (reply : Reply) × KeepsTo g (Reserve node thread) reply × (text ≡ end_text reply) × (verdict ≡ verdict_of reply)
KeepsCommand g (Flush node) text verdict = (reply : Reply) × KeepsTo g (FlushStep node) reply × Says reply text verdict
KeepsCommand g (Truncate node) text verdict =
    (reply : Reply) × (round : ℕ) × KeepsTo g (FlushStep node) reply × (text ≡ truncate_text round reply) × (verdict ≡ verdict_of reply)
KeepsCommand g Recover text verdict = (reply : Reply) × KeepsTo g RecoverStep reply × Says reply text verdict
KeepsCommand g (Log node) text verdict = TellsLogged g node text verdict
KeepsCommand g (Inspect node) text verdict = TellsInspected g node text verdict
KeepsCommand g (Show node segment page) text verdict = KeepsPage g node segment page text verdict
