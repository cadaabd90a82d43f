-- What is shown of a store: the log of a node, and a page as a node has it.
use Rattle.std.specs.Prelude.{◌≡◌, ◌⊎◌, ℕ, ◌<◌, not, ◌&&◌, List, [], drop, take, Option, Some, None, MatchBool, MatchOption}
use Rattle.std.specs.List.{AllByRecursion}
use Rattle.lc_record.specs.declared.record.Record.{Record}
use Rattle.lc_log.specs.LogText.{IsWhole}
use Rattle.lc_model.specs.Refusals.{is_node, is_page, is_segment, is_up, refuse_if}
use Rattle.lc_model.specs.State.{Phase, Up, DownAt, Setting, State}
use Rattle.lc_model.specs.Stored.{records_of}
use Rattle.lc_model.specs.declared.refusal.Refusal.{Refusal}
use Rattle.lc_model.specs.declared.refusal.Refusal.TheVariants.{DeviceFault, Down as IsDown, Unknown}
use Rattle.lc_core.specs.LogWords.{logged_records}
use Rattle.lc_settled.specs.Numbers.{Numbers, stable_records}
use Rattle.lc_core.specs.Showing.{image_of}
use Rattle.lc_desk.specs.Showing.{page_of}
use Rattle.lc_journal.specs.declared.show_fault.ShowFault.{ShowFault}
use Rattle.lc_journal.specs.declared.show_fault.ShowFault.TheVariants.{Unknown as IsUnknown, DeviceFault as HasFailed, NoMemory}
use Rattle.lc_text.specs.Text.{page_text, refusal_text}
use Rattle.lc_tool.specs.declared.verdict.Verdict.{Verdict}
use Rattle.lc_tool.specs.declared.verdict.Verdict.TheVariants.{Done, Refused, Faulted}

-- the records that a halted node's log has: the stable ones, or these and the group of its flush, or, where a reset was
-- under way, none
abbrev pub AreEither : Setting → State → Numbers → ℕ → List Record → Type 0
AreEither m s x node records =
    (records ≡ stable_records m s x node)
    ⊎ ((records ≡ drop (x.disks.dropped node) (take (s.flush node).taken (records_of m s x.disks node)))
    ⊎ ((0 < x.reset node) × (records ≡ [])))

-- The records that a node's log has. While the store is up they are the acknowledged ones after those that were
-- dropped, from the third step of a flush on with its group, and from the second step of a reset on none. While it is
-- down they are what the stop and the recovery have left.
abbrev pub AreInLog : Phase → Setting → State → Numbers → ℕ → List Record → Type 0
AreInLog Up m s x node records = MatchBool (s.halted node) (AreEither m s x node records) (records ≡ logged_records m s x node)
AreInLog (DownAt cut) m s x node records = AllByRecursion IsWhole records

-- why a log is not shown; want of memory is no refusal
abbrev pub refusal_to : ShowFault → Option Refusal
refusal_to IsUnknown = Some Unknown
refusal_to HasFailed = Some DeviceFault
refusal_to NoMemory = None

-- this text of the records of a node's log, or the line of a refusal: an unknown node, or an area that cannot be read
abbrev pub ShowsLog : Setting → State → Numbers → ℕ → (List Record → List ℕ) → List ℕ → Verdict → Type 0
ShowsLog m s x node text_of text verdict = MatchBool (is_node m.geometry node)
    (((records : List Record) × AreInLog s.phase m s x node records × (text ≡ text_of records) × (verdict ≡ Done))
    ⊎ ((text ≡ refusal_text DeviceFault) × (verdict ≡ Faulted)))
    ((text ≡ refusal_text Unknown) × (verdict ≡ Refused))

-- why no page is shown
abbrev pub page_refusal : Setting → State → ℕ → ℕ → ℕ → Option Refusal
page_refusal m s node segment page =
    refuse_if (not (is_up s.phase)) IsDown
    (refuse_if (not (is_node m.geometry node && is_segment m.geometry segment && is_page m.geometry page)) Unknown
    None)

-- the bytes of the page in the node's image, or the line of a refusal
abbrev pub ShowsPage : Setting → State → Numbers → ℕ → ℕ → ℕ → List ℕ → Verdict → Type 0
ShowsPage m s x node segment page text verdict = MatchOption (page_refusal m s node segment page)
    ((text ≡ page_text (page_of (image_of m s x node segment) page)) × (verdict ≡ Done))
    (λ refusal. (text ≡ refusal_text refusal) × (verdict ≡ Refused))
