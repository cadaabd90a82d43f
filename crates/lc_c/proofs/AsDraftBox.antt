-- A handle and its parts own what a box at the same types owns.
use mir.Syntax.{impl, tnil, dnil}
use mathlib.Core.List.{[]}
use denote.Signature.{Slot, plain}
use Rattle.std_alloc.proofs.BoxSteps.Form.{Bx}
use Rattle.std_heap.specs.contracts.Global as Heap
use Rattle.std_heap.specs.contracts.GlobalAllocator.TheImpl.{ghosts, dict}
use Rattle.std_heap.proofs.Global.TheLaws as heap
use Rattle.lc_changes.specs.contracts.draft.Draft as Draft
use Rattle.lc_changes.proofs.draft.Draft.TheLaws as draft
use Rattle.lc_c.specs.contracts.box_parts.BoxParts as Parts
use Rattle.lc_c.specs.contracts.draft_handle.DraftHandle as DraftHandle

abbrev pub E : Bx
E = record { row = Draft.the_row; laws = draft.the_row_laws; al = record { row = Heap.the_row; laws = heap.the_row_laws; g = ghosts; d = dict; drops = impl [] tnil dnil } }

abbrev pub FromParts : Slot 0
FromParts = plain (λ _. Parts.the_row Draft.the_row Heap.the_row ghosts)

abbrev pub FromHandle : Slot 0
FromHandle = plain (λ _. DraftHandle.the_row)
