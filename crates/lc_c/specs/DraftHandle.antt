-- What a handle owns: the same as a box of a draft, where it holds one.
use base.Fml.{Fml, ftrue}
use base.Stored.{Coded}
use denote.RawPtr.{Ptr}
use Rattle.std.specs.Prelude.{Bool, true, false}
use Rattle.std.specs.Box.Ownership.{box_owns}
use Rattle.std.specs.Global.{Global}
use Rattle.std_heap.specs.contracts.GlobalAllocator.TheImpl.{ghosts}
use Rattle.lc_changes.specs.contracts.draft.Draft.{the_row}

abbrev pub handle_owns : Global → Ptr → the_row.Denot → Fml
handle_owns alloc = box_owns (ghosts.dealloc_token alloc) the_row

abbrev pub owned_if : Bool → Fml → Fml
owned_if true owned = owned
owned_if false owned = ftrue

abbrev pub draft_coded : Coded the_row.Denot
draft_coded = the_row.coded
