-- What contracts see of a segment at a node.
use Rattle.std.specs.Prelude.{ℕ, List, Option}
use Rattle.lc_record.specs.declared.part.Part.{Part}
use Rattle.lc_applied.specs.AppliedParts.{Applied}
use Rattle.lc_token.specs.Standing.{Standing}
use Rattle.lc_token.specs.Backlog.{Backlog}
use Rattle.lc_tx.specs.declared.image.Image.{Image as Picture}
use Rattle.lc_segments.specs.Journey.{Journey}
use Rattle.lc_segments.specs.declared.page_area.PageArea.{PageArea}

-- for how many more runs of the node's own there is room beside the applied parts, and for how many bytes of theirs
pub record RunsRoom : Type 0 where
  pub runs : ℕ
  pub bytes : ℕ

pub record SegView (D : Type 0) : Type 0 where
  pub segment : ℕ
  pub image : Option Picture
  pub base : List ℕ
  pub applied : List Part
  pub room : ℕ
  pub runs_room : RunsRoom
  pub backlog : Backlog
  pub standing : Standing
  pub pages : PageArea D
  pub since : ℕ
  pub waiting : Option (Journey D)

module _ {D : Type 0} where
  -- the applied parts, with the room beside them
  abbrev pub applied_in : SegView D → Applied
  applied_in s = record { parts = s.applied; room = s.room; runs_left = s.runs_room.runs; bytes_left = s.runs_room.bytes }
