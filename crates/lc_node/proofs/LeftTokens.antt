-- Of a node: the tokens that a cluster leaves.
use Rattle.std.proofs.Common.{◌≡◌, ◌*◌, ◌<◌, length, arith}
use Rattle.lc_disk.specs.declared.area.Area.{Ghosts}
use Rattle.lc_page.specs.PageVector.{entry_at, entry_text}
use Rattle.lc_record.specs.declared.geometry.Geometry.{Geometry}
use Rattle.lc_rest.specs.Parts.{KeepsPages}
use Rattle.lc_rest.specs.declared.segment_part.SegmentPart.{SegmentPart}
use Rattle.lc_segments.specs.LeftBy.{IsSettledPart}

module _ {D : Type 0} (a : Ghosts D) where
  -- a token with as many pages as its segment, whose area has two slots for each, is kept
  pub keeps_pages : (g : Geometry) (part : SegmentPart D) → IsSettledPart a part → length part.token.pages ≡ g.pages → length (a.now part.area) ≡ 2 * 272 * g.pages → KeepsPages a g part
  keeps_pages g part its pages area = record {
    area = area;
    settled = λ page within. (entry_text (entry_at part.token.pages page), its.settled page (let low : page < length part.token.pages = omega (arith, pages, within) in low));
    free = its.free;
  }
