-- Of a segment: what a truncation does to the segments that it holds, and to the log.
use Rattle.std.specs.Prelude.{◌≡◌, ◌⊎◌, ◌+◌, [], Some}
use Rattle.lc_disk.specs.declared.area.Area.{Ghosts}
use Rattle.lc_token.specs.declared.token.Token.{Token}
use Rattle.lc_segments.specs.Pages.{AreWritten, HaveBytes}
use Rattle.lc_applied.specs.AppliedParts.{laid_parts}
use Rattle.lc_segments.specs.SegView.{SegView}
use Rattle.lc_segments.specs.declared.node_fault.NodeFault.{NodeFault}
use Rattle.lc_segments.specs.declared.node_fault.NodeFault.TheVariants.{DeviceFault, Halted}
use Rattle.lc_segments.specs.declared.page_area.PageArea.TheVariants.{Elsewhere, Serves, Failed}

module _ {D : Type 0} where
  -- the applied records are folded into the base; the pages and their token may be others, and there may be more room
  abbrev pub IsFolded : SegView D → SegView D → Type 0
  IsFolded old new = new ≡ record old { base = laid_parts old.applied old.base; applied = []; runs_room = new.runs_room; standing = new.standing; pages = new.pages }

module _ {D : Type 0} (a : Ghosts D) where
  -- no area is here, or each dirty page was written to it with the segment's bytes, which the token notes
  abbrev pub WritesPages : SegView D → SegView D → Type 0
  WritesPages old new =
      IsFolded old new
      × (((old.pages ≡ Elsewhere) × (new.pages ≡ Elsewhere) × (new.standing ≡ old.standing))
      ⊎ ((before : D) × (after : D) × (t : Token) × (u : Token) × (old.pages ≡ Serves before) × (new.pages ≡ Serves after)
      × (old.standing.token ≡ Some t) × (new.standing ≡ record old.standing { token = Some u }) × AreWritten t u × HaveBytes a after t new.base))

  -- a call of the area failed before, and nothing has changed but what is folded; or one fails now
  abbrev pub FailsPages : SegView D → NodeFault → SegView D → Type 0
  FailsPages old fault new =
      IsFolded old new × (new.standing ≡ old.standing)
      × (((fault ≡ Halted) × ((area : D) × (old.pages ≡ Failed area) × (new.pages ≡ Failed area)))
      ⊎ ((fault ≡ DeviceFault) × ((before : D) × (after : D) × (old.pages ≡ Serves before) × (new.pages ≡ Failed after) × (a.failures after ≡ a.failures before + 1))))
