-- What the type of a segment at a node keeps.
use Rattle.std.specs.Prelude.{◌≡◌, ℕ, ◌-◌, ◌^◌, ◌≤◌, min, List, Option, Some, None, IsSome, length}
use Rattle.std.specs.Option.{ForSome}
use Rattle.lc_disk.specs.declared.area.Area.{Ghosts}
use Rattle.lc_token.specs.declared.token.Token.{Token}
use Rattle.lc_tx.specs.declared.holders.Holders.TheVariants.{Free}
use Rattle.lc_segments.specs.Growing.{parts_size}
use Rattle.lc_segments.specs.Pages.{FitsToken}
use Rattle.lc_applied.specs.AppliedParts.{laid_parts}
use Rattle.lc_segments.specs.SegView.{SegView}
use Rattle.lc_segments.specs.declared.page_area.PageArea.{PageArea}
use Rattle.lc_segments.specs.declared.page_area.PageArea.TheVariants.{Elsewhere, Serves, Failed}
use Rattle.lc_segments.specs.declared.seg_side.SegSide.TheInside.{Inside}

module _ {D : Type 0} where
  abbrev pub seg_view : Inside D → SegView D
  seg_view s = record { segment = s.segment; image = s.image; base = s.base.bytes.items; applied = s.applied.parts; room = s.applied.room; runs_room = record { runs = s.applied.runs_left; bytes = s.applied.bytes_left }; backlog = s.hold_back; standing = s.token; pages = s.pages; since = s.since; waiting = s.waiting }

module _ {D : Type 0} (a : Ghosts D) where
  -- the area and the token are here, or neither is; until a call of the area failed, the pages stand as the token says, and
  -- those that were written under this number or a later one have these bytes
  abbrev pub FitsArea : ℕ → PageArea D → Option Token → List ℕ → Type 0
  FitsArea since Elsewhere token bytes = token ≡ None
  FitsArea since (Serves area) None bytes = ⊥
  FitsArea since (Serves area) (Some token) bytes = FitsToken a since area token bytes
  FitsArea since (Failed area) token bytes = IsSome token

  pub record IsSegSide (s : Inside D) : Type 0 where
    pub shows : ForSome s.image (λ image. (image.bytes.items ≡ laid_parts s.applied.parts s.base.bytes.items) × (image.holders ≡ Free))
    pub of_token : s.token.segment ≡ s.segment
    pub of_hold_back : s.hold_back.segment ≡ s.segment
    pub first : 1 ≤ s.segment
    pub last : s.segment ≤ 16
    pub all_stored : s.stored ≡ min (2 ^ 64 - 1) (parts_size s.applied.parts)
    pub short : length s.base.bytes.items ≤ 262144
    pub all_applied : ForSome s.token.token (λ t. t.seq ≡ s.hold_back.applied)
    pub few_pages : ForSome s.token.token (λ t. length t.pages ≤ 1024)
    pub fits_area : FitsArea s.since s.pages s.token.token (laid_parts s.applied.parts s.base.bytes.items)
