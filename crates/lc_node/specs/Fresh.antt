-- Of a node: what a segment of a recovered store is, as it comes up at a node.
use Rattle.std.specs.Prelude.{◌≡◌, ℕ, ◌<◌, ◌≤◌, ◌^◌, List, length, map, Option, None, Some}
use Rattle.std.specs.List.{flat_map}
use Rattle.std.specs.Global.{Vec}
use Rattle.lc_record.specs.Marks.{counting}
use Rattle.lc_page.specs.PageVector.{new_entry}
use Rattle.lc_page.specs.declared.page_text.PageText.{PageText}
use Rattle.lc_recover.specs.Recovered.{RecoveredStore, page_of, sequence_of}
use Rattle.lc_token.specs.declared.token.Token.{Token}
use Rattle.lc_segments.specs.SegView.{SegView}
use Rattle.lc_segments.specs.declared.page_area.PageArea.TheVariants.{Serves}
use Rattle.lc_segments.specs.Fresh.{elsewhere_side}

module _ {D : Type 0} where
  -- the pages of a segment, one after another
  abbrev pub segment_bytes : RecoveredStore D → ℕ → List ℕ
  segment_bytes r segment = flat_map (λ page. (page_of r segment page).bytes) (counting 0 r.geometry.pages)

  -- what the disk says of each
  abbrev pub segment_texts : RecoveredStore D → ℕ → List PageText
  segment_texts r segment = map (λ page. (page_of r segment page).text) (counting 0 r.geometry.pages)

  -- the token of a segment has counted all its records, and all of them are on its pages
  abbrev pub fresh_token : RecoveredStore D → ℕ → Token
  fresh_token r segment = record {
    segment = segment;
    seq = sequence_of r segment;
    clean = sequence_of r segment;
    pages = map new_entry (segment_texts r segment);
  }

  -- a segment that gets a token and an area of its pages, if it gets them
  abbrev pub served : Token → Option D → SegView D → SegView D
  served token None side = side
  served token (Some area) side = record side { standing = record side.standing { token = Some token }; pages = Serves area }

  -- a segment of these bytes, twice: it counts on from its number in the store, and nothing is applied, held back or waiting; with
  -- its token on this area, and without both where there is none
  abbrev pub fresh_side : RecoveredStore D → ℕ → Vec ℕ → Vec ℕ → Option D → SegView D
  fresh_side r segment image base area = served (fresh_token r segment) area (elsewhere_side segment (sequence_of r segment) image base)

  -- each page of a segment has 256 bytes, and a sequence of at most the segment's number, which is at most 2^60
  pub record HasWholePages (r : RecoveredStore D) (segment : ℕ) : Type 0 where
    pub small : sequence_of r segment ≤ 2 ^ 60
    pub long : (page : ℕ) → page < r.geometry.pages → length (page_of r segment page).bytes ≡ 256
    pub within : (page : ℕ) → page < r.geometry.pages → (page_of r segment page).text.seq ≤ sequence_of r segment
