-- Of a desk: what comes up after a recovery.
use Rattle.std.specs.Prelude.{◌≡◌, ℕ, ◌%◌, ◌==◌, List, map, Some, None, if◌then◌else◌}
use Rattle.std.specs.List.{flat_map}
use Rattle.lc_record.specs.Marks.{counting}
use Rattle.lc_page.specs.PageVector.{new_entry}
use Rattle.lc_recover.specs.Recovered.{RecoveredStore, page_of, sequence_of}
use Rattle.lc_token.specs.Backlog.{fresh}
use Rattle.lc_token.specs.Standing.{Standing}
use Rattle.lc_token.specs.declared.token.Token.{Token}
use Rattle.lc_tx.specs.declared.holders.Holders.TheVariants.{Free as Unheld}
use Rattle.lc_desk.specs.declared.segment_copy.SegmentCopy.{SegmentCopy}

module _ {D : Type 0} where
  -- the pages of a segment, one after another
  abbrev pub segment_bytes : RecoveredStore D → ℕ → List ℕ
  segment_bytes r segment = flat_map (λ page. (page_of r segment page).bytes) (counting 0 r.geometry.pages)

  -- the token of a segment has counted all its records, and all of them are on its pages
  abbrev pub fresh_token : RecoveredStore D → ℕ → Token
  fresh_token r segment = record {
    segment = segment;
    seq = sequence_of r segment;
    clean = sequence_of r segment;
    pages = map (λ page. new_entry (page_of r segment page).text) (counting 0 r.geometry.pages);
  }

  -- it stands at the node that is the rest of its segment by their number
  abbrev pub fresh_standing : RecoveredStore D → ℕ → ℕ → Standing
  fresh_standing r node segment = record { segment = segment; token = if segment % r.geometry.nodes == node then Some (fresh_token r segment) else None }

  -- a segment at a node: its bytes, which no transaction holds, and no part of it from a peer
  pub record IsFreshSlot (r : RecoveredStore D) (node segment : ℕ) (slot : SegmentCopy) : Type 0 where
    pub bytes : slot.image.bytes.items ≡ segment_bytes r segment
    pub holders : slot.image.holders ≡ Unheld
    pub token : slot.token ≡ fresh_standing r node segment
    pub parts : slot.parts ≡ fresh segment (sequence_of r segment)
