-- The store that is made of pieces, and what these are of a cluster at rest.
use Rattle.std.specs.Prelude.{◌≡◌, ℕ, ◌+◌, ◌<◌, ◌≤◌, true, false, List, map, drop, take, length, Option, Some, slice_get}
use Rattle.lc_disk.specs.declared.area.Area.{Ghosts}
use Rattle.lc_record.specs.declared.geometry.Geometry.{Geometry}
use Rattle.lc_record.specs.Record.{spelling}
use Rattle.lc_record.specs.declared.record.Record.{Record}
use Rattle.lc_log.specs.NodeLog.{IsIdle}
use Rattle.lc_model.specs.Refusals.{is_at}
use Rattle.lc_page.specs.Page.{page_in}
use Rattle.lc_page.specs.PageWrite.{SettledIn}
use Rattle.lc_rest.specs.Found.{Found, last_number, machine_disks, machine_setting, machine_state, own_records}
use Rattle.lc_rest.specs.Holder.{IsPlaced, node_of}
use Rattle.lc_token.specs.declared.token.Token.{Token}
use Rattle.lc_token.specs.KnownClean.{known as known_of}
use Rattle.lc_core.specs.Adopting.{IsAdoptedToken}
use Rattle.lc_core.specs.Pages.{RestsAll, areas_of}
use Rattle.lc_rest.specs.Pages.{as_read}
use Rattle.lc_journal.specs.Records.{marks_of}
use Rattle.lc_desk.specs.Slots.{segment_to}
use Rattle.lc_journal.specs.declared.node_piece.NodePiece.{NodePiece}
use Rattle.lc_desk.specs.declared.segment_piece.SegmentPiece.{SegmentPiece}
use Rattle.lc_desk.specs.declared.segment_pieces.SegmentPieces.{SegmentPieces}
use Rattle.lc_core.specs.declared.up.Up.{Up}
use Rattle.lc_core.specs.Pieces.{AreLeftBy, AreMadeNodes}

-- What the pieces are of a cluster at rest

-- a segment's token, wherever it is, and its bytes up to its last number and up to that which is applied elsewhere
pub record IsFoundSegment (f : Found) (segment : ℕ) (piece : SegmentPiece) (token : Option Token) : Type 0 where
  pub placed : IsPlaced piece.holder (f.place segment)
  pub known : node_of piece.holder < f.geometry.nodes
  pub its : Token
  pub there : token ≡ Some its
  pub token_is : IsAdoptedToken f segment its
  pub bytes : piece.bytes.items ≡ segment_to (machine_setting f) (machine_state f) (machine_disks f) segment (last_number f segment)
  pub stable_bytes : piece.stable_bytes.items ≡ segment_to (machine_setting f) (machine_state f) (machine_disks f) segment piece.stable
  pub here : (node : ℕ) → is_at node (f.place segment) ≡ true → f.applied node segment ≡ last_number f segment
  pub elsewhere : (node : ℕ) → is_at node (f.place segment) ≡ false → f.applied node segment ≡ piece.stable

module _ {D : Type 0} (a : Ghosts D) where
  -- all areas of segments have this length
  abbrev pub AreSegments : ℕ → List D → Type 0
  AreSegments len areas = (k : ℕ) (area : D) → slice_get areas k ≡ Some area → length (a.now area) ≡ len

  -- the nodes; the tokens that none of them has, which are on their way; and the areas of the segments, of which no page is being written
  pub record IsMadeUp (g : Geometry) (segments : List SegmentPiece) (tokens : List (Option Token)) (pieces : List (NodePiece D a)) (areas : List D) (up : Up D a) : Type 0 where
    pub geometry : up.running.geometry ≡ g
    pub nodes : AreMadeNodes a g segments tokens pieces up.running.nodes.items
    pub travelling : AreLeftBy g.nodes segments tokens up.running.travelling.items
    pub areas_are : areas_of a up.segments.items ≡ areas
    pub rest : RestsAll a g up.segments.items

  -- the node's log and its records
  pub record IsFoundNode (f : Found) (n : ℕ) (piece : NodePiece D a) : Type 0 where
    pub log : IsIdle a piece.log.area piece.log.end (drop (f.dropped n) (take (f.stable n) (own_records f n)))
    pub honest : a.honest piece.log.area ≡ true
    pub before : piece.records.before ≡ f.dropped n
    pub words : map (λ r. r.words) piece.records.records ≡ map spelling (drop (f.dropped n) (own_records f n))
    pub marks : marks_of piece.records.records ≡ map (λ (r : Record). true) (drop (f.dropped n) (own_records f n))
    pub stable : piece.stable ≡ f.stable n
    pub round : piece.round ≡ f.round n
    pub known : (segment : ℕ) → 1 ≤ segment → segment ≤ f.geometry.segments → known_of piece.known segment ≡ f.known n segment

  -- a segment's area: whatever a stop leaves of each page, it reads as the page that was found
  pub record IsFoundArea (f : Found) (segment : ℕ) (area : D) : Type 0 where
    pub honest : a.honest area ≡ true
    pub settled : (page : ℕ) → page < f.geometry.pages → SettledIn a area page (f.texts segment page)
    pub reads : (page : ℕ) → page < f.geometry.pages → page_in (a.now area) page ≡ as_read (f.pages segment page)

  -- all of it
  pub record AreFound (f : Found) (segments : SegmentPieces) (tokens : List (Option Token)) (pieces : List (NodePiece D a)) (areas : List D) : Type 0 where
    pub geometry : segments.geometry ≡ f.geometry
    pub nodes : (n : ℕ) (piece : NodePiece D a) → slice_get pieces n ≡ Some piece → IsFoundNode f n piece
    pub segments_are : (k : ℕ) (piece : SegmentPiece) (token : Option Token) → slice_get segments.pieces.items k ≡ Some piece → slice_get tokens k ≡ Some token → IsFoundSegment f (k + 1) piece token
    pub areas_are : (k : ℕ) (area : D) → slice_get areas k ≡ Some area → IsFoundArea f (k + 1) area
