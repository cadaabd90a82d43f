-- What is read of the parts of a cluster at rest, what is tested of it, and the part whose test fails first.
use Rattle.std.specs.Prelude.{◌≡◌, ◌⊎◌, ℕ, ◌+◌, ◌-◌, ◌<◌, ◌≤◌, List, [], All, drop, take, length, slice_get, slice_index_or, Some}
use Rattle.std.specs.List.{flat_map}
use Rattle.lc_disk.specs.declared.area.Area.{Ghosts}
use Rattle.lc_model.specs.State.{Travelling}
use Rattle.lc_record.specs.declared.geometry.Geometry.{Geometry}
use Rattle.lc_record.specs.declared.record.Record.{Record}
use Rattle.lc_rest.specs.Holder.{IsPlaced, node_of}
use Rattle.lc_rest.specs.LogTest.{IsOwn}
use Rattle.lc_rest.specs.Merge.{AreTurns, IsStuck, number_at, times}
use Rattle.lc_rest.specs.NumbersTest.{AreNumbered}
use Rattle.lc_rest.specs.Passed.{Read, log_of, merged}
use Rattle.lc_rest.specs.Replay.{AreBytes, IsReplay, bytes_above, bytes_after}
use Rattle.lc_rest.specs.TokenTest.{IsKeptToken, count_on}
use Rattle.lc_token.specs.KnownClean.{known as known_of}
use Rattle.lc_tx.specs.declared.image.Image.{Image as Picture}
use Rattle.lc_rest.specs.Parts.{AreSpelled}
use Rattle.lc_rest.specs.declared.node_part.NodePart.{NodePart}
use Rattle.lc_rest.specs.declared.cluster_part.ClusterPart.{ClusterPart}
use Rattle.lc_rest.specs.declared.cluster_part.ClusterPart.TheVariants.{Seat, Log, Token, Image}
use Rattle.lc_rest.specs.declared.parts.Parts.{Parts}
use Rattle.lc_rest.specs.declared.segment_part.SegmentPart.{SegmentPart}

-- What is tested of the tokens and of the merge

-- the token is one of the segment, with an entry for each page, at a node or on its way from one. The records have the
-- segment's numbers above the first up to the token's, each once; and the token agrees with the records and with its
-- area
pub record KeepsToken (h : Read) (segment : ℕ) : Type 0 where
  pub segment_is : (h.token segment).segment ≡ segment
  pub entries : length (h.token segment).pages ≡ h.geometry.pages
  pub node : node_of (h.holder segment) < h.geometry.nodes
  pub numbered : AreNumbered segment (number_at h.numbers segment) (h.token segment).seq (flat_map (λ (log : List Record). log) h.logs)
  pub kept : IsKeptToken segment h.geometry.pages (h.token segment) (h.holder segment) h.logs h.counts (h.area segment)

-- all records merge, in these turns of their nodes
pub record AreMerged (h : Read) : Type 0 where
  pub turns : AreTurns h.logs h.numbers [] h.turns
  pub all : (node : ℕ) → node < length h.logs → times node h.turns ≡ length (log_of h node)
  pub none : (node : ℕ) → length h.logs ≤ node → times node h.turns ≡ 0

abbrev pub AllKeepTokens : Read → Type 0
AllKeepTokens h = (segment : ℕ) → 1 ≤ segment → segment ≤ h.geometry.segments → KeepsToken h segment

-- the first, from `least` on, of which it does not hold
pub record IsFirst (Keeps : ℕ → Type 0) (least n : ℕ) : Type 0 where
  pub from : least ≤ n
  pub before : (other : ℕ) → least ≤ other → other < n → Keeps other
  pub fails : Keeps n → ⊥

-- a cluster of this geometry has the part
abbrev pub HasPart : Geometry → ClusterPart → Type 0
HasPart g (Seat node) = node < g.nodes
HasPart g (Log node) = node < g.nodes
HasPart g (Token segment) = (1 ≤ segment) × (segment ≤ g.segments)
HasPart g (Image segment) = (1 ≤ segment) × (segment ≤ g.segments)

module _ {D : Type 0} (a : Ghosts D) where
  -- What is read

  -- the records of a node, in the order of its log: first those of the rounds that have ended, so many, then those that the log
  -- has, up to so many, and then those that are staged
  pub record IsReadLog (part : NodePart D a) (dropped stable : ℕ) (log : List Record) : Type 0 where
    pub ended : AreSpelled part.ended.items (take dropped log)
    pub published : AreSpelled part.stable.items (drop dropped (take stable log))
    pub staged : AreSpelled part.staged.items (drop stable log)
    pub dropped_stable : dropped ≤ stable
    pub few : stable ≤ length log

  -- what is read is of these parts: the records of each node, and the order in which they merge; what the nodes know; the tokens and
  -- where they are, and the numbers that they leave before all records; and what was read of the areas, as bytes, and those of the
  -- pages in it
  pub record IsReadOf (parts : Parts D a) (h : Read) : Type 0 where
    pub geometry : h.geometry ≡ parts.geometry
    pub count : length h.logs ≡ length parts.nodes.items
    pub counts : length h.counts ≡ length parts.nodes.items
    pub logs : (n : ℕ) (part : NodePart D a) → slice_get parts.nodes.items n ≡ Some part → IsReadLog part (h.dropped n) (slice_index_or h.counts n 0) (log_of h n)
    pub rounds : (n : ℕ) (part : NodePart D a) → slice_get parts.nodes.items n ≡ Some part → h.round n ≡ part.round
    pub known : (n segment : ℕ) (part : NodePart D a) → slice_get parts.nodes.items n ≡ Some part → h.known n segment ≡ known_of part.known segment
    pub tokens : (k : ℕ) (part : SegmentPart D) → slice_get parts.segments.items k ≡ Some part → h.token (k + 1) ≡ part.token
    pub holders : (k : ℕ) (part : SegmentPart D) → slice_get parts.segments.items k ≡ Some part → h.holder (k + 1) ≡ part.holder
    pub placed : (k : ℕ) → k < length parts.segments.items → IsPlaced (h.holder (k + 1)) (h.place (k + 1))
    pub no_segment : (segment : ℕ) → (segment ≡ 0) ⊎ (length parts.segments.items < segment) → h.place segment ≡ Travelling
    pub numbers_count : length h.numbers ≡ length parts.segments.items
    pub numbers : (k : ℕ) (part : SegmentPart D) → slice_get parts.segments.items k ≡ Some part → number_at h.numbers (k + 1) ≡ part.token.seq - count_on (k + 1) h.logs
    pub bytes : (k : ℕ) → k < length parts.segments.items → AreBytes (h.area (k + 1)) h.geometry.pages (h.bytes (k + 1))
    pub of_bytes : (k at : ℕ) → k < length parts.segments.items → slice_index_or (h.area (k + 1)) at 0 < 256

  -- the areas are read as they are
  abbrev pub AreReadAreas : Parts D a → Read → Type 0
  AreReadAreas parts h = (k : ℕ) (part : SegmentPart D) → slice_get parts.segments.items k ≡ Some part → h.area (k + 1) ≡ a.now part.area

  -- What is tested of the nodes

  -- the node's records name it and lie in the segments, and it knows no number as clean that is above what the token says
  pub record KeepsOwn (parts : Parts D a) (h : Read) (n : ℕ) : Type 0 where
    pub own : All (IsOwn h.geometry n) (log_of h n)
    pub known_clean : (k : ℕ) (part : SegmentPart D) → slice_get parts.segments.items k ≡ Some part → h.known n (k + 1) ≤ part.token.clean

  -- no image of the segment has applied more than the token's number, and the one where the token is, or that it left, has applied
  -- just that; the pages are what the records up to their sequences make of them; and each image, with the records above what it has
  -- applied, is what all records make of the pages
  pub record KeepsImages (parts : Parts D a) (h : Read) (segment : ℕ) : Type 0 where
    pub within : (n : ℕ) (node : NodePart D a) → slice_get parts.nodes.items n ≡ Some node → number_at node.applied.items segment ≤ (h.token segment).seq
    pub there : (node : NodePart D a) → slice_get parts.nodes.items (node_of (h.holder segment)) ≡ Some node → number_at node.applied.items segment ≡ (h.token segment).seq
    pub replay : IsReplay segment (number_at h.numbers segment) (h.token segment).seq (merged h) (h.bytes segment) (h.area segment) h.geometry.pages
    pub images : (n : ℕ) (node : NodePart D a) (image : Picture) → slice_get parts.nodes.items n ≡ Some node → slice_get node.images.items (segment - 1) ≡ Some image
        → bytes_above segment (number_at node.applied.items segment) (merged h) image.bytes.items ≡ bytes_after segment (merged h) (h.bytes segment)

  -- The order of the tests

  abbrev pub AllKeepOwn : Parts D a → Read → Type 0
  AllKeepOwn parts h = (n : ℕ) → n < h.geometry.nodes → KeepsOwn parts h n

  abbrev pub AllKeepImages : Parts D a → Read → Type 0
  AllKeepImages parts h = (segment : ℕ) → 1 ≤ segment → segment ≤ h.geometry.segments → KeepsImages parts h segment

  pub record PassesAll (parts : Parts D a) (h : Read) : Type 0 where
    pub own : AllKeepOwn parts h
    pub tokens : AllKeepTokens h
    pub merged_all : AreMerged h
    pub images : AllKeepImages parts h

  -- the test of this part is the first that fails: first those of the nodes, then of the tokens, then of the merge, whose least node
  -- that is stuck is named, and then of the images
  abbrev pub Fails : Parts D a → Read → ClusterPart → Type 0
  Fails parts h (Seat node) = ⊥
  Fails parts h (Log node) = (node < h.geometry.nodes) × (IsFirst (KeepsOwn parts h) 0 node
      ⊎ (AllKeepOwn parts h × AllKeepTokens h × ((turns : List ℕ) × IsStuck h.logs h.numbers turns node)))
  Fails parts h (Token segment) = (segment ≤ h.geometry.segments) × AllKeepOwn parts h × IsFirst (KeepsToken h) 1 segment
  Fails parts h (Image segment) = (segment ≤ h.geometry.segments) × AllKeepOwn parts h × AllKeepTokens h × AreMerged h × IsFirst (KeepsImages parts h) 1 segment

  -- so it is with what the parts are
  abbrev pub FailsFirst : Parts D a → ClusterPart → Type 0
  FailsFirst parts part = (h : Read) × IsReadOf parts h × AreReadAreas parts h × Fails parts h part

  -- and so all tests pass
  abbrev pub AgreeAll : Parts D a → Type 0
  AgreeAll parts = (h : Read) × IsReadOf parts h × AreReadAreas parts h × PassesAll parts h
