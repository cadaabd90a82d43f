-- What is read of the parts of a cluster at rest, as its tests have it.
use Rattle.std.specs.Prelude.{◌≡◌, ◌⊎◌, ℕ, zero, suc, ◌+◌, ◌-◌, ◌<◌, ◌≤◌, List, [], ◌∷◌, map, length, All, slice_get, slice_index_or, Some, if◌then◌else◌}
use Rattle.std.specs.List.{flat_map}
use Rattle.lc_model.specs.State.{Place, At, Travelling}
use Rattle.lc_record.specs.Lists.{items_of}
use Rattle.lc_record.specs.declared.geometry.Geometry.{Geometry}
use Rattle.lc_record.specs.declared.record.Record.{Record}
use Rattle.lc_rest.specs.Holder.{node_of}
use Rattle.lc_rest.specs.LogTest.{IsOwn}
use Rattle.lc_rest.specs.Merge.{IsStuck, logs_of, number_at}
use Rattle.lc_rest.specs.NumbersTest.{AreNumbered}
use Rattle.lc_rest.specs.Passed.{Read, merged}
use Rattle.lc_rest.specs.Replay.{IsReplay, bytes_above, bytes_after}
use Rattle.lc_rest.specs.Stable.{stable_count}
use Rattle.lc_rest.specs.TokenTest.{IsKeptToken, count_on}
use Rattle.lc_rest.specs.declared.holder.Holder.{Holder}
use Rattle.lc_rest.specs.declared.holder.Holder.TheVariants.{Here, Left}
use Rattle.lc_token.specs.declared.token.Token.{Token as TheToken}
use Rattle.lc_token.specs.KnownClean.{known as known_of}
use Rattle.lc_tx.specs.declared.image.Image.{Image as Picture}
use Rattle.lc_rest.specs.AtRest.{AllKeepTokens, AreMerged, IsFirst, KeepsToken}
use Rattle.lc_desk.specs.Pieces.{is_here}
use Rattle.lc_reading.specs.declared.node_images.NodeImages.{NodeImages}
use Rattle.lc_rest.specs.declared.cluster_part.ClusterPart.{ClusterPart}
use Rattle.lc_rest.specs.declared.cluster_part.ClusterPart.TheVariants.{Seat, Log, Token, Image}
use Rattle.lc_reading.specs.declared.read_parts.ReadParts.{ReadParts}

-- what a list has of a segment, from segment 1 on
abbrev pub at_segment : {A : Type 0} → A → List A → ℕ → A
at_segment d xs zero = d
at_segment d xs (suc k) = slice_index_or xs k d

abbrev pub place_of : Holder → Place
place_of (Here node) = At node
place_of (Left node) = Travelling

abbrev pub no_token : TheToken
no_token = record { segment = 0; seq = 0; clean = 0; pages = [] }

-- the numbers that the segments from this one on have before all these records
abbrev pub numbers_before : ℕ → List TheToken → List (List Record) → List ℕ
numbers_before segment [] logs = []
numbers_before segment (token ∷ tokens) logs = (token.seq - count_on segment logs) ∷ numbers_before (segment + 1) tokens logs

abbrev pub first_numbers : ReadParts → List ℕ
first_numbers r = numbers_before 1 r.tokens.items (logs_of r.logs.items)

-- what is read, in this order of its records, of nodes in these rounds that have dropped so many records and know so much as clean
abbrev pub read_of : ReadParts → (ℕ → ℕ) → (ℕ → ℕ) → (ℕ → ℕ → ℕ) → List ℕ → Read
read_of r round dropped known turns = record {
  geometry = r.geometry;
  logs = logs_of r.logs.items;
  counts = r.counts.items;
  numbers = first_numbers r;
  turns = turns;
  token = at_segment no_token r.tokens.items;
  holder = at_segment (Left 0) r.holders.items;
  place = at_segment Travelling (map place_of r.holders.items);
  area = at_segment [] (items_of r.areas.items);
  bytes = at_segment [] (items_of r.bytes.items);
  round = round;
  dropped = dropped;
  known = known;
  applied = λ node segment. if is_here node (at_segment (Left 0) r.holders.items segment) then (at_segment no_token r.tokens.items segment).seq
      else number_at (first_numbers r) segment + stable_count segment (logs_of r.logs.items) r.counts.items;
}

-- so far as the tests of the tokens, of the merge and of the images look at it
abbrev pub tests_of : ReadParts → List ℕ → Read
tests_of r turns = read_of r (λ n. 0) (λ n. 0) (λ n segment. 0) turns

-- the records of a node are its own, and it knows no number as clean that is above what the token says
pub record KeepsNode (r : ReadParts) (known : List ℕ) (n : ℕ) : Type 0 where
  pub own : All (IsOwn r.geometry n) (slice_index_or (logs_of r.logs.items) n [])
  pub known_clean : (k : ℕ) (token : TheToken) → slice_get r.tokens.items k ≡ Some token → known_of known (k + 1) ≤ token.clean

-- and of what each node knows
abbrev pub KeepsAt : ReadParts → List (List ℕ) → ℕ → Type 0
KeepsAt r knowns n = KeepsNode r (slice_index_or knowns n []) n

-- the token is one of the segment, with an entry for each page, at a node or on its way from one
pub record IsTokenIn (g : Geometry) (segment : ℕ) (token : TheToken) (holder : Holder) : Type 0 where
  pub segment_is : token.segment ≡ segment
  pub entries : length token.pages ≡ g.pages
  pub node : node_of holder < g.nodes

-- the records have the segment's numbers after the first up to the token's, each once, and the token agrees with them
-- and with its area
pub record KeepsTokenIn (segment pages : ℕ) (token : TheToken) (holder : Holder) (area : List ℕ) (logs : List (List Record)) (counts : List ℕ) : Type 0 where
  pub numbered : AreNumbered segment (token.seq - count_on segment logs) token.seq (flat_map (λ (log : List Record). log) logs)
  pub kept : IsKeptToken segment pages token holder logs counts area

-- no image of the segment has applied more than the token's number, and the one where the token is, or that it left, just that; the
-- pages replay; and each image comes up
pub record KeepsPictures (h : Read) (nodes : List NodeImages) (segment : ℕ) : Type 0 where
  pub within : (n : ℕ) (node : NodeImages) → slice_get nodes n ≡ Some node → number_at node.applied.items segment ≤ (h.token segment).seq
  pub there : (node : NodeImages) → slice_get nodes (node_of (h.holder segment)) ≡ Some node → number_at node.applied.items segment ≡ (h.token segment).seq
  pub replay : IsReplay segment (number_at h.numbers segment) (h.token segment).seq (merged h) (h.bytes segment) (h.area segment) h.geometry.pages
  pub images : (n : ℕ) (node : NodeImages) (image : Picture) → slice_get nodes n ≡ Some node → slice_get node.images.items (segment - 1) ≡ Some image
      → bytes_above segment (number_at node.applied.items segment) (merged h) image.bytes.items ≡ bytes_after segment (merged h) (h.bytes segment)

-- All tests, in their order

abbrev pub AllKeepAt : ReadParts → List (List ℕ) → Type 0
AllKeepAt r knowns = (n : ℕ) → n < r.geometry.nodes → KeepsAt r knowns n

abbrev pub AllKeepPictures : ReadParts → List NodeImages → List ℕ → Type 0
AllKeepPictures r nodes turns = (segment : ℕ) → 1 ≤ segment → segment ≤ r.geometry.segments → KeepsPictures (tests_of r turns) nodes segment

-- of nodes that know so much as clean, with these images
pub record PassesIn (r : ReadParts) (knowns : List (List ℕ)) (nodes : List NodeImages) (turns : List ℕ) : Type 0 where
  pub own : AllKeepAt r knowns
  pub tokens : AllKeepTokens (tests_of r [])
  pub merged_all : AreMerged (tests_of r turns)
  pub pictures : AllKeepPictures r nodes turns

-- the test of this part is the first that fails
abbrev pub FailsIn : ReadParts → List (List ℕ) → List NodeImages → ClusterPart → Type 0
FailsIn r knowns nodes (Seat node) = ⊥
FailsIn r knowns nodes (Log node) = (node < r.geometry.nodes) × (IsFirst (KeepsAt r knowns) 0 node
    ⊎ (AllKeepAt r knowns × AllKeepTokens (tests_of r []) × ((turns : List ℕ) × IsStuck (logs_of r.logs.items) (first_numbers r) turns node)))
FailsIn r knowns nodes (Token segment) = (segment ≤ r.geometry.segments) × AllKeepAt r knowns × IsFirst (KeepsToken (tests_of r [])) 1 segment
FailsIn r knowns nodes (Image segment) =
    (segment ≤ r.geometry.segments) × AllKeepAt r knowns × AllKeepTokens (tests_of r []) × ((turns : List ℕ) × AreMerged (tests_of r turns) × IsFirst (KeepsPictures (tests_of r turns) nodes) 1 segment)
