-- What is read of the parts of a cluster at rest, and what its tests say of the parts.
use Rattle.std.proofs.Common.{◌≡◌, ◌⊎◌, ℕ, zero, suc, ◌+◌, ◌-◌, ◌<◌, ◌≤◌, List, [], map, drop, length, Some, inl, inr, refl, sym, ap, subst, ◌∙◌, arith}
use Rattle.std.specs.Prelude.{slice_get, slice_index_or}
use Rattle.std.specs.Global.{Vec}
use Rattle.std.proofs.lemmas.List.{get_or_past, length-map}
use Rattle.std.proofs.lemmas.Option.{get_or_from_slice_get, slice_get_within, same_Some as same_some}
use Rattle.lc_disk.specs.declared.area.Area.{Ghosts}
use Rattle.lc_model.specs.State.{Travelling}
use Rattle.lc_record.specs.declared.record.Record.{Record}
use Rattle.lc_record.proofs.ListLemmas.{slice_get_some as some_at, slice_get-map_some as get-map, slice_get_from_map as mapped_at}
use Rattle.lc_rest.specs.Holder.{IsPlaced}
use Rattle.lc_rest.specs.Merge.{logs_of, number_at}
use Rattle.lc_rest.specs.Passed.{Read, merged as merged_records}
use Rattle.lc_rest.specs.Replay.{AreBytes, bytes_above}
use Rattle.lc_rest.specs.TokenTest.{count_on}
use Rattle.lc_rest.specs.declared.holder.Holder.{Holder}
use Rattle.lc_rest.specs.declared.holder.Holder.TheVariants.{Here, Left}
use Rattle.lc_token.specs.declared.token.Token.{Token as TheToken}
use Rattle.lc_token.specs.KnownClean.{known as known_of}
use Rattle.lc_rest.specs.AtRest.{AreMerged, AreReadAreas, Fails, HasPart, IsFirst, IsReadLog, IsReadOf, KeepsImages, KeepsOwn, KeepsToken, PassesAll}
use Rattle.lc_core.specs.Built.{IsBuiltOf}
use Rattle.lc_core.specs.Cluster.{IsBuilt, IsReadCluster, knowns_of}
use Rattle.lc_journal.specs.Kept.{closed_record}
use Rattle.lc_rest.specs.Parts.{AreHonest, AreKept}
use Rattle.lc_reading.specs.ReadNodes.{IsReadPart, images_of}
use Rattle.lc_record.specs.Lists.{items_of}
use Rattle.lc_reading.specs.Readings.{FailsIn, KeepsAt, KeepsPictures, PassesIn, at_segment, no_token, place_of, read_of, tests_of}
use Rattle.lc_journal.specs.Records.{Spelled}
use Rattle.lc_reading.specs.declared.node_images.NodeImages.{NodeImages}
use Rattle.lc_rest.specs.declared.node_part.NodePart.{NodePart}
use Rattle.lc_journal.specs.declared.node_piece.NodePiece.{NodePiece}
use Rattle.lc_rest.specs.declared.cluster_part.ClusterPart.{ClusterPart}
use Rattle.lc_rest.specs.declared.cluster_part.ClusterPart.TheVariants.{Seat, Log, Token, Image}
use Rattle.lc_rest.specs.declared.parts.Parts.{Parts}
use Rattle.lc_core.specs.declared.read_cluster.ReadCluster.{ReadCluster}
use Rattle.lc_reading.specs.declared.read_parts.ReadParts.{ReadParts}
use Rattle.lc_rest.specs.declared.segment_part.SegmentPart.{SegmentPart}
use Rattle.lc_core.specs.declared.up.Up.{Up}
use Rattle.lc_reading.proofs.TokenReads.{at_next, length_numbers, number_next}

mapped_or : {A B : Type 0} (f : A → B) (xs : List A) (n : ℕ) (x : A) (d : B) → slice_get xs n ≡ Some x → slice_index_or (map f xs) n d ≡ f x
mapped_or f xs n x d got = get_or_from_slice_get (map f xs) n (f x) d (get-map f xs n x got)

placed_self : (holder : Holder) → IsPlaced holder (place_of holder)
placed_self (Here node) = refl
placed_self (Left node) = refl

-- a part that fails is one of the cluster's
pub one_of_cluster : (r : ReadParts) (knowns : List (List ℕ)) (nodes : List NodeImages) (part : ClusterPart) → FailsIn r knowns nodes part → HasPart r.geometry part
one_of_cluster r knowns nodes (Seat node) fails = absurd fails
one_of_cluster r knowns nodes (Log node) fails = fails.0
one_of_cluster r knowns nodes (Token segment) fails = (fails.2.from, fails.0)
one_of_cluster r knowns nodes (Image segment) fails = (fails.3.2.from, fails.0)

first_mapped : (P Q : ℕ → Type 0) (least n : ℕ) → ((m : ℕ) → P m → Q m) → (Q n → P n) → IsFirst P least n → IsFirst Q least n
first_mapped P Q least n on back is = record { from = is.from; before = λ other from less. on other (is.before other from less); fails = λ q. is.fails (back q) }

module _ {D : Type 0} (a : Ghosts D) where
  -- what is read, in this order of the records
  abbrev pub cluster_read : ReadCluster D a → List ℕ → Read
  cluster_read c turns = read_of c.read
      (λ n. slice_index_or (map (λ (piece : NodePiece D a). piece.round) c.pieces.items) n 0)
      (λ n. slice_index_or (map (λ (piece : NodePiece D a). piece.records.before) c.pieces.items) n 0)
      (λ n segment. known_of (slice_index_or (knowns_of a c.pieces.items) n []) segment)
      turns

module _ {D : Type 0} (a : Ghosts D) (parts : Parts D a) (kept : AreKept a parts) (c : ReadCluster D a) (is : IsReadCluster a parts c) where
  -- Segments

  token_there : (k : ℕ) (part : SegmentPart D) → slice_get parts.segments.items k ≡ Some part → slice_get c.read.tokens.items k ≡ Some part.token
  token_there k part got = ap (λ (l : List TheToken). slice_get l k) is.tokens ∙ get-map (λ (p : SegmentPart D). p.token) parts.segments.items k part got

  token_is : (k : ℕ) (part : SegmentPart D) → slice_get parts.segments.items k ≡ Some part → at_segment no_token c.read.tokens.items (k + 1) ≡ part.token
  token_is k part got = at_next no_token c.read.tokens.items k ∙ get_or_from_slice_get c.read.tokens.items k part.token no_token (token_there k part got)

  holder_is : (k : ℕ) (part : SegmentPart D) → slice_get parts.segments.items k ≡ Some part → at_segment (Left 0) c.read.holders.items (k + 1) ≡ part.holder
  holder_is k part got = at_next (Left 0) c.read.holders.items k ∙ get_or_from_slice_get c.read.holders.items k part.holder (Left 0) (ap (λ (l : List Holder). slice_get l k) is.holders ∙ get-map (λ (p : SegmentPart D). p.holder) parts.segments.items k part got)

  many : length parts.segments.items ≡ c.read.geometry.segments
  many = (let same = ap (λ g. g.segments) is.geometry in omega (arith, same, kept.segments))

  placed_at : (k : ℕ) → k < length parts.segments.items → IsPlaced (at_segment (Left 0) c.read.holders.items (k + 1)) (at_segment Travelling (map place_of c.read.holders.items) (k + 1))
  placed_at k less =
      let holder = some_at c.read.holders.items k (omega (arith, less, many, c.read.all_holders, c.read.holders.ok.0)) in
      let one : at_segment (Left 0) c.read.holders.items (k + 1) ≡ holder.0 = at_next (Left 0) c.read.holders.items k ∙ get_or_from_slice_get c.read.holders.items k holder.0 (Left 0) holder.1 in
      let other : at_segment Travelling (map place_of c.read.holders.items) (k + 1) ≡ place_of holder.0 = at_next Travelling (map place_of c.read.holders.items) k ∙ mapped_or place_of c.read.holders.items k holder.0 Travelling holder.1 in
      subst (λ w. IsPlaced w (at_segment Travelling (map place_of c.read.holders.items) (k + 1))) (sym one) (subst (IsPlaced holder.0) (sym other) (placed_self holder.0))

  no_place : (segment : ℕ) → (segment ≡ 0) ⊎ (length parts.segments.items < segment) → at_segment Travelling (map place_of c.read.holders.items) segment ≡ Travelling
  no_place zero which = refl
  no_place (suc k) (inl none) = absurd cc
  no_place (suc k) (inr past) =
      get_or_past (map place_of c.read.holders.items) k Travelling (omega (arith, past, many, length-map c.read.holders.items place_of, c.read.all_holders, c.read.holders.ok.0))

  bytes_at : (k : ℕ) → k < length parts.segments.items → (area : Vec ℕ) × (slice_get c.read.areas.items k ≡ Some area) × (at_segment [] (items_of c.read.areas.items) (k + 1) ≡ area.items)
  bytes_at k less =
      let area = some_at c.read.areas.items k (omega (arith, less, many, c.read.all_areas, c.read.areas.ok.0)) in
      (area.0, area.1, at_next [] (items_of c.read.areas.items) k ∙ mapped_or (λ (v : Vec ℕ). v.items) c.read.areas.items k area.0 [] area.1)

  starts_at : (k : ℕ) → k < length parts.segments.items → AreBytes (at_segment [] (items_of c.read.areas.items) (k + 1)) c.read.geometry.pages (at_segment [] (items_of c.read.bytes.items) (k + 1))
  starts_at k less =
      let area = bytes_at k less in
      let start = some_at c.read.bytes.items k (omega (arith, less, many, c.read.all_bytes, c.read.bytes.ok.0)) in
      let last : at_segment [] (items_of c.read.bytes.items) (k + 1) ≡ start.0.items = at_next [] (items_of c.read.bytes.items) k ∙ mapped_or (λ (v : Vec ℕ). v.items) c.read.bytes.items k start.0 [] start.1 in
      subst (λ l. AreBytes l c.read.geometry.pages (at_segment [] (items_of c.read.bytes.items) (k + 1))) (sym area.2)
      (subst (AreBytes area.0.items c.read.geometry.pages) (sym last) (c.read.starts k area.0 start.0 area.1 start.1))

  -- Nodes

  piece_of : (n : ℕ) (part : NodePart D a) → slice_get parts.nodes.items n ≡ Some part → (piece : NodePiece D a) × (slice_get c.pieces.items n ≡ Some piece)
      × IsReadPart a parts.geometry.words part piece (slice_index_or (logs_of c.read.logs.items) n []) (slice_index_or c.read.counts.items n 0)
  piece_of n part got =
      let within = slice_get_within parts.nodes.items n part got in
      let piece = some_at c.pieces.items n (omega (arith, within, is.nodes.pieces_count)) in
      (piece.0, piece.1, is.nodes.each n part piece.0 got piece.1)

  dropped_is : (n : ℕ) (piece : NodePiece D a) (turns : List ℕ) → slice_get c.pieces.items n ≡ Some piece → (cluster_read a c turns).dropped n ≡ piece.records.before
  dropped_is n piece turns its = mapped_or (λ (p : NodePiece D a). p.records.before) c.pieces.items n piece 0 its

  -- What is read

  pub is_read : (turns : List ℕ) → IsReadOf a parts (cluster_read a c turns)
  is_read turns =
      let h = cluster_read a c turns in
      record {
        geometry = is.geometry;
        count = length-map c.read.logs.items (λ (log : Vec Record). log.items) ∙ is.nodes.logs_count;
        counts = is.nodes.counts_count;
        logs = λ n part got. (let piece = piece_of n part got in
            subst (λ m. IsReadLog a part m (slice_index_or c.read.counts.items n 0) (slice_index_or (logs_of c.read.logs.items) n [])) (sym (dropped_is n piece.0 turns piece.1)) piece.2.read);
        rounds = λ n part got. (let piece = piece_of n part got in mapped_or (λ (p : NodePiece D a). p.round) c.pieces.items n piece.0 0 piece.1 ∙ piece.2.round);
        known = λ n segment part got. (let piece = piece_of n part got in
            ap (λ (l : List ℕ). known_of l segment) (mapped_or (λ (p : NodePiece D a). p.known) c.pieces.items n piece.0 [] piece.1 ∙ piece.2.known));
        tokens = token_is;
        holders = holder_is;
        placed = placed_at;
        no_segment = no_place;
        numbers_count = length_numbers c.read ∙ ap length is.tokens ∙ length-map parts.segments.items (λ (p : SegmentPart D). p.token);
        numbers = λ k part got. (let within = slice_get_within parts.segments.items k part got in
            number_next c.read k no_token (omega (arith, within, many, c.read.all_tokens, c.read.tokens.ok.0))
            ∙ ap (λ (t : TheToken). t.seq - count_on (k + 1) (logs_of c.read.logs.items)) (get_or_from_slice_get c.read.tokens.items k part.token no_token (token_there k part got)));
        bytes = starts_at;
        of_bytes = λ k at less. (let area = bytes_at k less in subst (λ l. slice_index_or l at 0 < 256) (sym area.2) ((c.read.long k area.0 area.1).of_bytes at));
      }

  pub are_read : (turns : List ℕ) → AreHonest a parts → AreReadAreas a parts (cluster_read a c turns)
  are_read turns honest = λ k part got.
      (let within = slice_get_within parts.segments.items k part got in
      let held = bytes_at k within in
      let area = some_at c.areas.items k (omega (arith, within, many, c.all_segments, c.areas.ok.0)) in
      held.2 ∙ (is.areas k part area.0 held.0 got area.1 held.1).read (honest.1 k part got))

  -- What is tested

  own_kept : (turns : List ℕ) (n : ℕ) → KeepsAt c.read (knowns_of a c.pieces.items) n → KeepsOwn a parts (cluster_read a c turns) n
  own_kept turns n keeps = record { own = keeps.own; known_clean = λ k part got. keeps.known_clean k part.token (token_there k part got) }

  own_at : (turns : List ℕ) (n : ℕ) → KeepsOwn a parts (cluster_read a c turns) n → KeepsAt c.read (knowns_of a c.pieces.items) n
  own_at turns n keeps = record {
    own = keeps.own;
    known_clean = λ k token got.
        (let part = mapped_at (λ (p : SegmentPart D). p.token) parts.segments.items k token (ap (λ (l : List TheToken). slice_get l k) (sym is.tokens) ∙ got) in
        subst (λ (t : TheToken). known_of (slice_index_or (knowns_of a c.pieces.items) n []) (k + 1) ≤ t.clean) part.2 (keeps.known_clean k part.0 part.1));
  }

  token_kept : (turns others : List ℕ) (segment : ℕ) → KeepsToken (tests_of c.read others) segment → KeepsToken (cluster_read a c turns) segment
  token_kept turns others segment keeps = record { segment_is = keeps.segment_is; entries = keeps.entries; node = keeps.node; numbered = keeps.numbered; kept = keeps.kept }

  token_at : (turns others : List ℕ) (segment : ℕ) → KeepsToken (cluster_read a c turns) segment → KeepsToken (tests_of c.read others) segment
  token_at turns others segment keeps = record { segment_is = keeps.segment_is; entries = keeps.entries; node = keeps.node; numbered = keeps.numbered; kept = keeps.kept }

  merged : (turns : List ℕ) → AreMerged (tests_of c.read turns) → AreMerged (cluster_read a c turns)
  merged turns are = record { turns = are.turns; all = are.all; none = are.none }

  node_there : (n : ℕ) (node : NodePart D a) → slice_get parts.nodes.items n ≡ Some node → slice_get c.images.items n ≡ Some (images_of a node)
  node_there n node got = ap (λ (l : List NodeImages). slice_get l n) is.nodes.images ∙ get-map (images_of a) parts.nodes.items n node got

  images_kept : (turns : List ℕ) (segment : ℕ) → KeepsPictures (tests_of c.read turns) c.images.items segment → KeepsImages a parts (cluster_read a c turns) segment
  images_kept turns segment keeps = record {
    within = λ n node got. keeps.within n (images_of a node) (node_there n node got);
    there = λ node got. keeps.there (images_of a node) (node_there _ node got);
    replay = keeps.replay;
    images = λ n node image got its. keeps.images n (images_of a node) image (node_there n node got) its;
  }

  part_there : (n : ℕ) (node : NodeImages) → slice_get c.images.items n ≡ Some node → (part : NodePart D a) × (slice_get parts.nodes.items n ≡ Some part) × (images_of a part ≡ node)
  part_there n node got = mapped_at (images_of a) parts.nodes.items n node (ap (λ (l : List NodeImages). slice_get l n) (sym is.nodes.images) ∙ got)

  images_at : (turns : List ℕ) (segment : ℕ) → KeepsImages a parts (cluster_read a c turns) segment → KeepsPictures (tests_of c.read turns) c.images.items segment
  images_at turns segment keeps = record {
    within = λ n node got. (let part = part_there n node got in
        subst (λ (i : NodeImages). number_at i.applied.items segment ≤ (at_segment no_token c.read.tokens.items segment).seq) part.2 (keeps.within n part.0 part.1));
    there = λ node got. (let part = part_there _ node got in
        subst (λ (i : NodeImages). number_at i.applied.items segment ≡ (at_segment no_token c.read.tokens.items segment).seq) part.2 (keeps.there part.0 part.1));
    replay = keeps.replay;
    images = λ n node image got its. (let part = part_there n node got in
        ap (λ (i : NodeImages). bytes_above segment (number_at i.applied.items segment) (merged_records (cluster_read a c turns)) image.bytes.items) (sym part.2)
        ∙ keeps.images n part.0 image part.1 (ap (λ (i : NodeImages). slice_get i.images.items (segment - 1)) part.2 ∙ its));
  }

  pub all_pass : (turns : List ℕ) → PassesIn c.read (knowns_of a c.pieces.items) c.images.items turns → PassesAll a parts (cluster_read a c turns)
  all_pass turns passes = record {
    own = λ n less. own_kept turns n (passes.own n less);
    tokens = λ segment first last. token_kept turns [] segment (passes.tokens segment first last);
    merged_all = merged turns passes.merged_all;
    images = λ segment first last. images_kept turns segment (passes.pictures segment first last);
  }

  pub one_fails : (part : ClusterPart) → FailsIn c.read (knowns_of a c.pieces.items) c.images.items part → (turns : List ℕ) × Fails a parts (cluster_read a c turns) part
  one_fails (Seat node) fails = absurd fails
  one_fails (Log node) (less, inl first) = ([], (less, inl (first_mapped (KeepsAt c.read (knowns_of a c.pieces.items)) (KeepsOwn a parts (cluster_read a c [])) 0 node (own_kept []) (own_at [] node) first)))
  one_fails (Log node) (less, inr others) =
      ([], (less, inr ((λ n within. own_kept [] n (others.0 n within)), (λ segment first last. token_kept [] [] segment (others.1 segment first last)), others.2)))
  one_fails (Token segment) fails = (
    [],
    (fails.0, (λ n within. own_kept [] n (fails.1 n within)), first_mapped (KeepsToken (tests_of c.read [])) (KeepsToken (cluster_read a c [])) 1 segment (token_kept [] []) (token_at [] [] segment) fails.2),
  )
  one_fails (Image segment) fails =
      let turns = fails.3.0 in (
        turns,
        (
          fails.0,
          (λ n within. own_kept turns n (fails.1 n within)),
          (λ s first last. token_kept turns [] s (fails.2 s first last)),
          merged turns fails.3.1,
          first_mapped (KeepsPictures (tests_of c.read turns) c.images.items) (KeepsImages a parts (cluster_read a c turns)) 1 segment (images_kept turns) (images_at turns segment) fails.3.2,
        ),
      )

  -- What is built

  pub is_built : (turns : List ℕ) (up : Up D a) (built : IsBuilt a c turns up) → IsBuiltOf a parts (cluster_read a c turns) built.contents built.tokens c.pieces.items c.areas.items
  is_built turns up built =
      let h = cluster_read a c turns in
      record {
        geometry = built.geometry ∙ is.geometry;
        nodes = λ n part piece got its.
            (let is_part = is.nodes.each n part piece got its in
            let rs = slice_index_or (logs_of c.read.logs.items) n [] in
            let dropped = dropped_is n piece turns its in
            record {
              log = is_part.log;
              round = is_part.round;
              known = is_part.known;
              records = ap (λ (l : List Spelled). record { before = piece.records.before; records = l }) is_part.records ∙ ap (λ m. record { before = m; records = map closed_record (drop m rs) }) (sym dropped);
              stable = is_part.stable;
            });
        segments_are = λ k piece its. (let made = built.made k piece its in record { holder = made.holder; bytes = made.bytes; stable = made.stable; stable_bytes = made.stable_bytes; applied = made.applied });
        tokens_are = λ k part token got its.
            same_some token (Some part.token) (sym its ∙ ap (λ l. slice_get l k) built.tokens_are ∙ get-map (λ (t : TheToken). Some t) c.read.tokens.items k part.token (token_there k part got));
        areas_are = λ k part area got its. (let held = bytes_at k (slice_get_within parts.segments.items k part got) in (is.areas k part area held.0 got its held.1).same);
        pieces_count = is.nodes.pieces_count;
        tokens_count = ap length built.tokens_are ∙ length-map c.read.tokens.items (λ (t : TheToken). Some t) ∙ ap length is.tokens ∙ length-map parts.segments.items (λ (p : SegmentPart D). p.token);
        areas_count = omega (arith, many, c.all_segments, c.areas.ok.0);
      }
