-- A store that is built of the parts of a cluster at rest, where they agree, is an adoption of them.
use Rattle.std.proofs.Common.{◌≡◌, ℕ, ◌+◌, ◌-◌, ◌<◌, ◌≤◌, true, List, [], ◌∷◌, ◌++◌, All, length, take, drop, Option, Some, refl, sym, ap, subst, ◌∙◌, arith}
use Rattle.std.specs.Prelude.{slice_get, slice_index_or, if◌then◌else◌}
use Rattle.std.proofs.lemmas.List.{length-take, take-append-drop}
use Rattle.std.proofs.lemmas.List.Elements.{All-cons, All-head, All-nil, All-tail}
use Rattle.std.proofs.lemmas.Option.{slice_get_within}
use Rattle.lc_disk.specs.declared.area.Area.{Ghosts}
use Rattle.lc_record.specs.Content.{segment_of}
use Rattle.lc_record.specs.declared.geometry.Geometry.{Geometry}
use Rattle.lc_record.specs.declared.record.Record.{Record}
use Rattle.lc_model.specs.History.{Entry, value}
use Rattle.lc_model.specs.Refusals.{is_at}
use Rattle.lc_model.specs.Stored.{records_of, stable_number}
use Rattle.lc_token.specs.declared.token.Token.{Token}
use Rattle.lc_token.specs.KnownClean.{known as known_of}
use Rattle.lc_tx.specs.declared.image.Image.{Image as Picture}
use Rattle.lc_rest.specs.Adopted.{history_of, transaction_of}
use Rattle.lc_rest.specs.Found.{Found, machine_disks, machine_setting, machine_state}
use Rattle.lc_rest.specs.Holder.{IsPlaced, node_of}
use Rattle.lc_rest.specs.Merge.{number_at}
use Rattle.lc_rest.specs.Passed.{Read, log_of, merged}
use Rattle.lc_rest.specs.Replay.{AreBytes}
use Rattle.lc_rest.specs.declared.holder.Holder.{Holder}
use Rattle.lc_core.specs.Adopting.{IsAdoptedUp, numbers_of}
use Rattle.lc_rest.specs.AtRest.{AreReadAreas}
use Rattle.lc_core.specs.Made.{AreFound}
use Rattle.lc_rest.specs.Parts.{AreHonest, AreSpelled}
use Rattle.lc_core.specs.Adoption.{IsAdoption}
use Rattle.lc_core.specs.World.{FitsPhase}
use Rattle.lc_rest.specs.declared.node_part.NodePart.{NodePart}
use Rattle.lc_journal.specs.declared.node_piece.NodePiece.{NodePiece}
use Rattle.lc_rest.specs.declared.parts.Parts.{Parts}
use Rattle.lc_core.specs.declared.world_phase.WorldPhase.{WorldPhase}
use Rattle.lc_core.specs.declared.world_phase.WorldPhase.TheVariants.{Up}
use Rattle.lc_rest.specs.declared.segment_part.SegmentPart.{SegmentPart}
use Rattle.lc_desk.specs.declared.segment_pieces.SegmentPieces.{SegmentPieces}
use Rattle.lc_core.specs.declared.up.Up.{Up as UpStore}
use Rattle.lc_core.specs.declared.world.World.{World}
use Rattle.lc_core.proofs.Adoptions.{at_here}
use Rattle.lc_core.proofs.AdoptsUp.{up-fits, up-honest}
use Rattle.lc_core.proofs.OneSpelling.{one_spelling, spelled_both}
use Rattle.lc_core.proofs.PartsFound.{parts_found}
use Rattle.lc_core.proofs.PartsPass.{Agree, at_segment, front_parts, nodes_count, placed, segment_part, segment_piece, segments_count}
use Rattle.lc_core.proofs.PartsStand.{base_is, log_records, stable_is, stood_consistent, stood_for, stood_tested, value_bytes}
use Rattle.lc_core.proofs.UpToNumber.{none_above}

closed_all : (g : Geometry) (rs : List Record) → All (λ (e : Entry). e.closed ≡ true) (history_of g rs)
closed_all g [] = All-nil (λ (e : Entry). e.closed ≡ true)
closed_all g (r ∷ rs) = All-cons (λ (e : Entry). e.closed ≡ true) (record { transaction = transaction_of g r; closed = true }) (history_of g rs) refl (closed_all g rs)

nodes_known : (g : Geometry) (nodes : ℕ) (rs : List Record) → All (λ (r : Record). r.node < nodes) rs → All (λ (e : Entry). e.transaction.node < nodes) (history_of g rs)
nodes_known g nodes [] known = All-nil (λ (e : Entry). e.transaction.node < nodes)
nodes_known g nodes (r ∷ rs) known =
    All-cons (λ (e : Entry). e.transaction.node < nodes) (record { transaction = transaction_of g r; closed = true }) (history_of g rs) (All-head (λ (q : Record). q.node < nodes) r rs known)
    (nodes_known g nodes rs (All-tail (λ (q : Record). q.node < nodes) r rs known))

module _ {D : Type 0} (a : Ghosts D) (parts : Parts D a) (h : Read) (segments : SegmentPieces) (tokens : List (Option Token)) (pieces : List (NodePiece D a)) (areas : List D)
    (its : Agree a parts h segments tokens pieces areas) where
  known_segment : (k : ℕ) (part : SegmentPart D) → slice_get parts.segments.items k ≡ Some part → k < h.geometry.segments
  known_segment k part at = (let within = slice_get_within parts.segments.items k part at in let count = segments_count a parts h segments tokens pieces areas its in omega (arith, within, count))

  start_bytes : (AreHonest a parts → AreReadAreas a parts h) → AreHonest a parts → (k : ℕ) (part : SegmentPart D) → slice_get parts.segments.items k ≡ Some part
      → AreBytes (a.now part.area) parts.geometry.pages (segment_of (k + 1) (stood_for h).base)
  start_bytes areas_read honest k part at =
      let known = known_segment k part at in
      let bytes = its.read.bytes k (slice_get_within parts.segments.items k part at) in
      subst (λ (area : List ℕ). AreBytes area parts.geometry.pages (segment_of (k + 1) (stood_for h).base)) (areas_read honest k part at)
      (subst (λ (g : Geometry). AreBytes (h.area (k + 1)) g.pages (segment_of (k + 1) (stood_for h).base)) its.read.geometry
      (subst (λ (content : List ℕ). AreBytes (h.area (k + 1)) h.geometry.pages content) (sym (base_is a parts h segments tokens pieces areas its k known)) bytes))

  -- The records of a node, as what is read of its log, and as those of the state

  stable_spelled : (n : ℕ) (part : NodePart D a) → slice_get parts.nodes.items n ≡ Some part → AreSpelled part.stable.items (drop (h.dropped n) (take (slice_index_or h.counts n 0) (log_of h n)))
  stable_spelled n part at = (its.read.logs n part at).published

  all_spelled : (n : ℕ) (part : NodePart D a) → slice_get parts.nodes.items n ≡ Some part → AreSpelled ((part.ended.items ++ part.stable.items) ++ part.staged.items) (log_of h n)
  all_spelled n part at =
      let log = its.read.logs n part at in
      let stable : ℕ = slice_index_or h.counts n 0 in
      let front : List Record = take (h.dropped n) (log_of h n) in
      let behind : List Record = drop (h.dropped n) (take stable (log_of h n)) in
      let published : AreSpelled (part.ended.items ++ part.stable.items) (take stable (log_of h n)) =
      subst (AreSpelled (part.ended.items ++ part.stable.items)) (front_parts (h.dropped n) stable (log_of h n) log.dropped_stable)
      (spelled_both part.ended.items part.stable.items front behind log.ended log.published) in
      subst (AreSpelled ((part.ended.items ++ part.stable.items) ++ part.staged.items)) (take-append-drop stable (log_of h n))
      (spelled_both (part.ended.items ++ part.stable.items) part.staged.items (take stable (log_of h n)) (drop stable (log_of h n)) published log.staged)

  of_state : (n : ℕ) (words : List ℕ) (some : List Record → List Record) → AreSpelled words (some (log_of h n))
      → AreSpelled words (some (records_of (machine_setting (stood_for h)) (machine_state (stood_for h)) (machine_disks (stood_for h)) n))
  of_state n words some = subst (λ (rs : List Record). AreSpelled words (some rs)) (sym (log_records a parts h segments tokens pieces areas its n))

  acked_all : (n : ℕ) (part : NodePart D a) (published : List Record) → slice_get parts.nodes.items n ≡ Some part → AreSpelled (part.ended.items ++ part.stable.items) published → slice_index_or h.counts n 0 ≡ length published
  acked_all n part published at spelled =
      let log = its.read.logs n part at in
      let stable : ℕ = slice_index_or h.counts n 0 in
      let front : List Record = take (h.dropped n) (log_of h n) in
      let behind : List Record = drop (h.dropped n) (take stable (log_of h n)) in
      let same : published ≡ take stable (log_of h n) =
      one_spelling (part.ended.items ++ part.stable.items) published (front ++ behind) spelled (spelled_both part.ended.items part.stable.items front behind log.ended log.published)
      ∙ front_parts (h.dropped n) stable (log_of h n) log.dropped_stable in
      let few = log.few in
      let count = ap length same in
      omega (arith, few, count, length-take stable (log_of h n))

  applied_where : (n k : ℕ) (part : SegmentPart D) → slice_get parts.segments.items k ≡ Some part
      → h.applied n (k + 1) ≡ (if is_at n (h.place (k + 1)) then part.token.seq else stable_number parts.geometry (machine_state (stood_for h)) (machine_disks (stood_for h)) (k + 1))
  applied_where n k part at =
      let known = known_segment k part at in
      let piece = segment_piece a parts h segments tokens pieces areas its k known in
      let stable : piece.0.stable ≡ stable_number parts.geometry (machine_state (stood_for h)) (machine_disks (stood_for h)) (k + 1) =
      stable_is a parts h segments tokens pieces areas its k piece.0 piece.2
      ∙ ap (λ (g : Geometry). stable_number g (machine_state (stood_for h)) (machine_disks (stood_for h)) (k + 1)) its.read.geometry in
      piece.2.applied n
      ∙ ap (λ b. if b then (h.token (k + 1)).seq else piece.0.stable) (sym (at_here n (h.holder (k + 1)) (h.place (k + 1)) (placed a parts h segments tokens pieces areas its k known)))
      ∙ ap (λ (t : Token). if is_at n (h.place (k + 1)) then t.seq else piece.0.stable) (its.read.tokens k part at)
      ∙ ap (λ (i : ℕ). if is_at n (h.place (k + 1)) then part.token.seq else i) stable

  clean_known : (n segment : ℕ) (part : NodePart D a) → 1 ≤ segment → segment ≤ h.geometry.segments → slice_get parts.nodes.items n ≡ Some part → known_of part.known segment ≤ (h.token segment).clean
  clean_known n segment part first last at =
      at_segment a parts h segments tokens pieces areas its (λ (s : ℕ). known_of part.known s ≤ (h.token s).clean)
      (λ k known.
      (let its_part = segment_part a parts h segments tokens pieces areas its k known in
      let within = slice_get_within parts.nodes.items n part at in
      let count = nodes_count a parts h segments tokens pieces areas its in
      let low = (its.passes.own n (omega (arith, within, count))).known_clean k its_part.0 its_part.1 in
      let same = its.read.known n (k + 1) part at in
      let clean = ap (λ (t : Token). t.clean) (its.read.tokens k its_part.0 its_part.1) in
      omega (arith, low, same, clean))) segment first last

  -- the image where the token is has all that was applied
  image_value : (k : ℕ) (part : SegmentPart D) (node : NodePart D a) (image : Picture) → slice_get parts.segments.items k ≡ Some part → slice_get parts.nodes.items (node_of part.holder) ≡ Some node → slice_get node.images.items k ≡ Some image
      → segment_of (k + 1) (value (stood_for h).base [] (machine_state (stood_for h)).history) ≡ image.bytes.items
  image_value k part node image at node_at image_at =
      let known = known_segment k part at in
      let test = its.passes.images (k + 1) (omega arith) (omega (arith, known)) in
      let place : k ≡ k + 1 - 1 = omega arith in
      let there : slice_get parts.nodes.items (node_of (h.holder (k + 1))) ≡ Some node =
      ap (λ (holder : Holder). slice_get parts.nodes.items (node_of holder)) (its.read.holders k part at) ∙ node_at in
      let number = test.there node there in
      let ends = test.replay.ends in
      let tested = stood_tested a parts h segments tokens pieces areas its in
      value_bytes a parts h segments tokens pieces areas its k known
      ∙ sym (test.images (node_of (h.holder (k + 1))) node image there (subst (λ (i : ℕ). slice_get node.images.items i ≡ Some image) place image_at))
      ∙ none_above h.geometry (k + 1) (number_at node.applied.items (k + 1)) (merged h) (number_at h.numbers) image.bytes.items tested.taken tested.follow (omega (arith, number, ends))

  pub parts_adopt : (up : UpStore D a) (world : World D a) → (AreHonest a parts → AreReadAreas a parts h) → ((f : Found) → AreFound a f segments tokens pieces areas → IsAdoptedUp a f up) → world.phase ≡ Up up → IsAdoption a parts world
  parts_adopt up world areas_read adopted phase =
      let f : Found = stood_for h in
      record {
        setting = machine_setting f;
        state = machine_state f;
        numbers = numbers_of f;
        geometry = its.read.geometry;
        fits = λ honest.
            subst (λ (p : WorldPhase D a). FitsPhase a (machine_setting f) p (machine_state f) (numbers_of f)) (sym phase)
            (let its_up = adopted f (parts_found a parts h segments tokens pieces areas its honest (areas_read honest)) in
            (up-fits a f up (stood_consistent a parts h segments tokens pieces areas its) its_up, up-honest a f up its_up));
        quiet = record { up = refl; none_open = refl; all_closed = closed_all h.geometry (merged h); no_flush = λ n. refl; none_halted = λ n. refl };
        begins = start_bytes areas_read;
        none_earlier = refl;
        nodes = subst (λ (g : Geometry). All (λ (e : Entry). e.transaction.node < g.nodes) (history_of h.geometry (merged h))) its.read.geometry
            (nodes_known h.geometry h.geometry.nodes (merged h) (stood_tested a parts h segments tokens pieces areas its).nodes);
        records = λ n part at. of_state n ((part.ended.items ++ part.stable.items) ++ part.staged.items) (λ rs. rs) (all_spelled n part at);
        dropped_acked = λ n part at. (its.read.logs n part at).dropped_stable;
        ended = λ n part at. of_state n part.ended.items (take (h.dropped n)) (its.read.logs n part at).ended;
        stable = λ n part at. of_state n part.stable.items (λ rs. drop (h.dropped n) (take (slice_index_or h.counts n 0) rs)) (stable_spelled n part at);
        staged = λ n part at. of_state n part.staged.items (drop (slice_index_or h.counts n 0)) (its.read.logs n part at).staged;
        acked = acked_all;
        applied = λ n k part known at. applied_where n k part at;
        round = λ n part at. its.read.rounds n part at;
        clean = λ k part at. ap (λ (t : Token). t.clean) (its.read.tokens k part at);
        known = λ n segment part first last at. clean_known n segment part first (let same = ap (λ (g : Geometry). g.segments) its.read.geometry in omega (arith, last, same)) at;
        place = λ k part at. subst (λ (holder : Holder). IsPlaced holder (h.place (k + 1))) (its.read.holders k part at) (placed a parts h segments tokens pieces areas its k (known_segment k part at));
        value_is = image_value;
      }
