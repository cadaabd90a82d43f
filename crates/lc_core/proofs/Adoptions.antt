-- A store that is made of the pieces of a cluster at rest is built of it.
use Rattle.std.proofs.Common.{◌≡◌, ℕ, ◌+◌, ◌<◌, true, false, List, [], length, map, drop, take, Option, Some, None, refl, sym, ap, subst, ◌∙◌, arith}
use Rattle.std.specs.Prelude.{slice_get, if◌then◌else◌}
use Rattle.std.proofs.lemmas.Bool.{eqb-true, lt-ltb}
use Rattle.std.proofs.lemmas.Option.{slice_get_within, same_Some as same_some}
use Rattle.lc_disk.specs.declared.area.Area.{Ghosts}
use Rattle.lc_record.specs.declared.geometry.Geometry.{Geometry}
use Rattle.lc_record.proofs.ListLemmas.{slice_get_some as some_at, slice_get-map_some as get-map}
use Rattle.lc_model.specs.Refusals.{is_at}
use Rattle.lc_model.specs.State.{Place, At, Travelling}
use Rattle.lc_recover.specs.Reads.{AreOfBytes}
use Rattle.lc_rest.specs.Found.{Found, machine_disks, machine_setting, machine_state, own_records}
use Rattle.lc_rest.specs.Holder.{IsPlaced, node_of}
use Rattle.lc_rest.specs.declared.holder.Holder.{Holder}
use Rattle.lc_rest.specs.declared.holder.Holder.TheVariants.{Here, Left}
use Rattle.lc_token.specs.Backlog.{fresh}
use Rattle.lc_token.specs.Standing.{Standing}
use Rattle.lc_token.specs.declared.token.Token.{Token}
use Rattle.lc_token.specs.KnownClean.{known as known_of}
use Rattle.lc_core.specs.Adopting.{IsAdopted, IsAdoptedArea, IsAdoptedNode, IsAdoptedSlot, IsAdoptedToken, IsAdoptedUp}
use Rattle.lc_core.specs.Devices.{HonestLogs}
use Rattle.lc_journal.specs.Log.{Stands, area_of, is_idle}
use Rattle.lc_core.specs.Made.{AreFound, IsFoundNode, IsFoundSegment, IsMadeUp}
use Rattle.lc_events.specs.Pieces.{IsMadeNode}
use Rattle.lc_desk.specs.Pieces.{IsMadeSlot, is_here, standing_at}
use Rattle.lc_core.specs.Pieces.{left_by}
use Rattle.lc_journal.specs.Records.{KeptRecords, marks_of}
use Rattle.lc_desk.specs.Slots.{segment_to}
use Rattle.lc_journal.specs.declared.log.Log.{Log}
use Rattle.lc_events.specs.declared.node_state.NodeState.{NodeState}
use Rattle.lc_journal.specs.declared.node_piece.NodePiece.{NodePiece}
use Rattle.lc_desk.specs.declared.pages.Pages.{Pages}
use Rattle.lc_desk.specs.declared.segment_piece.SegmentPiece.{SegmentPiece}
use Rattle.lc_desk.specs.declared.segment_pieces.SegmentPieces.{SegmentPieces}
use Rattle.lc_desk.specs.declared.segment_copy.SegmentCopy.{SegmentCopy}
use Rattle.lc_core.specs.declared.up.Up.{Up}

-- where a token is, by the machine

pub at_here : (n : ℕ) (holder : Holder) (place : Place) → IsPlaced holder place → is_at n place ≡ is_here n holder
at_here n (Here other) place placed = ap (is_at n) placed
at_here n (Left other) place placed = ap (is_at n) placed

place_is : (n : ℕ) (holder : Holder) (place : Place) → is_here n holder ≡ true → IsPlaced holder place → place ≡ At n
place_is n (Here other) place here placed = placed ∙ ap At (eqb-true other n here)
place_is n (Left other) place here placed = absurd cc

-- A slot

slot_here : (f : Found) (n segment : ℕ) (slot : SegmentCopy) (piece : SegmentPiece) (token : Option Token) (its : IsFoundSegment f segment piece token) → is_here n piece.holder ≡ true
    → IsMadeSlot segment piece (Some its.its) slot → IsAdoptedSlot f n segment slot
slot_here f n segment slot piece token its here made =
    let applied = its.here n (at_here n piece.holder (f.place segment) its.placed ∙ here) in
    let stands : slot.token.token ≡ Some its.its = ap (λ (s : Standing). s.token) made.token in
    record {
      bytes = made.bytes ∙ its.bytes ∙ ap (segment_to (machine_setting f) (machine_state f) (machine_disks f) segment) (sym applied);
      holders = made.holders;
      token = λ t got. (place_is n piece.holder (f.place segment) here its.placed, subst (IsAdoptedToken f segment) (same_some its.its t (sym stands ∙ got)) its.token_is);
      none = λ none. absurd (let no : Some its.its ≡ None = sym stands ∙ none in cc);
      parts = made.parts ∙ ap (fresh segment) (its.token_is.number ∙ sym applied);
    }

slot_away : (f : Found) (n segment : ℕ) (slot : SegmentCopy) (piece : SegmentPiece) (token : Option Token) → IsFoundSegment f segment piece token → is_here n piece.holder ≡ false
    → IsMadeSlot segment piece None slot → IsAdoptedSlot f n segment slot
slot_away f n segment slot piece token its away made =
    let elsewhere = at_here n piece.holder (f.place segment) its.placed ∙ away in
    let applied = its.elsewhere n elsewhere in
    let stands : slot.token.token ≡ None = ap (λ (s : Standing). s.token) made.token in
    record {
      bytes = made.bytes ∙ its.stable_bytes ∙ ap (segment_to (machine_setting f) (machine_state f) (machine_disks f) segment) (sym applied);
      holders = made.holders;
      token = λ t got. absurd (let no : None ≡ Some t = sym stands ∙ got in cc);
      none = λ none. elsewhere;
      parts = made.parts ∙ ap (fresh segment) (sym applied);
    }

slot_adopted : (f : Found) (n segment : ℕ) (slot : SegmentCopy) (piece : SegmentPiece) (token : Option Token) → IsFoundSegment f segment piece token → IsMadeSlot segment piece (standing_at n piece.holder token) slot → IsAdoptedSlot f n segment slot
slot_adopted f n segment slot piece token its made = elim (is_here n piece.holder) as (λ b. is_here n piece.holder ≡ b → IsMadeSlot segment piece (if b then token else None) slot → IsAdoptedSlot f n segment slot) [
  | true ↦ λ here new. slot_here f n segment slot piece token its here (subst (λ (s : Option Token). IsMadeSlot segment piece s slot) its.there new)
  | false ↦ λ away new. slot_away f n segment slot piece token its away new
] refl made

-- A token on its way

travels : (f : Found) (nodes segment : ℕ) (piece : SegmentPiece) (token : Option Token) (got : Token) → nodes ≡ f.geometry.nodes → IsFoundSegment f segment piece token → left_by nodes piece.holder token ≡ Some got → (f.place segment ≡ Travelling) × IsAdoptedToken f segment got
travels f nodes segment piece token got count its left = by piece.holder its.placed its.known left
  where
    by : (holder : Holder) → IsPlaced holder (f.place segment) → node_of holder < f.geometry.nodes → left_by nodes holder token ≡ Some got → (f.place segment ≡ Travelling) × IsAdoptedToken f segment got
    by (Here other) placed known left = absurd (let no : None ≡ Some got = sym (ap (λ b. if b then None else token) (lt-ltb other nodes (omega (arith, count, known)))) ∙ left in cc)
    by (Left other) placed known left = (placed, subst (IsAdoptedToken f segment) (same_some its.its got (sym its.there ∙ left)) its.token_is)

stays : (f : Found) (nodes segment : ℕ) (piece : SegmentPiece) (token : Option Token) → IsFoundSegment f segment piece token → left_by nodes piece.holder token ≡ None → f.place segment ≡ Travelling → ⊥
stays f nodes segment piece token its left = by piece.holder its.placed left
  where
    by : (holder : Holder) → IsPlaced holder (f.place segment) → left_by nodes holder token ≡ None → f.place segment ≡ Travelling → ⊥
    by (Here other) placed left away = (let no : At other ≡ Travelling = sym placed ∙ away in cc)
    by (Left other) placed left away = (let no : Some its.its ≡ None = sym its.there ∙ left in cc)

module _ {D : Type 0} (a : Ghosts D) (f : Found) (contents : SegmentPieces) (tokens : List (Option Token)) (pieces : List (NodePiece D a)) (areas : List D) (found : AreFound a f contents tokens pieces areas) where
  abbrev segments : List SegmentPiece
  segments = contents.pieces.items

  all_pieces : length segments ≡ f.geometry.segments
  all_pieces = (let same = ap (λ (h : Geometry). h.segments) found.geometry in let count = contents.count in let ok = contents.pieces.ok.0 in omega (arith, same, count, ok))

  -- A node

  node_adopted : (n : ℕ) (piece : NodePiece D a) (node : NodeState D a) → length tokens ≡ f.geometry.segments → IsFoundNode a f n piece → IsMadeNode a f.geometry n segments tokens piece node → IsAdoptedNode a f n node
  node_adopted n piece node all its made = record {
    seats = made.seats;
    slots_count = made.count;
    slots = λ k slot at.
        (let within = slice_get_within node.desk.here.slots.items k slot at in
        let count = made.count in
        let piece = some_at segments k (omega (arith, within, count, all_pieces)) in
        let token = some_at tokens k (omega (arith, within, count, all)) in
        slot_adopted f n (k + 1) slot piece.0 token.0 (found.segments_are k piece.0 token.0 piece.1 token.1) (made.slots k slot piece.0 token.0 at piece.1 token.1));
    log = subst (λ (l : Log D a). Stands a l 0 (drop (f.dropped n) (take (f.stable n) (own_records f n))) []) (sym made.journal.log) (refl, refl, its.log);
    works = ap (is_idle a) made.journal.log;
    room = made.room;
    before = ap (λ (k : KeptRecords). k.before) made.journal.records ∙ its.before;
    words = ap (λ (k : KeptRecords). map (λ r. r.words) k.records) made.journal.records ∙ its.words;
    marks = ap (λ (k : KeptRecords). marks_of k.records) made.journal.records ∙ its.marks;
    dropped = made.journal.dropped ∙ its.before;
    trimmed = made.journal.trimmed ∙ its.before;
    taken = made.journal.taken ∙ its.stable;
    acked = made.journal.acked ∙ its.stable;
    round = made.journal.round ∙ its.round;
    known = λ segment first last. ap (λ k. known_of k segment) made.known ∙ its.known segment first last;
  }

  module _ (up : Up D a) (nodes_count : length pieces ≡ f.geometry.nodes) (tokens_count : length tokens ≡ f.geometry.segments) (made : IsMadeUp a f.geometry segments tokens pieces areas up) where
    piece_of : (n : ℕ) (node : NodeState D a) → slice_get up.running.nodes.items n ≡ Some node → (piece : NodePiece D a) × (slice_get pieces n ≡ Some piece)
    piece_of n node at =
        let within = slice_get_within up.running.nodes.items n node at in
        let count = up.running.all_nodes in
        let ok = up.running.nodes.ok.0 in
        let same = ap (λ (h : Geometry). h.nodes) made.geometry in
        some_at pieces n (omega (arith, within, count, ok, same, nodes_count))

    its_left : (k : ℕ) (now : Option Token) → slice_get up.running.travelling.items k ≡ Some now
        → (piece : SegmentPiece) × (token : Option Token) × IsFoundSegment f (k + 1) piece token × (left_by f.geometry.nodes piece.holder token ≡ now)
    its_left k now got =
        let within = slice_get_within up.running.travelling.items k now got in
        let count = up.running.all_places in
        let ok = up.running.travelling.ok.0 in
        let same = ap (λ (h : Geometry). h.segments) made.geometry in
        let piece = some_at segments k (omega (arith, within, count, ok, same, all_pieces)) in
        let token = some_at tokens k (omega (arith, within, count, ok, same, tokens_count)) in (
          piece.0,
          token.0,
          found.segments_are k piece.0 token.0 piece.1 token.1,
          same_some (left_by f.geometry.nodes piece.0.holder token.0) now (sym (made.travelling k piece.0 token.0 piece.1 token.1) ∙ got),
        )

    running_adopted : IsAdopted a f up.running
    running_adopted = record {
      geometry = made.geometry;
      count = (let count = up.running.all_nodes in let ok = up.running.nodes.ok.0 in let same = ap (λ (h : Geometry). h.nodes) made.geometry in omega (arith, count, ok, same));
      each = λ n node at. (let piece = piece_of n node at in node_adopted n piece.0 node tokens_count (found.nodes n piece.0 piece.1) (made.nodes n node piece.0 at piece.1));
      travelling_count = (let count = up.running.all_places in let ok = up.running.travelling.ok.0 in let same = ap (λ (h : Geometry). h.segments) made.geometry in omega (arith, count, ok, same));
      travelling = λ k token got. (let its = its_left k (Some token) got in travels f f.geometry.nodes (k + 1) its.0 its.1 token refl its.2 its.3);
      standing = λ k got. (let its = its_left k None got in stays f f.geometry.nodes (k + 1) its.0 its.1 its.2 its.3);
    }

    honest_logs : HonestLogs a up.running.nodes.items
    honest_logs n node area at is =
        let piece = piece_of n node at in
        let same : piece.0.log.area ≡ area = same_some piece.0.log.area area (sym (ap (area_of a) (made.nodes n node piece.0 at piece.1).journal.log) ∙ is) in
        subst (λ (d : D). a.honest d ≡ true) same (found.nodes n piece.0 piece.1).honest

    area_adopted : AreOfBytes a areas → (k : ℕ) (pages : Pages D a) → slice_get up.segments.items k ≡ Some pages → IsAdoptedArea a f (k + 1) pages
    area_adopted of_bytes k pages at =
        let there : slice_get areas k ≡ Some pages.area = ap (λ (l : List D). slice_get l k) (sym made.areas_are) ∙ get-map (λ (p : Pages D a). p.area) up.segments.items k pages at in
        let its = found.areas_are k pages.area there in
        record {
          honest = its.honest;
          bytes = of_bytes k pages.area there its.honest;
          rest = made.rest k pages at;
          settled = its.settled;
          reads = its.reads;
        }

    up_adopted : AreOfBytes a areas → IsAdoptedUp a f up
    up_adopted of_bytes = record {
      running = running_adopted;
      honest = honest_logs;
      count = (let count = up.all_segments in let ok = up.segments.ok.0 in let same = ap (λ (h : Geometry). h.segments) made.geometry in omega (arith, count, ok, same));
      areas = area_adopted of_bytes;
    }

-- so it is where the geometry is another's that is the same
pub made_adopted : {D : Type 0} (a : Ghosts D) (f : Found) (contents : SegmentPieces) (tokens : List (Option Token)) (pieces : List (NodePiece D a)) (areas : List D) (g : Geometry) (up : Up D a)
    → AreFound a f contents tokens pieces areas → contents.geometry ≡ g → length pieces ≡ g.nodes → length tokens ≡ g.segments → AreOfBytes a areas
    → IsMadeUp a g contents.pieces.items tokens pieces areas up → IsAdoptedUp a f up
made_adopted a f contents tokens pieces areas g up found same nodes segments of_bytes made =
    let is : g ≡ f.geometry = sym same ∙ found.geometry in
    up_adopted a f contents tokens pieces areas found up (nodes ∙ ap (λ (h : Geometry). h.nodes) is) (segments ∙ ap (λ (h : Geometry). h.segments) is)
    (subst (λ (h : Geometry). IsMadeUp a h contents.pieces.items tokens pieces areas up) is made) of_bytes
