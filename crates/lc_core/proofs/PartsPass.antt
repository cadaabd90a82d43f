-- What is read of the parts of a cluster at rest passes the tests of its records, tokens and pages, where all parts agree.
use Rattle.std.proofs.Common.{◌≡◌, ℕ, zero, suc, ◌+◌, ◌-◌, ◌<◌, ◌≤◌, Bool, true, false, ◌==◌, List, [], ◌∷◌, ◌++◌, All, length, take, drop, Option, Some, refl, sym, ap, subst, ◌∙◌, inl, inr, arith, eqb-true, eq-eqb}
use Rattle.std.specs.Prelude.{nat_lt, slice_get, slice_index_or, if◌then◌else◌}
use Rattle.std.specs.Option.{unwrap_or}
use Rattle.std.proofs.lemmas.Bool.{cases_lt, ltb-true, lt-ltb}
use Rattle.std.proofs.lemmas.List.{get_or_past, take-append-drop}
use Rattle.std.proofs.lemmas.List.Elements.{All-append, All-head, All-tail}
use Rattle.lc_disk.specs.declared.area.Area.{Ghosts}
use Rattle.lc_log.specs.LogText.{IsWhole}
use Rattle.lc_record.specs.Newest.{number_or_zero}
use Rattle.lc_record.specs.Part.{number_in}
use Rattle.lc_record.specs.declared.geometry.Geometry.{Geometry}
use Rattle.lc_record.specs.declared.record.Lock.{Lock}
use Rattle.lc_record.specs.declared.record.Record.{Record}
use Rattle.lc_record.proofs.ListLemmas.{slice_get_some as some_at}
use Rattle.lc_model.specs.Refusals.{is_at}
use Rattle.lc_model.specs.Sound.{IsPlace}
use Rattle.lc_model.specs.State.{Place, At}
use Rattle.lc_token.specs.declared.token.Token.{Token}
use Rattle.lc_token.specs.KnownClean.{known as known_of}
use Rattle.lc_rest.specs.Holder.{IsPlaced, node_of}
use Rattle.lc_rest.specs.Merge.{no_record, number_at}
use Rattle.lc_rest.specs.Passed.{Passes, Read, log_of}
use Rattle.lc_rest.specs.Replay.{AreBytes}
use Rattle.lc_rest.specs.TokenTest.{count_on}
use Rattle.lc_rest.specs.declared.holder.Holder.{Holder}
use Rattle.lc_rest.specs.declared.holder.Holder.TheVariants.{Here, Left}
use Rattle.lc_rest.specs.AtRest.{IsReadLog, IsReadOf, PassesAll}
use Rattle.lc_core.specs.Built.{IsBuiltOf}
use Rattle.lc_reading.specs.Built.{IsPieceOf}
use Rattle.lc_rest.specs.Parts.{AreKept, IsKnownClean}
use Rattle.lc_desk.specs.Pieces.{is_here}
use Rattle.lc_rest.specs.declared.node_part.NodePart.{NodePart}
use Rattle.lc_journal.specs.declared.node_piece.NodePiece.{NodePiece}
use Rattle.lc_rest.specs.declared.parts.Parts.{Parts}
use Rattle.lc_rest.specs.declared.segment_part.SegmentPart.{SegmentPart}
use Rattle.lc_desk.specs.declared.segment_piece.SegmentPiece.{SegmentPiece}
use Rattle.lc_desk.specs.declared.segment_pieces.SegmentPieces.{SegmentPieces}
use Rattle.lc_core.proofs.Adoptions.{at_here}
use Rattle.lc_core.proofs.OneSpelling.{one_spelling}
use Rattle.lc_core.proofs.StableCounts.{stable_within}

-- the parts are kept, what was read of them passes all tests, and the pieces are built of it
pub record Agree {D : Type 0} (a : Ghosts D) (parts : Parts D a) (h : Read) (segments : SegmentPieces) (tokens : List (Option Token)) (pieces : List (NodePiece D a)) (areas : List D) : Type 0 where
  pub kept : AreKept a parts
  pub read : IsReadOf a parts h
  pub passes : PassesAll a parts h
  pub built : IsBuiltOf a parts h segments tokens pieces areas

-- what was read, without a node that is not there
abbrev pub tame : Read → Read
tame h = record h { known = λ node segment. if nat_lt node h.geometry.nodes then h.known node segment else 0 }

-- Records and numbers

-- what stands in front, in two parts
pub front_parts : {A : Type 0} (few many : ℕ) (xs : List A) → few ≤ many → take few xs ++ drop few (take many xs) ≡ take many xs
front_parts zero many xs within = refl
front_parts (suc few) zero xs within = absurd (omega (arith, within))
front_parts (suc few) (suc many) [] within = refl
front_parts (suc few) (suc many) (x ∷ xs) within = ap (λ l. x ∷ l) (front_parts few many xs (omega (arith, within)))

-- the number under a lock is known as clean where all are
number_known : (known : List ℕ) (segment : ℕ) (locks : List Lock) → All (λ (lock : Lock). lock.seq ≤ known_of known lock.segment) locks → number_or_zero segment locks ≤ known_of known segment
number_known known segment [] all = omega arith
number_known known segment (lock ∷ locks) all =
    go (lock.segment == segment) refl (All-head (λ (l : Lock). l.seq ≤ known_of known l.segment) lock locks all)
    (number_known known segment locks (All-tail (λ (l : Lock). l.seq ≤ known_of known l.segment) lock locks all))
  where
    go : (b : Bool) → (lock.segment == segment) ≡ b → lock.seq ≤ known_of known lock.segment → unwrap_or (number_in segment locks) 0 ≤ known_of known segment
        → unwrap_or (if b then Some lock.seq else number_in segment locks) 0 ≤ known_of known segment
    go true is own rest = subst (λ (s : ℕ). lock.seq ≤ known_of known s) (eqb-true lock.segment segment is) own
    go false is own rest = rest

place_known : (g : Geometry) (holder : Holder) (place : Place) → IsPlaced holder place → node_of holder < g.nodes → IsPlace g place
place_known g (Here node) place placed known = subst (λ (p : Place). IsPlace g p) (sym placed) known
place_known g (Left node) place placed known = subst (λ (p : Place). IsPlace g p) (sym placed) tt

module _ {D : Type 0} (a : Ghosts D) (parts : Parts D a) (h : Read) (segments : SegmentPieces) (tokens : List (Option Token)) (pieces : List (NodePiece D a)) (areas : List D)
    (its : Agree a parts h segments tokens pieces areas) where
  pub nodes_count : length parts.nodes.items ≡ h.geometry.nodes
  nodes_count = its.kept.nodes ∙ ap (λ (g : Geometry). g.nodes) (sym its.read.geometry)

  pub segments_count : length parts.segments.items ≡ h.geometry.segments
  segments_count = its.kept.segments ∙ ap (λ (g : Geometry). g.segments) (sym its.read.geometry)

  logs_count : length h.logs ≡ h.geometry.nodes
  logs_count = its.read.count ∙ nodes_count

  pieces_count : length segments.pieces.items ≡ h.geometry.segments
  pieces_count = (let same = ap (λ (g : Geometry). g.segments) (its.built.geometry ∙ sym its.read.geometry) in let count = segments.count in let ok = segments.pieces.ok.0 in omega (arith, same, count, ok))

  pub node_part : (n : ℕ) → n < h.geometry.nodes → (part : NodePart D a) × (slice_get parts.nodes.items n ≡ Some part)
  node_part n known = some_at parts.nodes.items n (let count = nodes_count in omega (arith, known, count))

  pub segment_part : (k : ℕ) → k < h.geometry.segments → (part : SegmentPart D) × (slice_get parts.segments.items k ≡ Some part)
  segment_part k known = some_at parts.segments.items k (let count = segments_count in omega (arith, known, count))

  pub segment_piece : (k : ℕ) → k < h.geometry.segments → (piece : SegmentPiece) × (slice_get segments.pieces.items k ≡ Some piece) × IsPieceOf h (k + 1) piece
  segment_piece k known =
      let one = some_at segments.pieces.items k (let count = pieces_count in omega (arith, known, count)) in
      (one.0, one.1, its.built.segments_are k one.0 one.1)

  -- what holds at each place of the segments holds of each segment
  pub at_segment : (P : ℕ → Type 0) → ((k : ℕ) → k < h.geometry.segments → P (k + 1)) → (segment : ℕ) → 1 ≤ segment → segment ≤ h.geometry.segments → P segment
  at_segment P each zero first last = absurd (omega (arith, first))
  at_segment P each (suc k) first last = (let next : k + 1 ≡ suc k = omega arith in subst P next (each k (omega (arith, last))))

  known_node : (n k : ℕ) → k < length (log_of h n) → n < h.geometry.nodes
  known_node n k less = elim (cases_lt n (length h.logs)) [
    | inl within ↦ (let count = logs_count in omega (arith, within, count))
    | inr past ↦ absurd (let none : length (log_of h n) ≡ 0 = ap length (get_or_past h.logs n [] past) in omega (arith, less, none))
  ]

  -- The logs

  pub log_read : (n : ℕ) (known : n < h.geometry.nodes) → IsReadLog a (node_part n known).0 (h.dropped n) (slice_index_or h.counts n 0) (log_of h n)
  log_read n known = (let part = node_part n known in its.read.logs n part.0 part.1)

  whole_log : (n : ℕ) → n < h.geometry.nodes → All IsWhole (log_of h n)
  whole_log n known =
      let log = log_read n known in
      let stable : ℕ = slice_index_or h.counts n 0 in
      subst (λ (l : List Record). All IsWhole l) (take-append-drop stable (log_of h n))
      (All-append IsWhole (take stable (log_of h n)) (drop stable (log_of h n))
      (subst (λ (l : List Record). All IsWhole l) (front_parts (h.dropped n) stable (log_of h n) log.dropped_stable)
      (All-append IsWhole (take (h.dropped n) (log_of h n)) (drop (h.dropped n) (take stable (log_of h n))) log.ended.whole log.published.whole)) log.staged.whole)

  few_stable : (n : ℕ) → slice_index_or h.counts n 0 ≤ length (log_of h n)
  few_stable n = elim (cases_lt n h.geometry.nodes) [
    | inl known ↦ (log_read n known).few
    | inr past ↦ (let count = its.read.counts ∙ nodes_count in let none = get_or_past h.counts n 0 (omega (arith, past, count)) in omega (arith, none))
  ]

  dropped_clean : (n : ℕ) (known : n < h.geometry.nodes) → All (IsKnownClean (node_part n known).0.known) (take (h.dropped n) (log_of h n))
  dropped_clean n known =
      let part = node_part n known in
      let keeps = its.kept.logs n part.0 part.1 in
      subst (λ (l : List Record). All (IsKnownClean part.0.known) l)
      (one_spelling part.0.ended.items keeps.ended (take (h.dropped n) (log_of h n)) keeps.ended_are (log_read n known).ended) keeps.clean

  pub known_tame : (n segment : ℕ) (known : n < h.geometry.nodes) → known_of (node_part n known).0.known segment ≡ (if nat_lt n h.geometry.nodes then h.known n segment else 0)
  known_tame n segment known =
      let part = node_part n known in
      sym (its.read.known n segment part.0 part.1) ∙ ap (λ (b : Bool). if b then h.known n segment else 0) (sym (lt-ltb n h.geometry.nodes known))

  known_clean : (n k : ℕ) → k < h.geometry.segments → (if nat_lt n h.geometry.nodes then h.known n (k + 1) else 0) ≤ (h.token (k + 1)).clean
  known_clean n k known = go (nat_lt n h.geometry.nodes) refl
    where
      go : (b : Bool) → nat_lt n h.geometry.nodes ≡ b → (if b then h.known n (k + 1) else 0) ≤ (h.token (k + 1)).clean
      go true is =
          let part = segment_part k known in
          let low = (its.passes.own n (ltb-true n h.geometry.nodes is)).known_clean k part.0 part.1 in
          let same = ap (λ (t : Token). t.clean) (its.read.tokens k part.0 part.1) in
          omega (arith, low, same)
      go false is = omega arith

  -- The tokens

  pub placed : (k : ℕ) → k < h.geometry.segments → IsPlaced (h.holder (k + 1)) (h.place (k + 1))
  placed k known = its.read.placed k (let count = segments_count in omega (arith, known, count))

  places : (segment : ℕ) → IsPlace h.geometry (h.place segment)
  places zero = subst (λ (p : Place). IsPlace h.geometry p) (sym (its.read.no_segment 0 (inl refl))) tt
  places (suc k) = elim (cases_lt k h.geometry.segments) [
    | inl known ↦
        let next : k + 1 ≡ suc k = omega arith in
        subst (λ (segment : ℕ). IsPlace h.geometry (h.place segment)) next
        (place_known h.geometry (h.holder (k + 1)) (h.place (k + 1)) (placed k known) (its.passes.tokens (k + 1) (omega arith) (omega (arith, known))).node)
    | inr past ↦ (let count = segments_count in subst (λ (p : Place). IsPlace h.geometry p) (sym (its.read.no_segment (suc k) (inr (omega (arith, past, count))))) tt)
  ]

  first_number : (k : ℕ) → k < h.geometry.segments → number_at h.numbers (k + 1) ≡ (h.token (k + 1)).seq - count_on (k + 1) h.logs
  first_number k known = (let part = segment_part k known in its.read.numbers k part.0 part.1 ∙ ap (λ (t : Token). t.seq - count_on (k + 1) h.logs) (sym (its.read.tokens k part.0 part.1)))

  applied_within : (n k : ℕ) → k < h.geometry.segments → h.applied n (k + 1) ≤ (h.token (k + 1)).seq
  applied_within n k known =
      let piece = segment_piece k known in
      let stable = piece.2.stable in
      let few = stable_within (k + 1) h.logs h.counts in
      let all = (its.passes.tokens (k + 1) (omega arith) (omega (arith, known))).kept.few in
      let first = first_number k known in
      go (is_here n (h.holder (k + 1))) piece.0.stable (piece.2.applied n) (omega (arith, stable, few, all, first))
    where
      go : (b : Bool) (stable : ℕ) → h.applied n (k + 1) ≡ (if b then (h.token (k + 1)).seq else stable) → stable ≤ (h.token (k + 1)).seq → h.applied n (k + 1) ≤ (h.token (k + 1)).seq
      go true stable is within = omega (arith, is)
      go false stable is within = omega (arith, is, within)

  pub applied_here : (n k : ℕ) → k < h.geometry.segments → is_at n (h.place (k + 1)) ≡ true → h.applied n (k + 1) ≡ (h.token (k + 1)).seq
  applied_here n k known at =
      let piece = segment_piece k known in
      piece.2.applied n ∙ ap (λ (b : Bool). if b then (h.token (k + 1)).seq else piece.0.stable) (sym (at_here n (h.holder (k + 1)) (h.place (k + 1)) (placed k known)) ∙ at)

  -- All of it

  pub parts_pass : Passes (tame h)
  parts_pass = record {
    count = logs_count;
    own = λ n k d less. ((its.passes.own n (known_node n k less)).own k d less).node_is;
    taken = λ n k less. (let known = known_node n k less in record { canonical = (whole_log n known k no_record less).canonical; inside = ((its.passes.own n known).own k no_record less).inside });
    whole = λ n k less. whole_log n (known_node n k less) k no_record less;
    few = few_stable;
    dropped_stable = λ n known. (log_read n known).dropped_stable;
    dropped_known = λ n known k d less segment first last.
        (let r : Record = slice_index_or (take (h.dropped n) (log_of h n)) k d in
        let within = number_known (node_part n known).0.known segment r.locks (dropped_clean n known k d less) in
        let same = known_tame n segment known in
        omega (arith, within, same));
    known_clean = λ n. at_segment (λ (segment : ℕ). (if nat_lt n h.geometry.nodes then h.known n segment else 0) ≤ (h.token segment).clean) (known_clean n);
    places = places;
    placed = at_segment (λ (segment : ℕ). IsPlaced (h.holder segment) (h.place segment)) placed;
    tokens = λ segment first last. (its.passes.tokens segment first last).kept;
    numbers = its.read.numbers_count ∙ segments_count;
    first = at_segment (λ (segment : ℕ). number_at h.numbers segment ≡ (h.token segment).seq - count_on segment h.logs) first_number;
    turns = its.passes.merged_all.turns;
    all = its.passes.merged_all.all;
    none = its.passes.merged_all.none;
    bytes = at_segment (λ (segment : ℕ). AreBytes (h.area segment) h.geometry.pages (h.bytes segment)) (λ k known. its.read.bytes k (let count = segments_count in omega (arith, known, count)));
    played = λ segment page first last in_pages. (its.passes.images segment first last).replay.played page in_pages;
    ends = λ segment first last. (its.passes.images segment first last).replay.ends;
    applied_within = λ n. at_segment (λ (segment : ℕ). h.applied n segment ≤ (h.token segment).seq) (applied_within n);
    applied_here = λ n. at_segment (λ (segment : ℕ). h.place segment ≡ At n → h.applied n segment ≡ (h.token segment).seq)
        (λ k known at. applied_here n k known (ap (is_at n) at ∙ eq-eqb n n refl));
  }
