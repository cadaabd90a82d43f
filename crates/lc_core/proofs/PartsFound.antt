-- The pieces that are built of the parts of a cluster at rest are found in what these stand for, where the areas are honest.
use Rattle.std.proofs.Common.{◌≡◌, ℕ, ◌+◌, ◌<◌, true, false, List, [], ◌∷◌, length, map, take, drop, Option, Some, refl, sym, ap, subst, ◌∙◌, arith}
use Rattle.std.specs.Prelude.{slice_get, slice_index_or, if◌then◌else◌}
use Rattle.std.proofs.lemmas.Option.{slice_get_within}
use Rattle.lc_disk.specs.declared.area.Area.{Ghosts}
use Rattle.lc_log.specs.NodeLog.{IsIdle}
use Rattle.lc_page.specs.Page.{page_in, slot_bytes, text_in}
use Rattle.lc_page.specs.PageVector.{entry_at}
use Rattle.lc_page.specs.PageWrite.{IsSettled}
use Rattle.lc_page.specs.declared.page_text.PageText.{PageText}
use Rattle.lc_page.proofs.SlotLemmas.{all_kept, slot_fits, slot_itself}
use Rattle.lc_page.proofs.StateLemmas.{kept_settled}
use Rattle.lc_record.specs.Record.{spelling}
use Rattle.lc_record.specs.declared.geometry.Geometry.{Geometry}
use Rattle.lc_record.specs.declared.record.Record.{Record}
use Rattle.lc_model.specs.Refusals.{is_at}
use Rattle.lc_token.specs.declared.token.Token.{Token}
use Rattle.lc_token.specs.KnownClean.{known as known_of}
use Rattle.lc_rest.specs.Found.{own_records}
use Rattle.lc_rest.specs.Holder.{IsPlaced, node_of}
use Rattle.lc_rest.specs.Passed.{Read, log_of}
use Rattle.lc_rest.specs.declared.holder.Holder.{Holder}
use Rattle.lc_core.specs.Adopting.{IsAdoptedToken}
use Rattle.lc_rest.specs.AtRest.{AreReadAreas}
use Rattle.lc_reading.specs.Built.{IsPieceOf}
use Rattle.lc_journal.specs.Kept.{closed_record}
use Rattle.lc_core.specs.Made.{AreFound, IsFoundArea, IsFoundNode, IsFoundSegment}
use Rattle.lc_rest.specs.Parts.{AreHonest}
use Rattle.lc_journal.specs.Records.{KeptRecords, marks_of}
use Rattle.lc_journal.specs.declared.node_piece.NodePiece.{NodePiece}
use Rattle.lc_rest.specs.declared.parts.Parts.{Parts}
use Rattle.lc_desk.specs.declared.segment_piece.SegmentPiece.{SegmentPiece}
use Rattle.lc_desk.specs.declared.segment_pieces.SegmentPieces.{SegmentPieces}
use Rattle.lc_core.proofs.Adopts.{segment-last}
use Rattle.lc_core.proofs.Adoptions.{at_here}
use Rattle.lc_core.proofs.OneSpelling.{one_spelling}
use Rattle.lc_core.proofs.PartsPass.{Agree, applied_here, known_tame, log_read, node_part, nodes_count, placed, segment_part, segments_count}
use Rattle.lc_core.proofs.PartsStand.{bytes_to, last_is, own_log, stood_consistent, stood_for, value_bytes}

-- what is kept of records that are closed

words_closed : (rs : List Record) → map (λ r. r.words) (map closed_record rs) ≡ map spelling rs
words_closed [] = refl
words_closed (r ∷ rs) = ap (λ l. spelling r ∷ l) (words_closed rs)

marks_closed : (rs : List Record) → marks_of (map closed_record rs) ≡ map (λ (r : Record). true) rs
marks_closed [] = refl
marks_closed (r ∷ rs) = ap (λ l. true ∷ l) (marks_closed rs)

module _ {D : Type 0} (a : Ghosts D) (parts : Parts D a) (h : Read) (segments : SegmentPieces) (tokens : List (Option Token)) (pieces : List (NodePiece D a)) (areas : List D)
    (its : Agree a parts h segments tokens pieces areas) where
  -- A segment

  token_found : (k : ℕ) → k < h.geometry.segments → IsAdoptedToken (stood_for h) (k + 1) (h.token (k + 1))
  token_found k known =
      let part = segment_part a parts h segments tokens pieces areas its k known in
      let test = its.passes.tokens (k + 1) (omega arith) (omega (arith, known)) in
      let same : part.0.token ≡ h.token (k + 1) = sym (its.read.tokens k part.0 part.1) in
      record {
        segment_is = test.segment_is;
        number = sym (last_is a parts h segments tokens pieces areas its k known);
        clean = refl;
        pages = test.entries;
        touched = λ page in_pages. refl;
        stable = λ page in_pages. ap (λ (t : PageText). t.seq) (test.kept.read page in_pages).text;
        text = λ page in_pages. (test.kept.read page in_pages).text;
        uncounted = λ page in_pages.
            (let count = test.entries in
            subst (λ (t : Token). page < length t.pages → (entry_at t.pages page).uncommitted ≡ 0) same ((its.kept.pages k part.0 part.1).free page) (omega (arith, in_pages, count)));
      }

  elsewhere : (n k : ℕ) (piece : SegmentPiece) → k < h.geometry.segments → IsPieceOf h (k + 1) piece → is_at n (h.place (k + 1)) ≡ false → h.applied n (k + 1) ≡ piece.stable
  elsewhere n k piece known of away =
      of.applied n ∙ ap (λ b. if b then (h.token (k + 1)).seq else piece.stable) (sym (at_here n (h.holder (k + 1)) (h.place (k + 1)) (placed a parts h segments tokens pieces areas its k known)) ∙ away)

  segment_found : (k : ℕ) (piece : SegmentPiece) (token : Option Token) → k < h.geometry.segments → slice_get segments.pieces.items k ≡ Some piece → slice_get tokens k ≡ Some token → IsFoundSegment (stood_for h) (k + 1) piece token
  segment_found k piece token known at there =
      let part = segment_part a parts h segments tokens pieces areas its k known in
      let of = its.built.segments_are k piece at in
      let test = its.passes.tokens (k + 1) (omega arith) (omega (arith, known)) in
      record {
        placed = subst (λ (holder : Holder). IsPlaced holder (h.place (k + 1))) (sym of.holder) (placed a parts h segments tokens pieces areas its k known);
        known = subst (λ (holder : Holder). node_of holder < h.geometry.nodes) (sym of.holder) test.node;
        its = h.token (k + 1);
        there = its.built.tokens_are k part.0 token part.1 there ∙ ap Some (sym (its.read.tokens k part.0 part.1));
        token_is = token_found k known;
        bytes = of.bytes ∙ sym (value_bytes a parts h segments tokens pieces areas its k known)
            ∙ sym (segment-last (stood_for h) (stood_consistent a parts h segments tokens pieces areas its) (k + 1) _ refl);
        stable_bytes = of.stable_bytes ∙ bytes_to a parts h segments tokens pieces areas its k piece.stable known;
        here = λ n here. applied_here a parts h segments tokens pieces areas its n k known here ∙ sym (last_is a parts h segments tokens pieces areas its k known);
        elsewhere = λ n away. elsewhere n k piece known of away;
      }

  -- Where the areas are honest

  module _ (honest : AreHonest a parts) (areas_read : AreReadAreas a parts h) where
    node_found : (n : ℕ) (piece : NodePiece D a) → n < h.geometry.nodes → slice_get pieces n ≡ Some piece → IsFoundNode a (stood_for h) n piece
    node_found n piece known at =
        let part = node_part a parts h segments tokens pieces areas its n known in
        let of = its.built.nodes n part.0 piece part.1 at in
        let keeps = its.kept.logs n part.0 part.1 in
        let log = log_read a parts h segments tokens pieces areas its n known in
        let own = own_log a parts h segments tokens pieces areas its n in
        let same : keeps.stable ≡ drop (h.dropped n) (take (slice_index_or h.counts n 0) (own_records (stood_for h) n)) =
        one_spelling part.0.stable.items keeps.stable (drop (h.dropped n) (take (slice_index_or h.counts n 0) (log_of h n))) keeps.stable_are log.published
        ∙ ap (λ (rs : List Record). drop (h.dropped n) (take (slice_index_or h.counts n 0) rs)) (sym own) in
        record {
          log = subst (λ (rs : List Record). IsIdle a piece.log.area piece.log.end rs) same (subst (λ l. IsIdle a l.area l.end keeps.stable) (sym of.log) keeps.log);
          honest = ap (λ l. a.honest l.area) of.log ∙ honest.0 n part.0 part.1;
          before = ap (λ (k : KeptRecords). k.before) of.records;
          words = ap (λ (k : KeptRecords). map (λ r. r.words) k.records) of.records ∙ words_closed (drop (h.dropped n) (log_of h n)) ∙ ap (λ (rs : List Record). map spelling (drop (h.dropped n) rs)) (sym own);
          marks = ap (λ (k : KeptRecords). marks_of k.records) of.records ∙ marks_closed (drop (h.dropped n) (log_of h n)) ∙ ap (λ (rs : List Record). map (λ (r : Record). true) (drop (h.dropped n) rs)) (sym own);
          stable = of.stable;
          round = of.round ∙ sym (its.read.rounds n part.0 part.1);
          known = λ segment first last. ap (λ (k : List ℕ). known_of k segment) of.known ∙ known_tame a parts h segments tokens pieces areas its n segment known;
        }

    area_found : (k : ℕ) (area : D) → k < h.geometry.segments → slice_get areas k ≡ Some area → IsFoundArea a (stood_for h) (k + 1) area
    area_found k area known at =
        let part = segment_part a parts h segments tokens pieces areas its k known in
        let same = its.built.areas_are k part.0 area part.1 at in
        let honest_old : a.honest part.0.area ≡ true = honest.1 k part.0 part.1 in
        let read : h.area (k + 1) ≡ a.now part.0.area = areas_read k part.0 part.1 in
        let now : a.now area ≡ a.now part.0.area = same.now honest_old in
        record {
          honest = same.honest ∙ honest_old;
          settled = λ page in_pages honest_new.
              (let keeps = (its.kept.pages k part.0 part.1).settled page (let pages = ap (λ (g : Geometry). g.pages) its.read.geometry in omega (arith, in_pages, pages)) in
              let old : IsSettled (a.now part.0.area) (a.dirty part.0.area) page keeps.0 = keeps.1 honest_old in
              let bytes : (at : ℕ) → slice_index_or (a.now part.0.area) at 0 < 256 =
              λ at. subst (λ (l : List ℕ). slice_index_or l at 0 < 256) read (its.read.of_bytes k at (let count = segments_count a parts h segments tokens pieces areas its in omega (arith, known, count))) in
              let text : text_in (a.now part.0.area) page ≡ keeps.0 = old.text_is (slot_bytes (a.now part.0.area) page)
              (λ slot. slot_itself (a.now part.0.area) (a.dirty part.0.area) page slot (slot_fits (a.now part.0.area) page slot bytes)) in
              subst (λ (t : PageText). IsSettled (a.now area) (a.dirty area) page t) (sym text ∙ ap (λ (l : List ℕ). text_in l page) (sym read))
              (kept_settled (a.now part.0.area) (a.now area) (a.dirty part.0.area) (a.dirty area) page keeps.0
              (all_kept page (a.now part.0.area) (a.now area) (a.dirty part.0.area) (a.dirty area) now (λ at clean. same.dirty honest_old at ∙ clean)) old));
          reads = λ page in_pages. ap (λ (l : List ℕ). page_in l page) (now ∙ sym read);
        }

    pub parts_found : AreFound a (stood_for h) segments tokens pieces areas
    parts_found = record {
      geometry = its.built.geometry ∙ sym its.read.geometry;
      nodes = λ n piece at.
          node_found n piece (let within = slice_get_within pieces n piece at in let count = its.built.pieces_count in let nodes = nodes_count a parts h segments tokens pieces areas its in omega (arith, within, count, nodes)) at;
      segments_are = λ k piece token at there.
          segment_found k piece token (let within = slice_get_within tokens k token there in let count = its.built.tokens_count in let all = segments_count a parts h segments tokens pieces areas its in omega (arith, within, count, all)) at there;
      areas_are = λ k area at.
          area_found k area (let within = slice_get_within areas k area at in let count = its.built.areas_count in let all = segments_count a parts h segments tokens pieces areas its in omega (arith, within, count, all)) at;
    }
