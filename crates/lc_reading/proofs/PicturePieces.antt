-- What a segment is made of, and what its images and its pages keep.
use Rattle.std.proofs.Common.{◌≡◌, ℕ, ◌+◌, ◌-◌, ◌*◌, ◌^◌, ◌<◌, ◌≤◌, Bool, true, false, List, [], ◌∷◌, Some, length, ap, refl, sym, ◌∙◌, subst, arith}
use Rattle.std.specs.Prelude.{nat_le, slice_get, slice_index_or, if◌then◌else◌}
use Rattle.std.specs.Global.{Vec}
use Rattle.std.proofs.lemmas.List.{get_or-map}
use Rattle.std.proofs.lemmas.Option.{get_or_from_slice_get}
use Rattle.lc_record.specs.Newest.{number_or_zero}
use Rattle.lc_record.specs.declared.record.Record.{Record}
use Rattle.lc_record.proofs.ListLemmas.{slice_get_some as some_at}
use Rattle.lc_rest.specs.Holder.{node_of}
use Rattle.lc_rest.specs.Merge.{logs_of, merged_after, number_at}
use Rattle.lc_rest.specs.Replay.{IsReplay, bytes_above, bytes_after, laid_on}
use Rattle.lc_rest.specs.Stable.{bytes_up_to, stable_count, up_to_on}
use Rattle.lc_rest.specs.TokenTest.{count_on}
use Rattle.lc_rest.specs.declared.holder.Holder.{Holder}
use Rattle.lc_rest.specs.declared.holder.Holder.TheVariants.{Left}
use Rattle.lc_rest.proofs.Replays.{length-laid}
use Rattle.lc_token.specs.declared.token.Token.{Token}
use Rattle.lc_rest.specs.AtRest.{AllKeepTokens}
use Rattle.lc_reading.specs.Built.{IsPieceOf}
use Rattle.lc_reading.specs.Pictures.{AreApplied, ComesUp}
use Rattle.lc_desk.specs.Pieces.{is_here}
use Rattle.lc_record.specs.Lists.{items_of}
use Rattle.lc_reading.specs.Readings.{KeepsPictures, at_segment, first_numbers, no_token, tests_of}
use Rattle.lc_reading.specs.declared.node_images.NodeImages.{NodeImages}
use Rattle.lc_reading.specs.declared.read_parts.ReadParts.{ReadParts}
use Rattle.lc_desk.specs.declared.segment_piece.SegmentPiece.{SegmentPiece}
use Rattle.lc_reading.proofs.TokenReads.{at_next, number_next}

-- Lengths

pub length_after : (segment : ℕ) (rs : List Record) (bytes : List ℕ) → length (bytes_after segment rs bytes) ≡ length bytes
length_after segment [] bytes = refl
length_after segment (r ∷ rs) bytes = length_after segment rs (laid_on segment r.ranges bytes) ∙ length-laid segment r.ranges bytes

one_up_to : (b : Bool) (segment : ℕ) (r : Record) (bytes : List ℕ) → length (if b then laid_on segment r.ranges bytes else bytes) ≡ length bytes
one_up_to true segment r bytes = length-laid segment r.ranges bytes
one_up_to false segment r bytes = refl

pub length_up_to : (segment number : ℕ) (rs : List Record) (bytes : List ℕ) → length (bytes_up_to segment number rs bytes) ≡ length bytes
length_up_to segment number [] bytes = refl
length_up_to segment number (r ∷ rs) bytes = length_up_to segment number rs (up_to_on segment number r bytes) ∙ one_up_to (nat_le (number_or_zero segment r.locks) number) segment r bytes

pub start_long : (r : ReadParts) (place : ℕ) → place < r.geometry.segments → length ((tests_of r []).bytes (place + 1)) ≡ r.geometry.pages * 256
start_long r place within =
    let less : place < length r.bytes.items = omega (arith, within, r.all_bytes, r.bytes.ok.0) in
    let area = some_at r.areas.items place (omega (arith, within, r.all_areas, r.areas.ok.0)) in
    let start = some_at r.bytes.items place less in
    let here : slice_index_or r.bytes.items place start.0 ≡ start.0 = get_or_from_slice_get r.bytes.items place start.0 start.0 start.1 in
    ap length (at_next [] (items_of r.bytes.items) place ∙ get_or-map (λ (v : Vec ℕ). v.items) r.bytes.items place start.0 [] less ∙ ap (λ (v : Vec ℕ). v.items) here)
    ∙ (r.starts place area.0 start.0 area.1 start.1).len

-- Numbers

-- the first number and all records end at the token's number, which is small
pub first_small : (r : ReadParts) (place first : ℕ) → place < r.geometry.segments → first ≡ number_at (first_numbers r) (place + 1) → AllKeepTokens (tests_of r []) → first + count_on (place + 1) (logs_of r.logs.items) ≤ 2 ^ 60
first_small r place first within is keeps =
    let segment = place + 1 in
    let token = at_segment no_token r.tokens.items segment in
    let less : place < length r.tokens.items = omega (arith, within, r.all_tokens, r.tokens.ok.0) in
    let kept = (keeps segment (omega arith) (omega (arith, within))).kept in
    let same : token ≡ slice_index_or r.tokens.items place no_token = at_next no_token r.tokens.items place in
    let number : first ≡ token.seq - count_on segment (logs_of r.logs.items) = is ∙ number_next r place no_token less ∙ ap (λ (t : Token). t.seq - count_on segment (logs_of r.logs.items)) (sym same) in
    omega (arith, number, kept.few, kept.small)

-- Pieces

module _ (r : ReadParts) (turns : List ℕ) (rs : List Record) (place first : ℕ) (token : Token) (holder : Holder)
    (order : rs ≡ merged_after (logs_of r.logs.items) [] turns) (first_is : first ≡ number_at (first_numbers r) (place + 1))
    (token_is : at_segment no_token r.tokens.items (place + 1) ≡ token) (holder_is : at_segment (Left 0) r.holders.items (place + 1) ≡ holder) where
  pub piece_made : (piece : SegmentPiece) → piece.holder ≡ holder → piece.bytes.items ≡ bytes_after (place + 1) rs ((tests_of r []).bytes (place + 1)) → piece.stable ≡ first + stable_count (place + 1) (logs_of r.logs.items) r.counts.items
      → piece.stable_bytes.items ≡ bytes_up_to (place + 1) piece.stable rs ((tests_of r []).bytes (place + 1)) → IsPieceOf (tests_of r turns) (place + 1) piece
  piece_made piece its bytes stable stable_bytes =
      let number : piece.stable ≡ number_at (first_numbers r) (place + 1) + stable_count (place + 1) (logs_of r.logs.items) r.counts.items =
      stable ∙ ap (λ (n : ℕ). n + stable_count (place + 1) (logs_of r.logs.items) r.counts.items) first_is in
      let start = (tests_of r []).bytes (place + 1) in
      record {
        holder = its ∙ sym holder_is;
        bytes = bytes ∙ ap (λ (l : List Record). bytes_after (place + 1) l start) order;
        stable = number;
        stable_bytes = stable_bytes ∙ ap (λ (l : List Record). bytes_up_to (place + 1) piece.stable l start) order;
        applied = λ node. ap (λ (n : ℕ). if is_here node (at_segment (Left 0) r.holders.items (place + 1)) then (at_segment no_token r.tokens.items (place + 1)).seq else n) (sym number);
      }

  pub pictures_kept : (nodes : List NodeImages) (bytes : List ℕ) → AreApplied nodes (place + 1) token.seq (node_of holder)
      → IsReplay (place + 1) first ((tests_of r []).token (place + 1)).seq rs ((tests_of r []).bytes (place + 1)) ((tests_of r []).area (place + 1)) r.geometry.pages
      → bytes ≡ bytes_after (place + 1) rs ((tests_of r []).bytes (place + 1))
      → ((n : ℕ) (node : NodeImages) → slice_get nodes n ≡ Some node → ComesUp place rs node bytes) → KeepsPictures (tests_of r turns) nodes (place + 1)
  pictures_kept nodes bytes are replay made up =
      let start = (tests_of r []).bytes (place + 1) in
      let area = (tests_of r []).area (place + 1) in
      let seq = ((tests_of r []).token (place + 1)).seq in
      let last : (place + 1) - 1 ≡ place = omega arith in
      record {
        within = λ n node there. subst (λ (t : Token). number_at node.applied.items (place + 1) ≤ t.seq) (sym token_is) (are.within n node there);
        there = λ node there. are.there node (ap (λ (w : Holder). slice_get nodes (node_of w)) (sym holder_is) ∙ there) ∙ ap (λ (t : Token). t.seq) (sym token_is);
        replay = subst (λ (l : List Record). IsReplay (place + 1) (number_at (first_numbers r) (place + 1)) seq l start area r.geometry.pages) order
            (subst (λ (n : ℕ). IsReplay (place + 1) n seq rs start area r.geometry.pages) first_is replay);
        images = λ n node image there got.
            (let its = up n node there image (ap (λ (k : ℕ). slice_get node.images.items k) (sym last) ∙ got) in
            ap (λ (l : List Record). bytes_above (place + 1) (number_at node.applied.items (place + 1)) l image.bytes.items) (sym order) ∙ its ∙ made ∙ ap (λ (l : List Record). bytes_after (place + 1) l start) order);
      }

  pub are_applied : (nodes : List NodeImages) → KeepsPictures (tests_of r turns) nodes (place + 1) → AreApplied nodes (place + 1) token.seq (node_of holder)
  are_applied nodes keeps = record {
    within = λ n node there. subst (λ (t : Token). number_at node.applied.items (place + 1) ≤ t.seq) token_is (keeps.within n node there);
    there = λ node there. keeps.there node (ap (λ (w : Holder). slice_get nodes (node_of w)) holder_is ∙ there) ∙ ap (λ (t : Token). t.seq) token_is;
  }
