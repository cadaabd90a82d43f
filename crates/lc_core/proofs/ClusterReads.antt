-- What is read of a cluster at rest, all of it.
use Rattle.std.proofs.Common.{◌≡◌, ℕ, ◌+◌, ◌*◌, List, [], map, length, Option, Some, inl, inr, sym, ap, ◌∙◌, arith}
use Rattle.std.specs.Prelude.{slice_get, slice_index_or}
use Rattle.std.specs.Global.{Vec}
use Rattle.std.proofs.lemmas.Bool.{cases_lt}
use Rattle.std.proofs.lemmas.List.{get_or_past, length-map}
use Rattle.std.proofs.lemmas.Option.{get_or_from_slice_get, slice_get_within, same_Some as same_some}
use Rattle.lc_disk.specs.declared.area.Area.{Ghosts}
use Rattle.lc_record.specs.declared.record.Record.{Record}
use Rattle.lc_record.proofs.ListLemmas.{slice_get_some as some_at, slice_get-map_some as get-map, slice_get_from_map as mapped_at}
use Rattle.lc_rest.specs.Merge.{logs_of}
use Rattle.lc_token.specs.declared.token.Token.{Token}
use Rattle.lc_reading.specs.AsRead.{AreAsRead, IsAsRead}
use Rattle.lc_rest.specs.AtRest.{AllKeepTokens}
use Rattle.lc_core.specs.Made.{AreSegments}
use Rattle.lc_rest.specs.Parts.{AreKept}
use Rattle.lc_reading.specs.Pictures.{AreImages}
use Rattle.lc_core.specs.Pieces.{AreNodePieces}
use Rattle.lc_desk.specs.Pieces.{AreTokens}
use Rattle.lc_reading.specs.ReadAreas.{AreAreas, AreWhole}
use Rattle.lc_reading.specs.ReadNodes.{AreReadNodes, images_of}
use Rattle.lc_reading.specs.Readings.{at_segment, no_token, tests_of}
use Rattle.lc_reading.specs.declared.node_images.NodeImages.{NodeImages}
use Rattle.lc_rest.specs.declared.node_part.NodePart.{NodePart}
use Rattle.lc_rest.specs.declared.parts.Parts.{Parts}
use Rattle.lc_reading.specs.declared.read_nodes.ReadNodes.{ReadNodes}
use Rattle.lc_reading.specs.declared.read_parts.ReadParts.{ReadParts}
use Rattle.lc_rest.specs.declared.segment_part.SegmentPart.{SegmentPart}
use Rattle.lc_reading.proofs.TokenReads.{index_at}

here : {A : Type 0} (xs : List A) (k : ℕ) (x : A) → slice_get xs k ≡ Some x → slice_index_or xs k x ≡ x
here xs k x got = get_or_from_slice_get xs k x x got

-- Tokens

pub tokens_stand : (r : ReadParts) (turns : List ℕ) (tokens : List (Option Token)) → tokens ≡ map (λ (token : Token). Some token) r.tokens.items → AllKeepTokens (tests_of r turns) → AreTokens r.geometry tokens
tokens_stand r turns tokens are keeps = λ k token got its token_is.
    (let at = mapped_at (λ (t : Token). Some t) r.tokens.items k token (ap (λ (l : List (Option Token)). slice_get l k) (sym are) ∙ got) in
    let within = slice_get_within r.tokens.items k at.0 at.1 in
    let kept = keeps (k + 1) (omega arith) (omega (arith, within, r.all_tokens, r.tokens.ok.0)) in
    let same : at_segment no_token r.tokens.items (k + 1) ≡ its = index_at no_token at.0 r.tokens.items k within (sym (here r.tokens.items k at.0 at.1)) ∙ same_some at.0 its (at.2 ∙ token_is) in
    record {
      segment_is = ap (λ (t : Token). t.segment) (sym same) ∙ kept.segment_is;
      pages = ap (λ (t : Token). length t.pages) (sym same) ∙ kept.entries;
    })

-- Areas

module _ {D : Type 0} (a : Ghosts D) (parts : Parts D a) (kept : AreKept a parts) (olds news : List D) (held : List (Vec ℕ)) (olds_are : olds ≡ map (λ (part : SegmentPart D). part.area) parts.segments.items)
    (news_count : length news ≡ length olds) (held_count : length held ≡ length olds) (read : AreAsRead a olds news held) where
  pub read_at : (k : ℕ) (part : SegmentPart D) (new : D) (bytes : Vec ℕ) → slice_get parts.segments.items k ≡ Some part → slice_get news k ≡ Some new → slice_get held k ≡ Some bytes → IsAsRead a part.area new bytes.items
  read_at k part new bytes got at its = read k part.area new bytes (ap (λ (l : List D). slice_get l k) olds_are ∙ get-map (λ (p : SegmentPart D). p.area) parts.segments.items k part got) at its

  pub count_held : length held ≡ parts.geometry.segments
  count_held = held_count ∙ ap length olds_are ∙ length-map parts.segments.items (λ (part : SegmentPart D). part.area) ∙ kept.segments

  pub count_news : length news ≡ parts.geometry.segments
  count_news = news_count ∙ sym held_count ∙ count_held

  pub held_areas : AreAreas parts.geometry held
  held_areas = λ k bytes its.
      (let within = slice_get_within held k bytes its in
      let part = some_at parts.segments.items k (omega (arith, within, count_held, kept.segments)) in
      let new = some_at news k (omega (arith, within, held_count, news_count)) in
      let is = read_at k part.0 new.0 bytes part.1 new.1 its in
      record { len = is.long ∙ (kept.pages k part.0 part.1).area; of_bytes = is.of_bytes })

  pub news_long : AreSegments a (2 * 272 * parts.geometry.pages) news
  news_long = λ k new at.
      (let within = slice_get_within news k new at in
      let part = some_at parts.segments.items k (omega (arith, within, count_news, kept.segments)) in
      let bytes = some_at held k (omega (arith, within, held_count, news_count)) in
      (read_at k part.0 new bytes.0 part.1 at bytes.1).len ∙ (kept.pages k part.0 part.1).area)

-- Nodes

module _ {D : Type 0} (a : Ghosts D) (parts : Parts D a) (kept : AreKept a parts) (nodes : ReadNodes D a) (are : AreReadNodes a parts.geometry.words parts.nodes.items nodes) where
  pub pieces_fit : AreNodePieces a parts.geometry.words nodes.pieces.items
  pieces_fit = λ n piece its.
      (let within = slice_get_within nodes.pieces.items n piece its in
      let part = some_at parts.nodes.items n (omega (arith, within, are.pieces_count)) in
      (are.each n part.0 piece part.1 its).fits)

  pub images_there : AreImages parts.geometry nodes.images.items
  images_there = record {
    images = λ n node got. (let at = node_at n node got in ap (λ (i : NodeImages). length i.images.items) (sym at.2) ∙ (kept.images n at.0 at.1).0);
    applied = λ n node got. (let at = node_at n node got in ap (λ (i : NodeImages). length i.applied.items) (sym at.2) ∙ (kept.images n at.0 at.1).1);
  }
    where
      node_at : (n : ℕ) (node : NodeImages) → slice_get nodes.images.items n ≡ Some node → (part : NodePart D a) × (slice_get parts.nodes.items n ≡ Some part) × (images_of a part ≡ node)
      node_at n node got = mapped_at (images_of a) parts.nodes.items n node (ap (λ (l : List NodeImages). slice_get l n) (sym are.images) ∙ got)

  pub logs_whole : AreWhole nodes.logs.items
  logs_whole = λ n. elim (cases_lt n (length parts.nodes.items)) [
    | inl within ↦
        let part = some_at parts.nodes.items n within in
        let piece = some_at nodes.pieces.items n (omega (arith, within, are.pieces_count)) in
        (are.each n part.0 piece.0 part.1 piece.1).whole
    | inr past ↦ λ k d less.
        absurd (let none : length (slice_index_or (logs_of nodes.logs.items) n []) ≡ 0 = ap length (get_or_past (logs_of nodes.logs.items) n [] (omega (arith, past, are.logs_count, length-map nodes.logs.items (λ (log : Vec Record). log.items)))) in omega (arith, less, none))
  ]
