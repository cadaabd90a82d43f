-- What is read of the nodes of a cluster at rest, one by one.
use Rattle.std.proofs.Common.{◌≡◌, ℕ, ◌+◌, ◌<◌, List, [], ◌∷◌, ◌++◌, All, map, take, drop, length, Some, refl, sym, ap, ap₂, subst, ◌∙◌, arith, length-append}
use Rattle.std.specs.Prelude.{slice_get, slice_index_or}
use Rattle.std.specs.Global.{Vec}
use Rattle.std.proofs.lemmas.List.{drop_at, length-map, map-append, take_at, get_or_append_left}
use Rattle.std.proofs.Math.Seq.{get_or-append_seam}
use Rattle.std.proofs.lemmas.List.Elements.{All-append}
use Rattle.std.proofs.lemmas.Option.{slice_get_within, same_Some as same_some}
use Rattle.lc_disk.specs.declared.area.Area.{Ghosts}
use Rattle.lc_log.specs.LogText.{IsWhole}
use Rattle.lc_record.specs.declared.geometry.Geometry.{Geometry}
use Rattle.lc_record.specs.declared.record.Record.{Record}
use Rattle.lc_record.proofs.ListLemmas.{slice_get-append_left as get-append, slice_get_push as get-append_end, each_push as each_pushed}
use Rattle.lc_rest.specs.Merge.{logs_of}
use Rattle.lc_rest.specs.AtRest.{IsReadLog}
use Rattle.lc_journal.specs.Kept.{closed_record}
use Rattle.lc_rest.specs.Parts.{AreSpelled, KeepsLog}
use Rattle.lc_journal.specs.Pieces.{IsNodePiece}
use Rattle.lc_reading.specs.ReadNodes.{AreReadNodes, HasOneMore, IsReadNode, IsReadPart, images_of}
use Rattle.lc_journal.specs.Records.{KeptRecords}
use Rattle.lc_reading.specs.declared.node_images.NodeImages.{NodeImages}
use Rattle.lc_rest.specs.declared.node_part.NodePart.{NodePart}
use Rattle.lc_journal.specs.declared.node_piece.NodePiece.{NodePiece}
use Rattle.lc_reading.specs.declared.read_node.ReadNode.{ReadNode}
use Rattle.lc_reading.specs.declared.read_nodes.ReadNodes.{ReadNodes}

-- One node

-- of three lists, the first, the middle and the last
front_of : (gone front behind : List Record) (n : ℕ) → n ≡ length gone → take n (gone ++ front ++ behind) ≡ gone
front_of gone front behind n is = ap (take n) (sym (whole gone front behind)) ∙ take_at gone (front ++ behind) n (sym is)
  where
    whole : (xs ys zs : List Record) → xs ++ (ys ++ zs) ≡ xs ++ ys ++ zs
    whole [] ys zs = refl
    whole (x ∷ xs) ys zs = ap (λ (l : List Record). x ∷ l) (whole xs ys zs)

module _ {D : Type 0} (a : Ghosts D) where
  pub read_log : (g : Geometry) (part : NodePart D a) (k : KeepsLog a g part) (rs : List Record) (dropped count : ℕ) → rs ≡ k.ended ++ k.stable ++ k.staged → dropped ≡ length k.ended → count ≡ length (k.ended ++ k.stable)
      → IsReadLog a part dropped count rs
  read_log g part k rs dropped count all first last =
      let many : length (k.ended ++ k.stable) ≡ length k.ended + length k.stable = length-append k.ended k.stable in
      let long : length rs ≡ length (k.ended ++ k.stable) + length k.staged = ap length all ∙ length-append (k.ended ++ k.stable) k.staged in
      let stable : take count rs ≡ k.ended ++ k.stable = ap (take count) all ∙ take_at (k.ended ++ k.stable) k.staged count (sym last) in
      record {
        ended = subst (AreSpelled part.ended.items) (sym (ap (take dropped) all ∙ front_of k.ended k.stable k.staged dropped first)) k.ended_are;
        published = subst (AreSpelled part.stable.items) (sym (ap (drop dropped) stable ∙ drop_at k.ended k.stable dropped (sym first))) k.stable_are;
        staged = subst (AreSpelled part.staged.items) (sym (ap (drop count) all ∙ drop_at (k.ended ++ k.stable) k.staged count (sym last))) k.staged_are;
        dropped_stable = omega (arith, first, last, many);
        few = omega (arith, last, long);
      }

  pub read_part : (g : Geometry) (part : NodePart D a) (k : KeepsLog a g part) (piece : NodePiece D a) (rs : List Record) (dropped count : ℕ) → rs ≡ k.ended ++ k.stable ++ k.staged → dropped ≡ length k.ended → count ≡ length (k.ended ++ k.stable)
      → piece.log ≡ part.log → piece.round ≡ part.round → piece.known ≡ part.known → piece.records ≡ record { before = dropped; records = map closed_record (k.stable ++ k.staged) } → piece.stable ≡ dropped + length k.stable
      → IsNodePiece a g.words piece → IsReadPart a g.words part piece rs count
  read_part g part k piece rs dropped count all first last log round known records stable fits =
      let before : piece.records.before ≡ dropped = ap (λ (r : KeptRecords). r.before) records in
      let many : length (k.ended ++ k.stable) ≡ length k.ended + length k.stable = length-append k.ended k.stable in
      let behind : drop dropped rs ≡ k.stable ++ k.staged = ap (drop dropped) (all ∙ whole k.ended k.stable k.staged) ∙ drop_at k.ended (k.stable ++ k.staged) dropped (sym first) in
      record {
        log = log;
        round = round;
        known = known;
        records = ap (λ (r : KeptRecords). r.records) records ∙ ap (map closed_record) (sym behind) ∙ ap (λ (n : ℕ). map closed_record (drop n rs)) (sym before);
        stable = omega (arith, stable, first, last, many);
        read = subst (λ (n : ℕ). IsReadLog a part n count rs) (sym before) (read_log g part k rs dropped count all first last);
        fits = fits;
        whole = subst (All IsWhole) (sym all) (All-append IsWhole (k.ended ++ k.stable) k.staged (All-append IsWhole k.ended k.stable k.ended_are.whole k.stable_are.whole) k.staged_are.whole);
      }
    where
      whole : (xs ys zs : List Record) → xs ++ ys ++ zs ≡ xs ++ (ys ++ zs)
      whole [] ys zs = refl
      whole (x ∷ xs) ys zs = ap (λ (l : List Record). x ∷ l) (whole xs ys zs)

  -- All nodes

  pub none_read : (words : ℕ) (nodes : ReadNodes D a) → nodes.pieces.items ≡ [] → nodes.logs.items ≡ [] → nodes.counts.items ≡ [] → nodes.images.items ≡ [] → AreReadNodes a words [] nodes
  none_read words nodes pieces logs counts images = record {
    pieces_count = ap length pieces;
    logs_count = ap length logs;
    counts_count = ap length counts;
    each = λ n part piece got its. absurd cc;
    images = images;
  }

  pub one_more_read : (words : ℕ) (parts all : List (NodePart D a)) (part : NodePart D a) (old new : ReadNodes D a) (node : ReadNode D a) → all ≡ parts ++ part ∷ []
      → AreReadNodes a words parts old → HasOneMore a old new node → IsReadNode a words part node → AreReadNodes a words all new
  one_more_read words parts all part old new node next are more is =
      let logs : logs_of new.logs.items ≡ logs_of old.logs.items ++ node.records.items ∷ [] = ap logs_of more.logs ∙ map-append (λ (log : Vec Record). log.items) old.logs.items (node.records ∷ []) in
      let logs_count : length (logs_of old.logs.items) ≡ length parts = length-map old.logs.items (λ (log : Vec Record). log.items) ∙ are.logs_count in
      let pieces_at : (n : ℕ) → n < length parts → slice_get new.pieces.items n ≡ slice_get old.pieces.items n =
      λ n less. ap (λ (l : List (NodePiece D a)). slice_get l n) more.pieces ∙ get-append old.pieces.items (node.piece ∷ []) n (omega (arith, less, are.pieces_count)) in
      let log_at : (n : ℕ) → n < length parts → slice_index_or (logs_of new.logs.items) n [] ≡ slice_index_or (logs_of old.logs.items) n [] =
      λ n less. ap (λ (l : List (List Record)). slice_index_or l n []) logs ∙ get_or_append_left (logs_of old.logs.items) (node.records.items ∷ []) [] n (omega (arith, less, logs_count)) in
      let count_at : (n : ℕ) → n < length parts → slice_index_or new.counts.items n 0 ≡ slice_index_or old.counts.items n 0 =
      λ n less. ap (λ (l : List ℕ). slice_index_or l n 0) more.counts ∙ get_or_append_left old.counts.items (node.count ∷ []) 0 n (omega (arith, less, are.counts_count)) in
      let P : ℕ → NodePart D a → Type 0 = λ n p. (q : NodePiece D a) → slice_get new.pieces.items n ≡ Some q → IsReadPart a words p q (slice_index_or (logs_of new.logs.items) n []) (slice_index_or new.counts.items n 0) in
      let olds : (n : ℕ) (p : NodePart D a) → slice_get parts n ≡ Some p → P n p = λ n p got q its.
      (let less = slice_get_within parts n p got in
      subst (λ (l : List Record). IsReadPart a words p q l (slice_index_or new.counts.items n 0)) (sym (log_at n less))
      (subst (λ (m : ℕ). IsReadPart a words p q (slice_index_or (logs_of old.logs.items) n []) m) (sym (count_at n less)) (are.each n p q got (sym (pieces_at n less) ∙ its)))) in
      let piece_last : slice_get new.pieces.items (length parts) ≡ Some node.piece =
      ap (λ (n : ℕ). slice_get new.pieces.items n) (sym are.pieces_count) ∙ ap (λ (l : List (NodePiece D a)). slice_get l (length old.pieces.items)) more.pieces ∙ get-append_end old.pieces.items node.piece in
      let log_last : slice_index_or (logs_of new.logs.items) (length parts) [] ≡ node.records.items =
      ap (λ (n : ℕ). slice_index_or (logs_of new.logs.items) n []) (sym logs_count) ∙ ap (λ (l : List (List Record)). slice_index_or l (length (logs_of old.logs.items)) []) logs ∙ get_or-append_seam (logs_of old.logs.items) node.records.items [] [] in
      let count_last : slice_index_or new.counts.items (length parts) 0 ≡ node.count =
      ap (λ (n : ℕ). slice_index_or new.counts.items n 0) (sym are.counts_count) ∙ ap (λ (l : List ℕ). slice_index_or l (length old.counts.items) 0) more.counts ∙ get_or-append_seam old.counts.items node.count [] 0 in
      let last : P (length parts) part = λ q its.
      subst (λ (r : NodePiece D a). IsReadPart a words part r (slice_index_or (logs_of new.logs.items) (length parts) []) (slice_index_or new.counts.items (length parts) 0)) (same_some node.piece q (sym piece_last ∙ its))
      (subst (λ (l : List Record). IsReadPart a words part node.piece l (slice_index_or new.counts.items (length parts) 0)) (sym log_last)
      (subst (λ (m : ℕ). IsReadPart a words part node.piece node.records.items m) (sym count_last) is.part_is)) in
      let long : length all ≡ length parts + 1 = ap length next ∙ length-append parts (part ∷ []) in
      record {
        pieces_count = omega (arith, long, ap length more.pieces, length-append old.pieces.items (node.piece ∷ []), are.pieces_count);
        logs_count = omega (arith, long, ap length more.logs, length-append old.logs.items (node.records ∷ []), are.logs_count);
        counts_count = omega (arith, long, ap length more.counts, length-append old.counts.items (node.count ∷ []), are.counts_count);
        each = λ n p q got. each_pushed P parts part olds last n p (ap (λ (l : List (NodePart D a)). slice_get l n) (sym next) ∙ got) q;
        images = more.images ∙ ap₂ (λ (l : List NodeImages) (i : NodeImages). l ++ i ∷ []) are.images is.images ∙ sym (map-append (images_of a) parts (part ∷ [])) ∙ ap (map (images_of a)) (sym next);
      }
