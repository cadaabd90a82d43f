-- Of a journal: a node's piece of records whose words are all there is.
use Rattle.std.proofs.Common.{◌≡◌, ℕ, ◌+◌, ◌-◌, ◌*◌, ◌<◌, ◌≤◌, ◌^◌, List, [], ◌∷◌, ◌++◌, map, take, drop, length, refl, sym, ap, ◌∙◌, arith}
use Rattle.std.proofs.lemmas.List.{length-append, length-map, map-append, take_at}
use Rattle.lc_disk.specs.declared.area.Area.{Ghosts}
use Rattle.lc_record.specs.Record.{spelling}
use Rattle.lc_record.specs.declared.record.Record.{Record}
use Rattle.lc_log.specs.LogText.{joined}
use Rattle.lc_log.proofs.LogLemmas.{joined-append}
use Rattle.lc_model.specs.History.{leading}
use Rattle.lc_journal.specs.Kept.{closed_record}
use Rattle.lc_rest.specs.Parts.{AreSpelled}
use Rattle.lc_journal.specs.Pieces.{IsNodePiece}
use Rattle.lc_journal.specs.Records.{KeptRecords, Spelled, all_words, marks_of, span_of}
use Rattle.lc_journal.specs.declared.node_piece.NodePiece.{NodePiece}

words_closed : (rs : List Record) → all_words (map closed_record rs) ≡ joined rs
words_closed [] = refl
words_closed (r ∷ rs) = ap (λ (l : List ℕ). spelling r ++ l) (words_closed rs)

leading_closed : (rs : List Record) → leading (marks_of (map closed_record rs)) ≡ length rs
leading_closed [] = refl
leading_closed (r ∷ rs) = (let rest = leading_closed rs in omega (arith, rest))

-- the words of the first of them
span_front : (dropped stable : ℕ) (front behind : List Record) (k : KeptRecords) → k ≡ record { before = dropped; records = map closed_record (front ++ behind) } → stable ≡ dropped + length front
    → span_of k k.before stable ≡ joined front
span_front dropped stable front behind k is count =
    ap (λ (m : KeptRecords). span_of m m.before stable) is
    ∙ ap (λ (n : ℕ). all_words (take n (drop (dropped - dropped) (map closed_record (front ++ behind))))) (let n : stable - dropped ≡ length (map closed_record front) = omega (arith, count, length-map front closed_record) in n)
    ∙ ap (λ (n : ℕ). all_words (take (length (map closed_record front)) (drop n (map closed_record (front ++ behind))))) (let n : dropped - dropped ≡ 0 = omega arith in n)
    ∙ ap (λ (l : List Spelled). all_words (take (length (map closed_record front)) l)) (map-append closed_record front behind)
    ∙ ap all_words (take_at (map closed_record front) (map closed_record behind) (length (map closed_record front)) refl)
    ∙ words_closed front

pub piece_fits : {D : Type 0} (a : Ghosts D) (piece : NodePiece D a) (words dropped : ℕ) (stable staged : List ℕ) (front behind : List Record) → AreSpelled stable front → AreSpelled staged behind
    → piece.records ≡ record { before = dropped; records = map closed_record (front ++ behind) } → piece.stable ≡ dropped + length front
    → piece.log.end ≡ length stable → piece.log.end + length staged ≤ words → length (a.now piece.log.area) ≡ 8 * (words + 1) → piece.round < 2 ^ 48 → IsNodePiece a words piece
piece_fits a piece words dropped stable staged front behind first last records count end room area rounds =
    let before : piece.records.before ≡ dropped = ap (λ (k : KeptRecords). k.before) records in
    let marks : leading (marks_of piece.records.records) ≡ length (front ++ behind) = ap (λ (k : KeptRecords). leading (marks_of k.records)) records ∙ leading_closed (front ++ behind) in
    let all : all_words piece.records.records ≡ joined front ++ joined behind = ap (λ (k : KeptRecords). all_words k.records) records ∙ words_closed (front ++ behind) ∙ joined-append front behind in
    record {
      area = area;
      kept = omega (arith, before, count);
      closed = omega (arith, before, marks, count, length-append front behind);
      end = end ∙ ap length (first.text ∙ sym (span_front dropped piece.stable front behind piece.records records count));
      room = omega (arith, ap length all, length-append (joined front) (joined behind), ap length first.text, ap length last.text, end, room);
      few_rounds = rounds;
    }
