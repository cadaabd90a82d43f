-- Where the record of a receipt is, once the flusher has met its seat.
use Rattle.std.proofs.Common.{◌≡◌, ℕ, ◌+◌, ◌*◌, ◌<◌, ◌≤◌, All, List, [], ◌∷◌, ◌++◌, drop, length, refl, sym, subst, ◌∙◌, arith, append_assoc, length-append}
use Rattle.std.specs.List.{concat}
use Rattle.std.specs.Prelude.{slice_index_or}
use Rattle.std.proofs.lemmas.List.{drop-append-le, take-append-le}
use Rattle.std.proofs.lemmas.List.Elements.{All-head, All-tail, Contains-append_right}
use Rattle.lc_record.specs.Codec.{BeginsWith}
use Rattle.lc_record.specs.Record.{IsRecord, record_len}
use Rattle.lc_record.specs.declared.record.Record.{Record}
use Rattle.lc_stage.specs.Staging.{Agree, InLog, IsOneRecord, Owns}
use Rattle.lc_stage.specs.declared.stage_view.Reservation.{Reservation}
use Rattle.lc_stage.specs.declared.stage_view.StageView.{StageView}
use Rattle.lc_token.specs.KnownClean.{known as known_of}
use Rattle.lc_token.specs.Reset.{AreKnown, BeginWith, IsAbove}
use Rattle.lc_log_side.specs.Among.{IsAmong}
use Rattle.lc_log_side.specs.LeftBy.{IsReceived}
use Rattle.lc_log_side.proofs.Confirms.{among_stable, stands}
use Rattle.lc_log_side.proofs.EndedRecords.{begins_first, behind_first}
use Rattle.lc_log_side.proofs.Fronts.{among}

-- Words that are known stand among others that are

begins_longer : (words behind : List ℕ) (r : Record) (n : ℕ) → BeginsWith words r n → BeginsWith (words ++ behind) r n
begins_longer words behind r n begins =
    let within = begins.within in
    record {
      whole = subst (λ (l : List ℕ). IsRecord r l) (sym (take-append-le n words behind within)) begins.whole;
      within = omega (arith, within, length-append words behind);
    }

begin_longer : (rs : List Record) (words behind : List ℕ) → BeginWith rs words → BeginWith rs (words ++ behind)
begin_longer [] words behind begin = tt
begin_longer (r ∷ rs) words behind begin =
    let n = record_len r in
    (begins_longer words behind r n begin.0, subst (BeginWith rs) (sym (drop-append-le n words behind begin.0.within)) (begin_longer rs (drop n words) behind begin.1))

module _ (known : ℕ → ℕ) where
  above_longer : (words behind : List ℕ) (segment seq : ℕ) → IsAbove words known segment seq → IsAbove (words ++ behind) known segment seq
  above_longer words behind segment seq above = (above.0, above.1, begin_longer above.0 words behind above.2, above.3, above.4)

  above_behind : (front : List (List ℕ)) (words : List ℕ) (segment seq : ℕ) → All IsOneRecord front → IsAbove words known segment seq → IsAbove (concat front ++ words) known segment seq
  above_behind [] words segment seq all above = above
  above_behind (w ∷ front) words segment seq all above =
      let one = All-head IsOneRecord w front all in
      let rest = above_behind front words segment seq (All-tail IsOneRecord w front all) above in
      subst (λ (l : List ℕ). IsAbove l known segment seq) (sym (append_assoc w (concat front) words)) (
        one.0 ∷ rest.0,
        rest.1,
        (begins_first w (concat front ++ words) one.0 one.1, subst (BeginWith rest.0) (sym (behind_first w (concat front ++ words) one.0 one.1)) rest.2),
        Contains-append_right (one.0 ∷ []) rest.0 rest.1 rest.3,
        rest.4,
      )

  known_among : (log : List ℕ) (index place : ℕ) (words : List ℕ) → IsAmong log index place words → AreKnown log known → AreKnown words known
  known_among log index place words its all = λ segment seq above.
      all segment seq (subst (λ (l : List ℕ). IsAbove l known segment seq) (sym its.text) (above_behind its.front (words ++ its.behind) segment seq its.in_front (above_longer words its.behind segment seq above)))

-- the words of a reservation stand in the log that has it
stands_in : (log : List ℕ) (r : Reservation) → InLog log r → IsOneRecord r.words → (index : ℕ) × IsAmong log index r.place r.words
stands_in log r its one = let front = its.3 in (length front.0, among log r.place (length front.0) r.words (front.0, front.1, front.2, refl) one its.1 its.2)

pub received : (f c : StageView) (round : ℕ) (stable rest known : List ℕ) → Agree f c → round ≡ length f.past → f.taken ≡ stable ++ rest → f.published ≤ round * 65536 + length stable
    → All (λ (words : List ℕ). AreKnown words (known_of known)) f.past → (r : Reservation) → Owns c.receipts r → IsReceived round stable known r
received f c round stable rest known agree at split low all r own =
    let its = agree.received r own in
    let of_round = its.3 in
    let published : f.published ≤ length f.past * 65536 + length stable = subst (λ (n : ℕ). f.published ≤ n * 65536 + length stable) at low in record {
      here = λ same.
          (let s = stands f c stable rest r agree own (same ∙ at) split published in
          (length s.before.0, among_stable stable r (length s.before.0) s (s.before.0, s.before.1, s.before.2, refl)));
      earlier = λ other.
          (let lower : r.round < length f.past = omega (arith, of_round, other, at) in
          let log = slice_index_or f.past r.round [] in
          let its_log = stands_in log r (its.5 lower) ((agree.staged r its.0).3 its.1) in
          (omega (arith, lower, at), known_among (known_of known) log its_log.0 r.place r.words its_log.1 (all r.round [] lower)));
    }
