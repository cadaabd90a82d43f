-- Of a log under its lock: the record of a receipt stands in the stable words.
use Rattle.std.proofs.Common.{◌≡◌, ℕ, ◌+◌, ◌*◌, ◌≤◌, ◌<◌, List, [], ◌++◌, length, get_or, sym, ap, subst, ◌∙◌, arith}
use Rattle.std.proofs.Math.ListN.{take}
use lib.ListN.{get_elem?, get_or-append}
use Rattle.std.proofs.lemmas.List.{append-nil, take-append-le}
use Rattle.lc_disk.specs.declared.area.Area.{Ghosts}
use Rattle.lc_stage.specs.declared.stage_view.StageView.{StageView}
use Rattle.lc_stage.specs.declared.stage_view.Reservation.{Reservation}
use Rattle.lc_stage.specs.Staging.{Owns, Agree, AreRecords, IsOneRecord}
use Rattle.lc_log_side.specs.Among.{AreInFront, IsAmong}
use Rattle.lc_log_side.specs.LogSide.{HasStable}
use Rattle.lc_log_side.specs.declared.log_state.LogState.{LogState}
use Rattle.lc_log_side.specs.declared.log_state.LogState.TheVariants.{Idle, Stopped, Halted, Taken}
use Rattle.lc_log_side.proofs.Fronts.{among}

-- the stable words are the front of what was taken
pub is_front : {D : Type 0} (a : Ghosts D) (log : LogState D a) (room : ℕ) (taken stable : List ℕ) → HasStable a log room taken stable → (rest : List ℕ) × (taken ≡ stable ++ rest)
is_front a (Idle log) room taken stable h = ([], sym h.0 ∙ sym (append-nil stable))
is_front a (Stopped log) room taken stable h = ([], sym h.0 ∙ sym (append-nil stable))
is_front a (Halted failed) room taken stable h = h.0
is_front a Taken room taken stable h = absurd h

-- where the record of a receipt of the log's round stands in the stable words
pub record Stands (stable : List ℕ) (r : Reservation) : Type 0 where
  pub inside : r.place + length r.words ≤ length stable
  pub before : AreRecords (take r.place stable)
  pub words : (i : ℕ) → i < length r.words → get_or stable (r.place + i) 0 ≡ get_or r.words i 0
  pub one : IsOneRecord r.words

pub stands : (f c : StageView) (stable rest : List ℕ) (r : Reservation) → Agree f c → Owns c.receipts r → r.round ≡ length f.past → f.taken ≡ stable ++ rest → f.published ≤ length f.past * 65536 + length stable → Stands stable r
stands f c stable rest r agree own here split low = let x = agree.received r own in let durable = x.2 in let l = x.4 here in let one = (agree.staged r x.0).3 x.1 in
    let of_round : r.round * 65536 ≡ length f.past * 65536 = ap (λ (k : ℕ). k * 65536) here in
    let inside : r.place + length r.words ≤ length stable = omega arith in record {
      inside = inside;
      before = subst AreRecords (ap (take r.place) split ∙ take-append-le r.place stable rest (omega arith)) l.3;
      words = λ i b. sym (ap (λ (z : List ℕ). get_or z (r.place + i) 0) split ∙ get_or-append stable rest 0 (r.place + i) (omega arith)) ∙ l.2 i b;
      one = one;
    }

pub among_stable : (stable : List ℕ) (r : Reservation) (index : ℕ) → Stands stable r → AreInFront stable r.place index → IsAmong stable index r.place r.words
among_stable stable r index s front = among stable r.place index r.words front s.one s.inside s.words
