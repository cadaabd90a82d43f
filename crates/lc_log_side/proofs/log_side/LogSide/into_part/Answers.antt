use Rattle.std.proofs.Common.{◌≡◌, ◌∷◌, [], false, inr, ◌+◌, ◌*◌, ◌≤◌, ◌++◌, ℕ, List, All, length, get_or, refl, sym, ap, subst, ◌∙◌, arith, length-append}
use Rattle.std.specs.Prelude.{IfErr}
use Rattle.lc_stage.specs.Publishing.{HoldsTaken}
use Rattle.lc_stage.specs.Seats.{commit_view, flush_view}
use Rattle.lc_stage.specs.Staging.{Agree, AreRecords, end_of}
use Rattle.lc_stage.specs.declared.stage_view.StageView.{StageView}
use Rattle.lc_token.specs.KnownClean.{known as known_of}
use Rattle.lc_token.specs.Reset.{AreKnown}
use Rattle.lc_rest.specs.declared.node_part.NodePart.{NodePart}
use Rattle.lc_log_side.specs.Left.{IsLeft}
use Rattle.lc_log_side.specs.LeftBy.{AreAllStaged, LeavesLog}
use Rattle.lc_log_side.specs.LogSide.{area_of, is_halted, log_view}
use Rattle.lc_log_side.specs.LogView.{LogView}
use Rattle.lc_log_side.specs.Refusals.{HasRoom, IsUnclosed, StopsLog}
use Rattle.lc_segments.specs.declared.node_fault.NodeFault.TheVariants.{NoMemory}
use Rattle.lc_log_side.proofs.FlushKeeps.{at_rest}
use Rattle.lc_log_side.proofs.KeptLog.{keeps_log}
use Rattle.lc_log_side.proofs.ReceivedRecords.{received}
use Rattle.lc_log_side.proofs.Refused.{area_long, end_behind, handed_on, has_room}
use Rattle.lc_log_side.proofs.log_side.LogSide.into_part.Goals as goal
use Rattle.lc_log_side.proofs.log_side.LogSide.into_part.Goals.{then-end-geometry-via-then-end-geometry, then-end-geometry-via-else-end-geometry+then-len-log_len}

pub returns-clause-kept : goal.returns-clause-kept
returns-clause-kept g c =
    let inv = c.self.invariant in
    let v : StageView = flush_view c.self.inside.flusher in
    let held = at_rest g.D.Area c.self.inside.log c.in-Idle.log _ v.taken _ inv.holds c.in-Idle.is in
    let words : c.in_ok-staged.staged.items ≡ c.take-taken.new.group.words = c.in_ok-staged.ensures.words in
    let count : length c.in_ok-staged.staged.items ≡ c.take-taken.result = ap (λ (l : List ℕ). length l) words ∙ sym c.take-taken.ensures.len in
    keeps_log g.D.Area c.args.geometry.now _ v.past c.self.inside.ended.gone (subst (IsLeft v.past c.self.inside.known c.self.inside.ended.gone) (sym c.into_words.ensures) inv.left) inv.records
    (subst AreRecords (sym words) c.take-taken.ensures.records)
    (subst (HoldsTaken g.D.Area c.in-Idle.log.area c.in-Idle.log.end) (sym held.0) held.1)
    (omega (arith, count)) (omega arith) inv.few_rounds

pub returns-clause-left : goal.returns-clause-left
returns-clause-left g c =
    let inv = c.self.invariant in
    let v : StageView = flush_view c.self.inside.flusher in
    let w : StageView = flush_view c.take-taken.new.flusher in
    let held = at_rest g.D.Area c.self.inside.log c.in-Idle.log _ v.taken _ inv.holds c.in-Idle.is in
    let words : c.in_ok-staged.staged.items ≡ c.take-taken.new.group.words = c.in_ok-staged.ensures.words in
    let past : w.past ≡ v.past = ap (λ (y : StageView). y.past) c.take-taken.ensures.takes.1 in
    let at : c.self.inside.round ≡ length w.past = inv.at_round ∙ ap (λ (l : List (List ℕ)). length l) (sym past) in
    let tail : c.stable_tail-stable_tail.result ≡ c.self.inside.round * 65536 + length c.self.inside.stable.items =
    subst (λ (x : LogView g.row.D.Denot). c.stable_tail-stable_tail.result ≡ x.round * 65536 + length x.stable) (sym c.self.view_is) c.stable_tail-stable_tail.ensures in
    let taken : length w.taken ≡ length c.self.inside.stable.items + c.take-taken.result =
    omega (arith, ap (λ (l : List ℕ). length l) c.take-taken.ensures.words, length-append v.taken c.take-taken.new.group.words, ap (λ (l : List ℕ). length l) held.0, c.take-taken.ensures.len) in
    let part : NodePart g.row.D.Denot g.D.Area = record {
      log = c.in-Idle.log;
      round = c.self.inside.round;
      ended = c.into_words.result;
      stable = c.self.inside.stable;
      staged = c.in_ok-staged.staged;
      known = c.self.inside.known;
      images = c.new.result;
      applied = c.new-2.result;
    } in
    subst (λ (x : LogView g.row.D.Denot). LeavesLog g.D.Area c.args.stage.now.room x part) c.self.view_is (record {
      area = ap (area_of g.D.Area) c.in-Idle.is;
      round = refl;
      ended = c.into_words.ensures;
      stable = refl;
      known = refl;
      staged = record {
        serves = ap (is_halted g.D.Area) c.in-Idle.is;
        taking = w;
        take = record {
          takes = c.take-taken.ensures.takes;
          words_are = c.take-taken.ensures.words ∙ ap (λ (l : List ℕ). v.taken ++ l) (sym words);
          ends = c.take-taken.ensures.ends;
        };
        all = omega (arith, c.tail.ensures.grows, c.if-tail-stable_tail.false, tail, taken, at);
      };
    })

pub returns-clause-received : goal.returns-clause-received
returns-clause-received g c = λ k d within r own.
    let inv = c.self.invariant in
    let v : StageView = flush_view c.self.inside.flusher in
    let w : StageView = flush_view c.take-taken.new.flusher in
    let seat : StageView = commit_view (get_or c.args.seats.items k d) in
    let held = at_rest g.D.Area c.self.inside.log c.in-Idle.log _ v.taken _ inv.holds c.in-Idle.is in
    let past : w.past ≡ v.past = ap (λ (y : StageView). y.past) c.take-taken.ensures.takes.1 in
    let published : w.published ≡ v.published = ap (λ (y : StageView). y.published) c.take-taken.ensures.takes.1 in
    let agree : Agree w seat = subst (λ (z : StageView). Agree z seat) c.meet_all.ensures.same (c.meet_all.ensures.agree k d within) in
    let low : w.published ≤ c.self.inside.round * 65536 + length c.self.inside.stable.items = subst (λ (n : ℕ). n ≤ c.self.inside.round * 65536 + length c.self.inside.stable.items) (sym published) inv.published in
    received w seat c.self.inside.round c.self.inside.stable.items c.take-taken.new.group.words c.self.inside.known agree
    (inv.at_round ∙ ap (λ (l : List (List ℕ)). length l) (sym past))
    (c.take-taken.ensures.words ∙ ap (λ (l : List ℕ). l ++ c.take-taken.new.group.words) (sym held.0))
    low
    (subst (All (λ (words : List ℕ). AreKnown words (known_of c.self.inside.known))) (sym past) inv.clean)
    r own

pub returns-then-tail-stable_tail-clause-refused : goal.returns-then-tail-stable_tail-clause-refused
returns-then-tail-stable_tail-clause-refused g c =
    let inv = c.self.invariant in
    let s = c.self.inside in
    let log : LogView g.row.D.Denot = log_view g.D.Area s in
    let v : StageView = flush_view s.flusher in
    let w : StageView = flush_view c.take-taken.new.flusher in
    let held = at_rest g.D.Area s.log c.in-Idle.log _ v.taken _ inv.holds c.in-Idle.is in
    let words : List ℕ = c.take-taken.new.group.words in
    let past : w.past ≡ v.past = ap (λ (y : StageView). y.past) c.take-taken.ensures.takes.1 in
    let end : end_of w ≡ s.round * 65536 + length s.stable.items + length words = end_behind v w s.round s.stable.items words past inv.at_round held.0 c.take-taken.ensures.words in
    let tail : c.stable_tail-stable_tail.result ≡ s.round * 65536 + length s.stable.items =
    subst (λ (x : LogView g.row.D.Denot). c.stable_tail-stable_tail.result ≡ x.round * 65536 + length x.stable) (sym c.self.view_is) c.stable_tail-stable_tail.ensures in
    let serves : log.is_halted ≡ false = ap (is_halted g.D.Area) c.in-Idle.is in
    let open_behind : IsUnclosed c.args.stage.now.room log = record {
      serves = serves;
      taking = w;
      words = words;
      take = record { takes = c.take-taken.ensures.takes; words_are = c.take-taken.ensures.words; ends = c.take-taken.ensures.ends };
      tail = c.tail.result;
      seen = c.tail.ensures.grows;
      above = omega (arith, c.if-tail-stable_tail.true, tail, end, c.take-taken.ensures.len);
    } in
    subst (λ (x : LogView g.row.D.Denot). StopsLog g.D.Area c.args.geometry.now c.args.stage.now.room c.args.node x c.into-then-tail-stable_tail.result) c.self.view_is
    (subst (StopsLog g.D.Area c.args.geometry.now c.args.stage.now.room c.args.node log) (sym c.into-then-tail-stable_tail.ensures) (refl, open_behind))

pub returns-then-end-geometry-clause-refused : goal.returns-then-end-geometry-clause-refused
returns-then-end-geometry-clause-refused g c =
    let inv = c.self.invariant in
    let s = c.self.inside in
    let log : LogView g.row.D.Denot = log_view g.D.Area s in
    let v : StageView = flush_view s.flusher in
    let w : StageView = flush_view c.take-taken.new.flusher in
    let held = at_rest g.D.Area s.log c.in-Idle.log _ v.taken _ inv.holds c.in-Idle.is in
    let words : List ℕ = c.take-taken.new.group.words in
    let past : w.past ≡ v.past = ap (λ (y : StageView). y.past) c.take-taken.ensures.takes.1 in
    let end : end_of w ≡ s.round * 65536 + length s.stable.items + length words = end_behind v w s.round s.stable.items words past inv.at_round held.0 c.take-taken.ensures.words in
    let tail : c.stable_tail-stable_tail.result ≡ s.round * 65536 + length s.stable.items =
    subst (λ (x : LogView g.row.D.Denot). c.stable_tail-stable_tail.result ≡ x.round * 65536 + length x.stable) (sym c.self.view_is) c.stable_tail-stable_tail.ensures in
    let serves : log.is_halted ≡ false = ap (is_halted g.D.Area) c.in-Idle.is in
    let staged : AreAllStaged c.args.stage.now.room log words = record {
      serves = serves;
      taking = w;
      take = record { takes = c.take-taken.ensures.takes; words_are = c.take-taken.ensures.words; ends = c.take-taken.ensures.ends };
      all = omega (arith, c.tail.ensures.grows, c.if-tail-stable_tail.false, tail, end, c.take-taken.ensures.len);
    } in
    let area : log.area ≡ c.in-Idle.log.area ∷ [] = ap (area_of g.D.Area) c.in-Idle.is in
    let stable : length s.stable.items ≡ c.in-Idle.log.end = ap (λ (l : List ℕ). length l) held.0 ∙ sym held.1.0 in
    let lacks : HasRoom g.D.Area c.args.geometry.now log words → ⊥ = λ room.
    (let fits = room.fits in
    elim c.then-end-geometry.branch [
      | then-end-geometry-via-then-end-geometry w ↦ omega (arith, w.if-end-geometry.true, fits, stable, c.take-taken.ensures.len)
      | then-end-geometry-via-else-end-geometry+then-len-log_len w ↦ w.if-len-log_len.true (w.len.ensures.len ∙ (area_long g.D.Area c.args.geometry.now log c.in-Idle.log.area words area room ∙ sym w.log_len.ensures))
    ]) in
    subst (λ (x : LogView g.row.D.Denot). StopsLog g.D.Area c.args.geometry.now c.args.stage.now.room c.args.node x c.into-then-end-geometry.result) c.self.view_is
    (subst (StopsLog g.D.Area c.args.geometry.now c.args.stage.now.room c.args.node log) (sym c.into-then-end-geometry.ensures) (refl, inr (words, staged, lacks)))

pub returns-in_err-staged-clause-refused : goal.returns-in_err-staged-clause-refused
returns-in_err-staged-clause-refused g c =
    let inv = c.self.invariant in
    let s = c.self.inside in
    let log : LogView g.row.D.Denot = log_view g.D.Area s in
    let v : StageView = flush_view s.flusher in
    let w : StageView = flush_view c.take-taken.new.flusher in
    let held = at_rest g.D.Area s.log c.in-Idle.log _ v.taken _ inv.holds c.in-Idle.is in
    let words : List ℕ = c.take-taken.new.group.words in
    let past : w.past ≡ v.past = ap (λ (y : StageView). y.past) c.take-taken.ensures.takes.1 in
    let end : end_of w ≡ s.round * 65536 + length s.stable.items + length words = end_behind v w s.round s.stable.items words past inv.at_round held.0 c.take-taken.ensures.words in
    let tail : c.stable_tail-stable_tail.result ≡ s.round * 65536 + length s.stable.items =
    subst (λ (x : LogView g.row.D.Denot). c.stable_tail-stable_tail.result ≡ x.round * 65536 + length x.stable) (sym c.self.view_is) c.stable_tail-stable_tail.ensures in
    let serves : log.is_halted ≡ false = ap (is_halted g.D.Area) c.in-Idle.is in
    let staged : AreAllStaged c.args.stage.now.room log words = record {
      serves = serves;
      taking = w;
      take = record { takes = c.take-taken.ensures.takes; words_are = c.take-taken.ensures.words; ends = c.take-taken.ensures.ends };
      all = omega (arith, c.tail.ensures.grows, c.if-tail-stable_tail.false, tail, end, c.take-taken.ensures.len);
    } in
    let area : log.area ≡ c.in-Idle.log.area ∷ [] = ap (area_of g.D.Area) c.in-Idle.is in
    let stable : length s.stable.items ≡ c.in-Idle.log.end = ap (λ (l : List ℕ). length l) held.0 ∙ sym held.1.0 in
    let room : HasRoom g.D.Area c.args.geometry.now log words =
    has_room g.D.Area c.args.geometry.now log c.in-Idle.log.area words area (omega (arith, c.if-end-geometry.false, stable, c.take-taken.ensures.len)) (sym c.len.ensures.len ∙ (c.if-len-log_len.false ∙ c.log_len.ensures)) in
    subst (λ (x : LogView g.row.D.Denot). IfErr c.from_residual.result (StopsLog g.D.Area c.args.geometry.now c.args.stage.now.room c.args.node x)) c.self.view_is
    (handed_on c.from_residual.result NoMemory (StopsLog g.D.Area c.args.geometry.now c.args.stage.now.room c.args.node log) c.from_residual.ensures.1 (words, staged, room, c.in_err-staged.ensures.refused))
