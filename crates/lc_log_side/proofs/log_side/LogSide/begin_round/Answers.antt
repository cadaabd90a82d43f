use Rattle.std.proofs.Common.{rules, ◌≡◌, ◌≢◌, ℕ, List, [], ◌∷◌, ◌++◌, ◌+◌, ◌≤◌, All, length, refl, sym, ap, subst, ◌∙◌, arith, length-append}
use Rattle.lc_stage.specs.declared.stage_view.StageView.{StageView}
use Rattle.lc_stage.specs.Staging.{AreRecords}
use Rattle.lc_stage.specs.Seats.{flush_view}
use Rattle.std.proofs.lemmas.List.Elements.{All-append}
use Rattle.lc_token.specs.KnownClean.{known}
use Rattle.lc_token.specs.Reset.{AreKnown}
use Rattle.lc_log_side.proofs.Knowing.{all_alone}
use Rattle.lc_log_side.proofs.FlushKeeps.{at_rest, reset_fails}
use Rattle.lc_log_side.proofs.EndedRecords.{AreOf, records_known, spelled}
use Rattle.lc_log_side.proofs.LeftWords.{left-reset, published-same}
use Rattle.lc_log_side.specs.Ended.{EndedWords}
use Rattle.lc_log_side.specs.EndedRoom.{HasRoom}
use Rattle.lc_log_side.specs.Published.{published}
use Rattle.lc_log_side.proofs.Rounds.{Reopened, reopened, to_clear, no_records}
use Rattle.lc_log_side.specs.LogView.{LogView}
use Rattle.lc_log_side.specs.Resets.{IsSpent}
use Rattle.std.proofs.lemmas.List.{append-nil}
use Rattle.lc_log_side.proofs.SideKeeps.{goes, published_to, steps_publishes}
use Rattle.lc_log_side.proofs.Unfit.{has_some, not_spent}
use Rattle.lc_log_side.proofs.log_side.LogSide.begin_round.Goals as goal

pub invariant_of-self-in-Ok-reset_sync : goal.invariant_of-self-in-Ok-reset_sync
invariant_of-self-in-Ok-reset_sync g c = let inv = c.self.invariant in let v : StageView = flush_view c.self.inside.flusher in let v3 : StageView = flush_view c.publish.new.flusher in let w : StageView = flush_view c.clear.new.flusher in
    let some = has_some c.self.inside.stable.items (subst (λ (x : LogView g.row.D.Denot). x.stable ≢ []) (sym c.self.view_is) c.requires.can.0.1) in
    let not_last = not_spent c.self.inside.round c.self.invariant.few_rounds (subst (λ (x : LogView g.row.D.Denot). ¬ IsSpent x) (sym c.self.view_is) c.requires.can.1) in
    let known_all = subst (λ (x : LogView g.row.D.Denot). AreKnown x.stable (known x.known)) (sym c.self.view_is) c.requires.can.2 in
    let held = at_rest g.D.Area c.self.inside.log c.in-Idle.log _ v.taken _ inv.holds (sym c.replace.ensures.value ∙ c.in-Idle.is) in
    let o : Reopened v w = reopened v v3 _ w c.publish.ensures.published c.in-Ok-reopen.ensures.ok (c.clear.ensures.before (to_clear v v3 _ c.publish.ensures.published c.in-Ok-reopen.ensures.ok inv.uncleared (let n : (flush_view c.self.inside.flusher).sealed_at ≡ length c.self.inside.stable.items = subst (λ (x : LogView g.row.D.Denot). (flush_view x.flusher).sealed_at ≡ length x.stable) (sym c.self.view_is) c.requires.sealed.1 in let m = some in omega arith))) in
    let none : c.clear-in-Ok-reset_sync.new.self.items ≡ [] = c.clear-in-Ok-reset_sync.ensures.items in
    let more_ended : c.extend.new.self.words ≡ c.self.inside.ended.words ++ c.self.inside.stable.items = ap (λ (e : EndedWords). e.words) c.extend.ensures ∙ ap (λ (l : List ℕ). c.self.inside.ended.words ++ l) c.as_slice.ensures.value in
    let same_gone : c.extend.new.self.gone ≡ c.self.inside.ended.gone = ap (λ (e : EndedWords). e.gone) c.extend.ensures in
    let its : AreOf c.self.inside.stable.items = spelled c.self.inside.stable.items inv.records in
    let closing = c.in-Ok.ensures in let synced = c.in-Ok-reset_sync.ensures in
    let more : length w.past ≡ length v.past + 1 = ap (λ (l : List (List ℕ)). length l) o.past ∙ length-append v.past (v.taken ∷ []) in
    let at = inv.at_round in let few : length v.taken ≤ v.room = c.self.inside.flusher.in_room in let room = o.same_room in record {
      one_table = search rules;
      idle_probe = inv.idle_probe;
      group_room = inv.group_room ∙ sym o.same_room;
      stable_room = (let a = inv.stable_room in let b = c.clear-in-Ok-reset_sync.ensures.capacity in omega arith);
      at_round = omega arith;
      few_rounds = (let a = inv.few_rounds in let b = not_last in omega arith);
      clear = o.clear;
      uncleared = o.uncleared;
      clean = subst (All (λ (words : List ℕ). AreKnown words (known c.self.inside.known))) (sym o.past) (All-append (λ (words : List ℕ). AreKnown words (known c.self.inside.known)) v.past (v.taken ∷ []) inv.clean (all_alone (λ (words : List ℕ). AreKnown words (known c.self.inside.known)) v.taken (subst (λ (l : List ℕ). AreKnown l (known c.self.inside.known)) held.0 known_all)));
      records = subst AreRecords (sym none) no_records;
      left = left-reset v.past w.past c.self.inside.known c.self.inside.ended.gone c.extend.new.self.gone c.self.inside.ended.words c.self.inside.stable.items v.taken c.extend.new.self.words inv.left its
          (records_known c.self.inside.known c.self.inside.stable.items its known_all) held.0 o.past more_ended same_gone;
      small = (let old = inv.small in let long : length c.extend.new.self.words ≡ length c.self.inside.ended.words + length c.self.inside.stable.items = ap length more_ended ∙ length-append c.self.inside.ended.words c.self.inside.stable.items in
          let all : length c.self.inside.stable.items ≡ length v.taken = ap (λ (l : List ℕ). length l) held.0 in
          let wide = c.args.stage.now.wide in let narrow = c.self.inside.flusher.of_table in let own : c.self.inside.flusher.seat.table_id.words ≡ c.args.stage.now.table.shared.table_id.words = ap (λ l. l.flusher.seat.table_id.words) c.self.view_is ∙ ap (λ t. t.words) c.requires.own.0 in omega arith);
      counted = inv.counted ∙ ap (λ (l : List (List ℕ)). length l) (sym (published-same v.past w.past v.taken c.self.inside.stable.items c.clear-in-Ok-reset_sync.new.self.items o.past held.0 none));
      past_records = subst (All AreRecords) (sym o.past) (All-append AreRecords v.past (v.taken ∷ []) inv.past_records (all_alone AreRecords v.taken (subst AreRecords held.0 inv.records)));
      published = (let a = o.published in let wide = c.args.stage.now.wide in let narrow = c.self.inside.flusher.of_table in let own : c.self.inside.flusher.seat.table_id.words ≡ c.args.stage.now.table.shared.table_id.words = ap (λ l. l.flusher.seat.table_id.words) c.self.view_is ∙ ap (λ t. t.words) c.requires.own.0 in omega arith);
      holds = (
        none ∙ sym o.taken,
        (
          synced.end ∙ ap (λ (l : List ℕ). length l) (sym o.taken),
          λ honest. let was = sym (closing.device).honest ∙ (sym (synced.device).honest ∙ honest) in let h = held.1.1 was in
              ([], synced.empty h.0 (closing.closing h.0 (λ _. h.1)) honest, sym o.taken),
        ),
        (let fits = held.2 in let one = (closing.device).same_length in let two = (synced.device).same_length in omega arith),
      );
    }

pub invariant_of-self : goal.invariant_of-self
invariant_of-self g c = let inv = c.self.invariant in let v : StageView = flush_view c.self.inside.flusher in let z : StageView = flush_view c.publish.new.flusher in
    let held = at_rest g.D.Area c.self.inside.log c.in-Idle.log _ v.taken _ inv.holds (sym c.replace.ensures.value ∙ c.in-Idle.is) in
    goes g.D.Area c.self.inside _ inv (record {
      one_table = search rules;
      idle_probe = inv.idle_probe;
      same_group = refl;
      same_stable = refl;
      same_ended = refl;
      same_round = refl;
      same_known = refl;
      same_count = refl;
      steps = steps_publishes v z c.publish.ensures.published;
      published = published_to c.self.inside.stable.items v z c.self.inside.round c.publish.ensures.published held.0 inv.at_round;
      holds = (
        ([], ap (λ (y : StageView). y.taken) c.publish.ensures.published ∙ (sym held.0 ∙ sym (append-nil c.self.inside.stable.items))),
        reset_fails g.D.Area c.in-Idle.log.area c.in-Err.failed.area c.in-Idle.log.end v.taken c.self.inside.stable.items held.1 held.0 c.in-Err.ensures.failed_device.honest c.in-Err.ensures.failed,
      );
    })

pub invariant_of-self-in-Err-reset_sync : goal.invariant_of-self-in-Err-reset_sync
invariant_of-self-in-Err-reset_sync g c = let inv = c.self.invariant in let v : StageView = flush_view c.self.inside.flusher in let z : StageView = flush_view c.publish.new.flusher in
    let held = at_rest g.D.Area c.self.inside.log c.in-Idle.log _ v.taken _ inv.holds (sym c.replace.ensures.value ∙ c.in-Idle.is) in
    goes g.D.Area c.self.inside _ inv (record {
      one_table = search rules;
      idle_probe = inv.idle_probe;
      same_group = refl;
      same_stable = refl;
      same_ended = refl;
      same_round = refl;
      same_known = refl;
      same_count = refl;
      steps = steps_publishes v z c.publish.ensures.published;
      published = published_to c.self.inside.stable.items v z c.self.inside.round c.publish.ensures.published held.0 inv.at_round;
      holds = (
        ([], ap (λ (y : StageView). y.taken) c.publish.ensures.published ∙ (sym held.0 ∙ sym (append-nil c.self.inside.stable.items))),
        reset_fails g.D.Area c.in-Idle.log.area c.in-Err-reset_sync.failed.area c.in-Idle.log.end v.taken c.self.inside.stable.items held.1 held.0
            (c.in-Err-reset_sync.ensures.failed_device.honest ∙ c.in-Ok.ensures.device.honest)
            (λ records idle. c.in-Err-reset_sync.ensures.failed records (c.in-Ok.ensures.closing records idle)),
      );
    })

pub extend-requires-clause-room : goal.extend-requires-clause-room
extend-requires-clause-room g c = let v : StageView = flush_view c.self.inside.flusher in
    let held = at_rest g.D.Area c.self.inside.log c.in-Idle.log _ v.taken _ c.self.invariant.holds (sym c.replace.ensures.value ∙ c.in-Idle.is) in
    let room : v.room ≤ c.self.inside.ended.room = subst (λ (x : LogView g.row.D.Denot). HasRoom x) (sym c.self.view_is) c.requires.room in
    let few : length v.taken ≤ v.room = c.self.inside.flusher.in_room in let all : length c.self.inside.stable.items ≡ length v.taken = ap (λ (l : List ℕ). length l) held.0 in
    let same : length c.as_slice.result.now ≡ length c.self.inside.stable.items = ap (λ (l : List ℕ). length l) c.as_slice.ensures.value in
    omega arith

pub extend-requires-clause-small : goal.extend-requires-clause-small
extend-requires-clause-small g c = let v : StageView = flush_view c.self.inside.flusher in
    let held = at_rest g.D.Area c.self.inside.log c.in-Idle.log _ v.taken _ c.self.invariant.holds (sym c.replace.ensures.value ∙ c.in-Idle.is) in
    let few : length v.taken ≤ v.room = c.self.inside.flusher.in_room in let all : length c.self.inside.stable.items ≡ length v.taken = ap (λ (l : List ℕ). length l) held.0 in
    let same : length c.as_slice.result.now ≡ length c.self.inside.stable.items = ap (λ (l : List ℕ). length l) c.as_slice.ensures.value in
    let small = c.self.invariant.small in let rounds = c.self.invariant.few_rounds in
    let wide = c.args.stage.now.wide in let narrow = c.self.inside.flusher.of_table in let own : c.self.inside.flusher.seat.table_id.words ≡ c.args.stage.now.table.shared.table_id.words = ap (λ l. l.flusher.seat.table_id.words) c.self.view_is ∙ ap (λ t. t.words) c.requires.own.0 in
    omega arith

pub returns-in-Ok-reopen-clause-published : goal.returns-in-Ok-reopen-clause-published
returns-in-Ok-reopen-clause-published g c = let inv = c.self.invariant in let v : StageView = flush_view c.self.inside.flusher in let v3 : StageView = flush_view c.publish.new.flusher in let w : StageView = flush_view c.clear.new.flusher in
    let some = has_some c.self.inside.stable.items (subst (λ (x : LogView g.row.D.Denot). x.stable ≢ []) (sym c.self.view_is) c.requires.can.0.1) in
    let held = at_rest g.D.Area c.self.inside.log c.in-Idle.log _ v.taken _ inv.holds (sym c.replace.ensures.value ∙ c.in-Idle.is) in
    let o : Reopened v w = reopened v v3 _ w c.publish.ensures.published c.in-Ok-reopen.ensures.ok (c.clear.ensures.before (to_clear v v3 _ c.publish.ensures.published c.in-Ok-reopen.ensures.ok inv.uncleared (let n : (flush_view c.self.inside.flusher).sealed_at ≡ length c.self.inside.stable.items = subst (λ (x : LogView g.row.D.Denot). (flush_view x.flusher).sealed_at ≡ length x.stable) (sym c.self.view_is) c.requires.sealed.1 in let m = some in omega arith))) in
    published-same v.past w.past v.taken c.self.inside.stable.items c.clear-in-Ok-reset_sync.new.self.items o.past held.0 c.clear-in-Ok-reset_sync.ensures.items
    ∙ ap (λ (x : LogView g.row.D.Denot). published x) c.self.view_is
