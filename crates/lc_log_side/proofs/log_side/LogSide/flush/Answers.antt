use Rattle.std.proofs.Common.{rules, ◌≡◌, ◌-◌, ◌+◌, ◌^◌, ◌<◌, ◌++◌, ℕ, List, take, drop, [], length, All, inr, refl, sym, ap, ◌∙◌, subst, arith}
use Rattle.lc_stage.specs.declared.stage_view.StageView.{StageView}
use Rattle.lc_stage.specs.Seats.{flush_view}
use Rattle.lc_stage.specs.Staging.{AreRecords}
use Rattle.lc_stage.specs.Publishing.{HoldsTaken}
use Rattle.lc_stage.proofs.Flushed.{flush_holds}
use Rattle.lc_token.specs.KnownClean.{known}
use Rattle.lc_token.specs.Reset.{AreKnown}
use Rattle.std.proofs.lemmas.List.{append-nil, nil_from_length as no_words}
use Rattle.lc_log_side.specs.Among.{AreInFront}
use Rattle.lc_log_side.specs.Flushes.{Flushes}
use Rattle.lc_log_side.specs.LogSide.{area_of, log_view}
use Rattle.lc_log_side.specs.LogView.{LogView}
use Rattle.lc_log_side.specs.declared.log_state.LogState.TheVariants.{Idle}
use Rattle.lc_log_side.proofs.Published.{count_fits, counts_more, flush_publishes, no_record_in_front, tail_is}
use Rattle.lc_log_side.proofs.SideKeeps.{goes, steps_publishes, steps_takes, steps_twice}
use Rattle.lc_log_side.proofs.FlushKeeps.{at_rest, flush_fails, takes_and_publishes, records_append}
use Rattle.lc_log_side.proofs.LeftWords.{left-long, left-same}
use Rattle.lc_log_side.proofs.log_side.LogSide.flush.Goals as goal

pub overflow_add-self : goal.overflow_add-self
overflow_add-self g c =
    let v : StageView = flush_view c.self.inside.flusher in let w : StageView = flush_view c.take-words.new.flusher in let z : StageView = flush_view c.publish-in-Ok.new.flusher in let inv = c.self.invariant in
    let same = takes_and_publishes v w z c.take-words.ensures.takes c.publish-in-Ok.ensures.published in
    let held = at_rest g.D.Area c.self.inside.log c.in-Idle.log _ v.taken _ inv.holds (sym c.replace.ensures.value ∙ c.in-Idle.is) in
    let words : List ℕ = c.take-words.new.group.words in
    let taken : z.taken ≡ w.taken = ap (λ (y : StageView). y.taken) c.publish-in-Ok.ensures.published in
    let all : c.keep.new.stable.items ≡ z.taken = c.keep.ensures.words ∙ (ap (λ (l : List ℕ). l ++ words) held.0 ∙ (sym c.take-words.ensures.words ∙ sym taken)) in
    let behind : take (length c.deref.result.now - c.len-start.result) (drop c.len-start.result c.deref.result.now) ≡ words = tail_is c.deref.result.now c.self.inside.stable.items words c.len-start.result (c.deref.ensures.value ∙ c.keep.ensures.words) (search rules) in
    let front : AreInFront words (length words) c.count_in_front-count.result = subst (λ (y : List ℕ × ℕ). AreInFront y.0 y.1 c.count_in_front-count.result) (λ k. (behind k, c.take-words.ensures.len k)) c.count_in_front-count.ensures in
    let counted = counts_more (log_view g.D.Area c.self.inside) v.past c.keep.new.stable.items words c.self.inside.count c.count_in_front-count.result inv.counted inv.past_records inv.records front c.keep.ensures.words refl in
    let small = inv.small in
    let long = left-long v.past c.self.inside.known c.self.inside.ended.gone c.self.inside.ended.words inv.left in
    let fits = c.publish-in-Ok.new.flusher.in_room in
    let room = same.same_room in
    let wide = c.args.stage.now.wide in
    let narrow = c.self.inside.flusher.of_table in
    let own : c.self.inside.flusher.seat.table_id.words ≡ c.args.stage.now.table.shared.table_id.words = ap (λ l. l.flusher.seat.table_id.words) c.self.view_is ∙ ap (λ t. t.words) c.requires.own in
    let same_long : length c.keep.new.stable.items ≡ length z.taken = ap (λ (l : List ℕ). length l) all in
    let few : c.self.inside.count + c.count_in_front-count.result < 2 ^ 64 =
    count_fits v.past c.keep.new.stable.items (c.self.inside.count + c.count_in_front-count.result) c.self.inside.round counted (omega (arith, small, long)) inv.few_rounds (omega (arith, same_long, fits, room, wide, narrow, own)) in
    omega (arith, few)

pub publish-requires-in-Ok-clause-stable : goal.publish-requires-in-Ok-clause-stable
publish-requires-in-Ok-clause-stable g c = let ws : List ℕ = c.take-words.new.group.words in let taken : List ℕ = (flush_view c.self.inside.flusher).taken in let some : 0 < length ws = omega (arith, c.take-words.ensures.len, c.if-words-eq0.false) in
    let held = at_rest g.D.Area c.self.inside.log c.in-Idle.log _ taken _ c.self.invariant.holds (sym c.replace.ensures.value ∙ c.in-Idle.is) in
    subst (λ (z : List ℕ). HoldsTaken g.D.Area c.in-Ok.log.area c.in-Ok.log.end z) (sym c.take-words.ensures.words)
    (flush_holds g.D.Area c.in-Idle.log.area c.in-Ok.log.area c.in-Idle.log.end c.in-Ok.log.end taken ws held.1 c.take-words.ensures.records some c.in-Ok.ensures.device c.in-Ok.ensures.end c.in-Ok.ensures.flushed)

pub invariant_of-self-in-Ok : goal.invariant_of-self-in-Ok
invariant_of-self-in-Ok g c = let v : StageView = flush_view c.self.inside.flusher in let w : StageView = flush_view c.take-words.new.flusher in let z : StageView = flush_view c.publish-in-Ok.new.flusher in let inv = c.self.invariant in
    let same = takes_and_publishes v w z c.take-words.ensures.takes c.publish-in-Ok.ensures.published in
    let held = at_rest g.D.Area c.self.inside.log c.in-Idle.log _ v.taken _ inv.holds (sym c.replace.ensures.value ∙ c.in-Idle.is) in
    let taken : z.taken ≡ w.taken = ap (λ (y : StageView). y.taken) c.publish-in-Ok.ensures.published in
    let all : c.keep.new.stable.items ≡ z.taken = c.keep.ensures.words ∙ (ap (λ (l : List ℕ). l ++ c.take-words.new.group.words) held.0 ∙ (sym c.take-words.ensures.words ∙ sym taken)) in record {
      one_table = search rules;
      idle_probe = inv.idle_probe;
      group_room = c.take-words.ensures.same.1 ∙ (inv.group_room ∙ sym same.same_room);
      stable_room = (let a = inv.stable_room in let b = same.same_room in let d = c.keep.ensures.room in omega arith);
      at_round = inv.at_round ∙ ap (λ (l : List (List ℕ)). length l) (sym same.same_past);
      few_rounds = inv.few_rounds;
      clear = same.clear inv.clear;
      uncleared = same.same_cleared ∙ inv.uncleared;
      clean = subst (All (λ (words : List ℕ). AreKnown words (known c.self.inside.known))) (sym same.same_past) inv.clean;
      records = subst AreRecords (sym c.keep.ensures.words) (records_append _ _ inv.records c.take-words.ensures.records);
      left = left-same v.past z.past c.self.inside.known c.self.inside.known c.self.inside.ended c.self.inside.ended inv.left same.same_past refl refl;
      small = inv.small;
      counted =
          (let words : List ℕ = c.take-words.new.group.words in
          let behind : take (length c.deref.result.now - c.len-start.result) (drop c.len-start.result c.deref.result.now) ≡ words = tail_is c.deref.result.now c.self.inside.stable.items words c.len-start.result (c.deref.ensures.value ∙ c.keep.ensures.words) (search rules) in
          let front : AreInFront words (length words) c.count_in_front-count.result = subst (λ (z : List ℕ × ℕ). AreInFront z.0 z.1 c.count_in_front-count.result) (λ k. (behind k, c.take-words.ensures.len k)) c.count_in_front-count.ensures in
          counts_more (log_view g.D.Area c.self.inside) z.past c.keep.new.stable.items words c.self.inside.count c.count_in_front-count.result inv.counted inv.past_records inv.records front c.keep.ensures.words same.same_past);
      past_records = subst (All AreRecords) (sym same.same_past) inv.past_records;
      published = (let a = same.published in let b = inv.at_round in let d : length c.keep.new.stable.items ≡ length z.taken = ap (λ (l : List ℕ). length l) all in omega arith);
      holds = (all, subst (λ (l : List ℕ). HoldsTaken g.D.Area c.in-Ok.log.area c.in-Ok.log.end l) (sym taken) (subst (λ (l : List ℕ). HoldsTaken g.D.Area c.in-Ok.log.area c.in-Ok.log.end l) (sym c.take-words.ensures.words) (flush_holds g.D.Area c.in-Idle.log.area c.in-Ok.log.area c.in-Idle.log.end c.in-Ok.log.end v.taken c.take-words.new.group.words held.1 c.take-words.ensures.records (omega (arith, c.take-words.ensures.len, c.if-words-eq0.false)) c.in-Ok.ensures.device c.in-Ok.ensures.end c.in-Ok.ensures.flushed)), (let fits = held.2 in let long = (c.in-Ok.ensures.device).same_length in let b = same.same_room in omega arith));
    }

pub invariant_of-self-then-words-eq0 : goal.invariant_of-self-then-words-eq0
invariant_of-self-then-words-eq0 g c = let v : StageView = flush_view c.self.inside.flusher in let w : StageView = flush_view c.take-words.new.flusher in let z : StageView = flush_view c.publish.new.flusher in let inv = c.self.invariant in
    let same = takes_and_publishes v w z c.take-words.ensures.takes c.publish.ensures.published in
    let held = at_rest g.D.Area c.self.inside.log c.in-Idle.log _ v.taken _ inv.holds (sym c.replace.ensures.value ∙ c.in-Idle.is) in
    let none : c.take-words.new.group.words ≡ [] = no_words c.take-words.new.group.words (sym c.take-words.ensures.len ∙ c.if-words-eq0.true) in
    let taken : z.taken ≡ v.taken = ap (λ (y : StageView). y.taken) c.publish.ensures.published ∙ (c.take-words.ensures.words ∙ (ap (λ (l : List ℕ). v.taken ++ l) none ∙ append-nil v.taken)) in
    let all : c.self.inside.stable.items ≡ z.taken = held.0 ∙ sym taken in
    goes g.D.Area c.self.inside _ inv (record {
      one_table = search rules;
      idle_probe = inv.idle_probe;
      same_group = c.take-words.ensures.same.1;
      same_stable = refl;
      same_ended = refl;
      same_round = refl;
      same_known = refl;
      same_count = refl;
      steps = steps_twice v w z (steps_takes v w c.take-words.ensures.takes) (steps_publishes w z c.publish.ensures.published);
      published = (let a = same.published in let b = inv.at_round in let d : length c.self.inside.stable.items ≡ length z.taken = ap (λ (l : List ℕ). length l) all in omega arith);
      holds = (
        all,
        subst (λ (l : List ℕ). HoldsTaken g.D.Area c.in-Idle.log.area c.in-Idle.log.end l) (sym taken) held.1,
        (let fits = held.2 in let b = same.same_room in omega arith),
      );
    })

pub invariant_of-self-in-Err : goal.invariant_of-self-in-Err
invariant_of-self-in-Err g c = let v : StageView = flush_view c.self.inside.flusher in let w : StageView = flush_view c.take-words.new.flusher in let inv = c.self.invariant in
    let held = at_rest g.D.Area c.self.inside.log c.in-Idle.log _ v.taken _ inv.holds (sym c.replace.ensures.value ∙ c.in-Idle.is) in
    goes g.D.Area c.self.inside _ inv (record {
      one_table = search rules;
      idle_probe = inv.idle_probe;
      same_group = c.take-words.ensures.same.1;
      same_stable = refl;
      same_ended = refl;
      same_round = refl;
      same_known = refl;
      same_count = refl;
      steps = steps_takes v w c.take-words.ensures.takes;
      published = (let old = inv.published in let same : w.published ≡ v.published = ap (λ (y : StageView). y.published) c.take-words.ensures.takes.1 in omega arith);
      holds = (
        (c.take-words.new.group.words, c.take-words.ensures.words ∙ ap (λ (l : List ℕ). l ++ c.take-words.new.group.words) (sym held.0)),
        flush_fails g.D.Area c.in-Idle.log.area c.in-Err.failed.area c.in-Idle.log.end v.taken c.self.inside.stable.items held.1 held.0 c.in-Err.ensures.failed_device.honest
            c.take-words.new.group.words c.take-words.ensures.records (omega (arith, c.take-words.ensures.len, c.if-words-eq0.false)) c.in-Err.ensures.failed,
      );
    })

pub returns-in-Err-clause-refused : goal.returns-in-Err-clause-refused
returns-in-Err-clause-refused g c = inr (refl, search rules)

pub returns-in-Ok-clause-published : goal.returns-in-Ok-clause-published
returns-in-Ok-clause-published g c = let words : List ℕ = c.take-words.new.group.words in
    let behind : take (length c.deref.result.now - c.len-start.result) (drop c.len-start.result c.deref.result.now) ≡ words = tail_is c.deref.result.now c.self.inside.stable.items words c.len-start.result (c.deref.ensures.value ∙ c.keep.ensures.words) (search rules) in
    let front : AreInFront words (length words) c.count_in_front-count.result = subst (λ (z : List ℕ × ℕ). AreInFront z.0 z.1 c.count_in_front-count.result) (λ k. (behind k, c.take-words.ensures.len k)) c.count_in_front-count.ensures in
    flush_publishes (log_view g.D.Area c.self.inside) _ (flush_view c.publish-in-Ok.new.flusher).past c.keep.new.stable.items words c.count_in_front-count.result c.self.view_is c.self.invariant.past_records c.self.invariant.records front c.keep.ensures.words
    (takes_and_publishes (flush_view c.self.inside.flusher) (flush_view c.take-words.new.flusher) (flush_view c.publish-in-Ok.new.flusher) c.take-words.ensures.takes c.publish-in-Ok.ensures.published).same_past

pub returns-then-words-eq0-clause-published : goal.returns-then-words-eq0-clause-published
returns-then-words-eq0-clause-published g c =
    flush_publishes (log_view g.D.Area c.self.inside) _ (flush_view c.publish.new.flusher).past c.self.inside.stable.items [] 0 c.self.view_is c.self.invariant.past_records c.self.invariant.records no_record_in_front (sym (append-nil c.self.inside.stable.items))
    (takes_and_publishes (flush_view c.self.inside.flusher) (flush_view c.take-words.new.flusher) (flush_view c.publish.new.flusher) c.take-words.ensures.takes c.publish.ensures.published).same_past

pub returns-then-words-eq0-clause-flushed : goal.returns-then-words-eq0-clause-flushed
returns-then-words-eq0-clause-flushed g c = let words : List ℕ = c.take-words.new.group.words in
    let none : words ≡ [] = no_words words (sym c.take-words.ensures.len ∙ c.if-words-eq0.true) in
    subst (λ (x : LogView g.row.D.Denot). Flushes c.args.stage.now.room x 0 (log_view g.D.Area (record c.self.inside { flusher = c.publish.new.flusher; log = Idle c.in-Idle.log; group = c.take-words.new.group }))) c.self.view_is (record {
      words = words;
      taking = flush_view c.take-words.new.flusher;
      takes = c.take-words.ensures.takes;
      taken = c.take-words.ensures.words;
      ends = c.take-words.ensures.ends;
      publishes = c.publish.ensures.published;
      stable = sym (ap (λ (l : List ℕ). c.self.inside.stable.items ++ l) none ∙ append-nil c.self.inside.stable.items);
      ended = refl;
      gone = refl;
      ended_room = refl;
      round = refl;
      known = refl;
      records = subst (λ (l : List ℕ). AreInFront l (length l) 0) (sym none) no_record_in_front;
      serves = refl;
      nothing = λ _. ap (area_of g.D.Area) (sym c.in-Idle.is ∙ c.replace.ensures.value);
    })
