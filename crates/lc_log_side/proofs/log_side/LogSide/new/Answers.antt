use Rattle.std.proofs.Common.{◌≡◌, ◌≤◌, ◌++◌, ℕ, List, [], length, sym, ap, subst, ◌∙◌, arith, vec_capacity}
use Rattle.std.specs.List.{concat}
use Rattle.lc_stage.specs.declared.stage_view.StageView.{StageView}
use Rattle.lc_stage.specs.Staging.{flusher, open_count, AreRecords}
use Rattle.lc_stage.specs.Seats.{flush_view}
use Rattle.lc_token.specs.KnownClean.{known}
use Rattle.lc_token.specs.Reset.{AreKnown}
use Rattle.lc_log_side.specs.Ended.{EndedWords}
use Rattle.lc_log_side.specs.Left.{IsLeft}
use Rattle.lc_log_side.proofs.Leaving.{left-none}
use Rattle.lc_log_side.specs.Published.{records_of}
use Rattle.lc_log_side.proofs.NoRecords.{none_counted, none_ended}
use Rattle.lc_log_side.proofs.Rounds.{no_records}
use Rattle.lc_log_side.proofs.log_side.LogSide.new.Goals as goal

pub invariant_of-result : goal.invariant_of-result
invariant_of-result g c =
    let self = c.args in
    let words : ℕ = (flush_view self.flusher).room in
    let is : flush_view self.flusher ≡ flusher words = c.requires.new_flusher in
    let room : (flush_view self.flusher).room ≡ words = ap (λ (v : StageView). v.room) is in
    record {
      one_table = c.requires.one_table;
      idle_probe = ap (λ (v : StageView). open_count v.mine) c.requires.new_probe;
      group_room = ap (λ x. x.room) c.requires.empty_group ∙ sym room;
      stable_room = (let place : words ≤ vec_capacity self.stable = c.requires.place in omega (arith, room, place));
      at_round = ap (λ (v : StageView). length v.past) (sym is);
      few_rounds = omega arith;
      clear = ap (λ (v : StageView). v.ended_cleared) is ∙ sym (ap (λ (v : StageView). v.ended) is);
      uncleared = ap (λ (v : StageView). v.cleared) is;
      records = subst AreRecords (sym c.requires.empty) no_records;
      left = subst (λ (p : List (List ℕ)). IsLeft p c.new-2.result self.ended.gone self.ended.words) (sym (ap (λ (v : StageView). v.past) is))
          (subst (λ (e : EndedWords). IsLeft [] c.new-2.result e.gone e.words) (sym c.requires.none_ended) (left-none c.new-2.result));
      small = (let gone : self.ended.gone ≡ 0 = ap (λ (e : EndedWords). e.gone) c.requires.none_ended in let long : length self.ended.words ≡ 0 = ap (λ (e : EndedWords). length e.words) c.requires.none_ended in omega (arith, gone, long));
      counted = none_counted ∙ (ap (λ (l : List ℕ). length (records_of l)) (sym c.requires.empty) ∙ ap (λ (v : StageView). length (records_of (concat v.past ++ self.stable.items))) (sym is));
      past_records = none_ended AreRecords (flush_view self.flusher).past (ap (λ (v : StageView). v.past) is);
      published = (let p : (flush_view self.flusher).published ≡ 0 = ap (λ (v : StageView). v.published) is in omega (arith, p));
      clean = none_ended (λ (words : List ℕ). AreKnown words (known c.new-2.result)) (flush_view self.flusher).past (ap (λ (v : StageView). v.past) is);
      holds = (
        c.requires.empty ∙ sym (ap (λ (v : StageView). v.taken) is),
        (
          c.new.ensures.end ∙ ap (λ (v : StageView). length v.taken) (sym is),
          λ honest. ([], c.new.ensures.idle honest, sym (ap (λ (v : StageView). v.taken) is)),
        ),
        (let e = ap (λ a. length (g.D.Area.now a)) c.new.ensures.area in omega (arith, room, e, c.requires.room)),
      );
    }
