use Rattle.std.proofs.Common.{◌≡◌, ℕ, ◌+◌, ◌*◌, ◌≤◌, List, [], drop, length, refl, sym, ap, subst, ◌∙◌, arith}
use Rattle.std.proofs.lemmas.List.{drop_all}
use Rattle.lc_log_side.specs.Left.{IsLeft}
use Rattle.lc_log_side.proofs.Leaving.{left-all}
use Rattle.lc_log_side.specs.LogSide.{log_view}
use Rattle.lc_log_side.specs.LogView.{LogView}
use Rattle.lc_log_side.specs.Trimming.{ForgetsEnded}
use Rattle.lc_stage.specs.Seats.{flush_view}
use Rattle.lc_log_side.proofs.log_side.LogSide.forget_ended.Goals as goal

none : (new seen words : List ℕ) → new ≡ drop (length seen) words → seen ≡ words → new ≡ []
none new seen words is same = is ∙ drop_all (length seen) words (let long : length seen ≡ length words = ap (λ (l : List ℕ). length l) same in omega (arith, long))

place : (gone_now gone : ℕ) (new seen words : List ℕ) → gone_now ≡ gone + length seen → new ≡ drop (length seen) words → seen ≡ words → (most : ℕ) → gone + length words ≤ most → gone_now + length new ≤ most
place gone_now gone new seen words at is same most small =
    let long : length seen ≡ length words = ap (λ (l : List ℕ). length l) same in
    let short : length new ≡ 0 = ap (λ (l : List ℕ). length l) (none new seen words is same) in
    omega (arith, at, long, short, small)

pub invariant_of-self : goal.invariant_of-self
invariant_of-self g c = let inv = c.self.invariant in record {
  one_table = inv.one_table;
  idle_probe = inv.idle_probe;
  group_room = inv.group_room;
  stable_room = inv.stable_room;
  at_round = inv.at_round;
  few_rounds = inv.few_rounds;
  clear = inv.clear;
  uncleared = inv.uncleared;
  records = inv.records;
  published = inv.published;
  holds = inv.holds;
  left = subst (λ (n : ℕ). IsLeft (flush_view c.self.inside.flusher).past c.self.inside.known n c.forget.new.self.words) (sym (c.forget.ensures.gone ∙ ap (λ (l : List ℕ). c.self.inside.ended.gone + length l) c.as_slice-count.ensures.words))
      (subst (IsLeft (flush_view c.self.inside.flusher).past c.self.inside.known (c.self.inside.ended.gone + length c.self.inside.ended.words)) (sym (none c.forget.new.self.words c.as_slice-count.result.now c.self.inside.ended.words c.forget.ensures.words c.as_slice-count.ensures.words))
      (left-all (flush_view c.self.inside.flusher).past c.self.inside.known c.self.inside.ended.gone c.self.inside.ended.words inv.left));
  small = place c.forget.new.self.gone c.self.inside.ended.gone c.forget.new.self.words c.as_slice-count.result.now c.self.inside.ended.words c.forget.ensures.gone c.forget.ensures.words c.as_slice-count.ensures.words (c.self.inside.round * 65536) inv.small;
  counted = inv.counted;
  past_records = inv.past_records;
  clean = inv.clean;
}

pub returns-clause-forgets : goal.returns-clause-forgets
returns-clause-forgets g c =
    let empty = none c.forget.new.self.words c.as_slice-count.result.now c.self.inside.ended.words c.forget.ensures.words c.as_slice-count.ensures.words in
    let long : length c.as_slice-count.result.now ≡ length c.self.inside.ended.words = ap (λ (l : List ℕ). length l) c.as_slice-count.ensures.words in
    let short : length c.forget.new.self.words ≡ 0 = ap (λ (l : List ℕ). length l) empty in
    let gone = c.forget.ensures.gone in
    subst (λ (x : LogView g.row.D.Denot). ForgetsEnded x (log_view g.D.Area (record c.self.inside { ended = c.forget.new.self }))) c.self.view_is
    ((refl, omega (arith, gone, long, short), c.forget.ensures.room), empty)
