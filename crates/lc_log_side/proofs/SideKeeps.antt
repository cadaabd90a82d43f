-- A step of the flusher keeps what a log's type says.
use Rattle.std.proofs.Common.{◌≡◌, ℕ, ◌+◌, ◌*◌, ◌≤◌, List, All, length, refl, sym, ap, subst, ◌∙◌, arith, vec_capacity, ◌++◌}
use Rattle.std.specs.List.{concat}
use Rattle.lc_disk.specs.declared.area.Area.{Ghosts}
use Rattle.lc_stage.specs.declared.seats.CommitSeat.{CommitSeat}
use Rattle.lc_stage.specs.declared.seats.FlushSeat.{FlushSeat}
use Rattle.lc_stage.specs.declared.stage_view.StageView.{StageView}
use Rattle.lc_stage.specs.Staging.{hears, sealing, AreRecords}
use Rattle.lc_stage.specs.Seats.{commit_view, flush_view, publishing, IsIdle, IsUnsealed, OnlyTakes}
use Rattle.lc_stage.specs.declared.fault.StageFault.{StageFault}
use Rattle.lc_stage.specs.declared.fault.StageFault.TheVariants.{Moved, Full, Sealed, RoundsSpent}
use Rattle.lc_token.specs.KnownClean.{known}
use Rattle.lc_token.specs.Reset.{AreKnown}
use Rattle.lc_log_side.specs.Ended.{EndedWords}
use Rattle.lc_log_side.specs.LogSide.{HasStable, IsLogSide}
use Rattle.lc_log_side.specs.Published.{records_of}
use Rattle.lc_log_side.proofs.LeftWords.{left-same}
use Rattle.lc_log_side.specs.declared.log_side.LogSide.TheInside.{Inside}

-- the rounds that have ended and their rows are as they were, and so is how far this one is clear
pub record Steps (v w : StageView) : Type 0 where
  pub same_room : w.room ≡ v.room
  pub same_past : w.past ≡ v.past
  pub clear : v.ended_cleared ≡ v.ended → w.ended_cleared ≡ w.ended
  pub same_cleared : w.cleared ≡ v.cleared

pub steps_same : (v w : StageView) → w ≡ v → Steps v w
steps_same v w same = subst (Steps v) (sym same) (record { same_room = refl; same_past = refl; clear = λ e. e; same_cleared = refl })

pub steps_twice : (u v w : StageView) → Steps u v → Steps v w → Steps u w
steps_twice u v w one two = record { same_room = two.same_room ∙ one.same_room; same_past = two.same_past ∙ one.same_past; clear = λ e. two.clear (one.clear e); same_cleared = two.same_cleared ∙ one.same_cleared }

pub steps_takes : (v w : StageView) → OnlyTakes v w → Steps v w
steps_takes v w takes = record {
  same_room = ap (λ (z : StageView). z.room) takes.1;
  same_past = ap (λ (z : StageView). z.past) takes.1;
  clear = λ e. ap (λ (z : StageView). z.ended_cleared) takes.1 ∙ (e ∙ sym (ap (λ (z : StageView). z.ended) takes.1));
  same_cleared = ap (λ (z : StageView). z.cleared) takes.1;
}

pub steps_publishes : (v w : StageView) → w ≡ publishing v → Steps v w
steps_publishes v w is = subst (Steps v) (sym is) (record { same_room = refl; same_past = refl; clear = λ e. e; same_cleared = refl })

pub steps_hears : (v w : StageView) (n : ℕ) → w ≡ hears n v → Steps v w
steps_hears v w n is = subst (Steps v) (sym is) (record { same_room = refl; same_past = refl; clear = λ e. e; same_cleared = refl })

pub steps_seals : (v w : StageView) (n : ℕ) → w ≡ sealing n v → Steps v w
steps_seals v w n is = subst (Steps v) (sym is) (record { same_room = refl; same_past = refl; clear = λ e. e; same_cleared = refl })

-- and so is what was taken in this round, and published
pub record Stays (v w : StageView) : Type 0 where
  pub steps : Steps v w
  pub same_taken : w.taken ≡ v.taken
  pub same_published : w.published ≡ v.published

pub stays_same : (v w : StageView) → w ≡ v → Stays v w
stays_same v w is = record { steps = steps_same v w is; same_taken = ap (λ (z : StageView). z.taken) is; same_published = ap (λ (z : StageView). z.published) is }

pub stays_hears : (v w : StageView) (n : ℕ) → w ≡ hears n v → Stays v w
stays_hears v w n is = record { steps = steps_hears v w n is; same_taken = ap (λ (z : StageView). z.taken) is; same_published = ap (λ (z : StageView). z.published) is }

pub stays_seals : (v w : StageView) (n : ℕ) → w ≡ sealing n v → Stays v w
stays_seals v w n is = record { steps = steps_seals v w n is; same_taken = ap (λ (z : StageView). z.taken) is; same_published = ap (λ (z : StageView). z.published) is }

pub stays_twice : (u v w : StageView) → Stays u v → Stays v w → Stays u w
stays_twice u v w one two = record { steps = steps_twice u v w one.steps two.steps; same_taken = two.same_taken ∙ one.same_taken; same_published = two.same_published ∙ one.same_published }

pub stays_unsealed : (at : ℕ) (v w : StageView) (fault : StageFault) → IsUnsealed at v w fault → Stays v w
stays_unsealed at v w (Moved seen) is = stays_hears v w seen is.1
stays_unsealed at v w (Full tail need) is = absurd is
stays_unsealed at v w Sealed is = stays_same v w is
stays_unsealed at v w RoundsSpent is = absurd is

module _ {D : Type 0} (a : Ghosts D) where
  -- the same records are stable, in the same round
  pub record Goes (s t : Inside D a) : Type 0 where
    pub one_table : t.probe.seat.table_id ≡ t.flusher.seat.table_id
    pub idle_probe : IsIdle (commit_view t.probe)
    pub same_group : t.group.room ≡ s.group.room
    pub same_stable : t.stable ≡ s.stable
    pub same_ended : t.ended ≡ s.ended
    pub same_round : t.round ≡ s.round
    pub same_known : t.known ≡ s.known
    pub same_count : t.count ≡ s.count
    pub steps : Steps (flush_view s.flusher) (flush_view t.flusher)
    pub published : (flush_view t.flusher).published ≤ t.round * 65536 + length t.stable.items
    pub holds : HasStable a t.log (flush_view t.flusher).room (flush_view t.flusher).taken t.stable.items

  pub goes : (s t : Inside D a) → IsLogSide a s → Goes s t → IsLogSide a t
  goes s t inv g = record {
    one_table = g.one_table;
    idle_probe = g.idle_probe;
    group_room = g.same_group ∙ (inv.group_room ∙ sym g.steps.same_room);
    stable_room = (let old = inv.stable_room in let room = g.steps.same_room in let same : vec_capacity t.stable ≡ vec_capacity s.stable = ap (λ l. vec_capacity l) g.same_stable in omega arith);
    at_round = g.same_round ∙ (inv.at_round ∙ ap (λ (l : List (List ℕ)). length l) (sym g.steps.same_past));
    few_rounds = (let few = inv.few_rounds in let same = g.same_round in omega arith);
    clear = g.steps.clear inv.clear;
    uncleared = g.steps.same_cleared ∙ inv.uncleared;
    records = subst (λ l. AreRecords l.items) (sym g.same_stable) inv.records;
    published = g.published;
    holds = g.holds;
    left = left-same (flush_view s.flusher).past (flush_view t.flusher).past s.known t.known s.ended t.ended inv.left g.steps.same_past g.same_known g.same_ended;
    small = (let old = inv.small in let round = g.same_round in let gone : t.ended.gone ≡ s.ended.gone = ap (λ (e : EndedWords). e.gone) g.same_ended in let long : length t.ended.words ≡ length s.ended.words = ap (λ (e : EndedWords). length e.words) g.same_ended in omega (arith, old, round, gone, long));
    counted = g.same_count ∙ (inv.counted ∙ (ap (λ (l : List (List ℕ)). length (records_of (concat l ++ s.stable.items))) (sym g.steps.same_past) ∙ ap (λ l. length (records_of (concat (flush_view t.flusher).past ++ l.items))) (sym g.same_stable)));
    past_records = subst (All AreRecords) (sym g.steps.same_past) inv.past_records;
    clean = subst (λ (numbers : List ℕ). All (λ (words : List ℕ). AreKnown words (known numbers)) (flush_view t.flusher).past) (sym g.same_known)
        (subst (λ (past : List (List ℕ)). All (λ (words : List ℕ). AreKnown words (known s.known)) past) (sym g.steps.same_past) inv.clean);
  }

  pub stays : (s : Inside D a) (f : FlushSeat) (p : CommitSeat) → IsLogSide a s → p.seat.table_id ≡ f.seat.table_id → IsIdle (commit_view p) → Stays (flush_view s.flusher) (flush_view f) → IsLogSide a (record s { flusher = f; probe = p })
  stays s f p inv one idle st = goes s (record s { flusher = f; probe = p }) inv (record {
    one_table = one;
    idle_probe = idle;
    same_group = refl;
    same_stable = refl;
    same_ended = refl;
    same_round = refl;
    same_known = refl;
    same_count = refl;
    steps = st.steps;
    published = (let old = inv.published in let same = st.same_published in omega arith);
    holds = subst (λ (r : ℕ). HasStable a s.log r (flush_view f).taken s.stable.items) (sym st.steps.same_room)
        (subst (λ (l : List ℕ). HasStable a s.log (flush_view s.flusher).room l s.stable.items) (sym st.same_taken) inv.holds);
  })

-- where all that was taken is stable, its end is published
pub published_to : (stable : List ℕ) (v z : StageView) (round : ℕ) → z ≡ publishing v → stable ≡ v.taken → round ≡ length v.past → z.published ≤ round * 65536 + length stable
published_to stable v z round is all at =
    let end : z.published ≡ length v.past * 65536 + length v.taken = ap (λ (y : StageView). y.published) is in
    let same : length stable ≡ length v.taken = ap (λ (l : List ℕ). length l) all in omega arith
