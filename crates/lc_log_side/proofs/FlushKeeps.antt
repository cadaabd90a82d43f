-- A flush keeps what a log's type says.
use Rattle.std.proofs.Common.{◌≡◌, ℕ, ◌+◌, ◌*◌, ◌<◌, ◌≤◌, List, [], ◌++◌, length, sym, ap, subst, ◌∙◌, inl, inr}
use Rattle.lc_disk.specs.declared.area.Area.{Ghosts}
use Rattle.lc_stage.specs.declared.stage_view.StageView.{StageView}
use Rattle.lc_stage.specs.Publishing.{HoldsTaken}
use Rattle.lc_stage.specs.Seats.{OnlyTakes, publishing}
use Rattle.std.proofs.lemmas.List.Elements.{All-append}
use Rattle.std.proofs.lemmas.List.Folds.{concat-append}
use Rattle.lc_stage.specs.Staging.{AreRecords, IsOneRecord}
use Rattle.lc_log.specs.NodeLog.{IsGroup, IsIdle, IsWithOrWithout, LeavesOnly}
use Rattle.lc_record.specs.declared.record.Record.{Record}
use Rattle.lc_stage.proofs.Flushed.{taken_group}
use Rattle.lc_log_side.specs.LogSide.{HasStable, LeavesRecords}
use Rattle.lc_log_side.specs.declared.log_state.LogState.{LogState}
use Rattle.lc_log_side.specs.declared.log_state.LogState.TheVariants.{Idle}
use Rattle.lc_log.specs.declared.idle.Idle.{Idle as AtRest}

-- the log that is at rest holds what was taken
pub at_rest : {D : Type 0} (a : Ghosts D) (state : LogState D a) (log : AtRest D a) (room : ℕ) (taken stable : List ℕ) → HasStable a state room taken stable → state ≡ Idle log
    → (stable ≡ taken) × HoldsTaken a log.area log.end taken × (8 * room + 8 ≤ length (a.now log.area))
at_rest a state log room taken stable h is = subst (λ (z : LogState _ a). HasStable a z room taken stable) is h

-- what the flusher's view keeps while it takes and publishes
pub record Taking (v z : StageView) : Type 0 where
  pub same_room : z.room ≡ v.room
  pub same_past : z.past ≡ v.past
  pub clear : v.ended_cleared ≡ v.ended → z.ended_cleared ≡ z.ended
  pub same_cleared : z.cleared ≡ v.cleared
  pub published : z.published ≡ length v.past * 65536 + length z.taken

pub takes_and_publishes : (v w z : StageView) → OnlyTakes v w → z ≡ publishing w → Taking v z
takes_and_publishes v w z takes is = let past : z.past ≡ v.past = ap (λ (y : StageView). y.past) is ∙ ap (λ (y : StageView). y.past) takes.1 in record {
  same_room = ap (λ (y : StageView). y.room) is ∙ ap (λ (y : StageView). y.room) takes.1;
  same_past = past;
  clear = λ e. ap (λ (y : StageView). y.ended_cleared) is ∙ (ap (λ (y : StageView). y.ended_cleared) takes.1 ∙ (e ∙ sym (ap (λ (y : StageView). y.ended) is ∙ ap (λ (y : StageView). y.ended) takes.1)));
  same_cleared = ap (λ (y : StageView). y.cleared) is ∙ ap (λ (y : StageView). y.cleared) takes.1;
  published = ap (λ (y : StageView). y.published) is ∙ (λ k. length ((ap (λ (y : StageView). y.past) takes.1) k) * 65536 + length ((sym (ap (λ (y : StageView). y.taken) is)) k));
}

pub records_append : (us ws : List ℕ) → AreRecords us → AreRecords ws → AreRecords (us ++ ws)
records_append us ws h k = (h.0 ++ k.0, All-append IsOneRecord h.0 k.0 h.1 k.1, (λ j. h.2 j ++ k.2 j) ∙ sym (concat-append h.0 k.0))

-- What a failed call leaves

module _ {D : Type 0} (a : Ghosts D) (before after : D) (end : ℕ) (taken stable : List ℕ) (held : HoldsTaken a before end taken) (same : stable ≡ taken) (still : a.honest after ≡ a.honest before) where
  -- one of a flush
  pub flush_fails : (words : List ℕ) → AreRecords words → 0 < length words
      → ((records group : List Record) → IsIdle a before end records → IsGroup words group → LeavesOnly a after (IsWithOrWithout records group)) → LeavesRecords a after stable
  flush_fails words whole some fails = λ honest.
      let h = held.1 (sym still ∙ honest) in
      let g = taken_group words whole some in
      (h.0, g.0, h.2 ∙ sym same, λ image is. inr (fails h.0 g.0 (λ _. h.1) g.1 honest image is))

  -- one of a reset
  pub reset_fails : ((records : List Record) → IsIdle a before end records → LeavesOnly a after (IsWithOrWithout [] records)) → LeavesRecords a after stable
  reset_fails fails = λ honest.
      let h = held.1 (sym still ∙ honest) in (
        h.0,
        [],
        h.2 ∙ sym same,
        λ image is. elim (fails h.0 (λ _. h.1) honest image is) [
          | inl none ↦ inl none
          | inr all ↦ inr (inl all)
        ],
      )
