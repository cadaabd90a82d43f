-- The flusher's view as a log is emptied and its next round begins.
use Rattle.std.proofs.Common.{◌≡◌, ◌+◌, ◌*◌, ◌<◌, [], ◌∷◌, ◌++◌, length, refl, sym, ap, ◌∙◌, arith}
use Rattle.lc_stage.specs.declared.stage_view.StageView.{StageView}
use Rattle.lc_stage.specs.Staging.{reopening, AreRecords}
use Rattle.lc_stage.specs.Seats.{publishing}

pub record Reopened (v w : StageView) : Type 0 where
  pub same_room : w.room ≡ v.room
  pub past : w.past ≡ v.past ++ v.taken ∷ []
  pub taken : w.taken ≡ []
  pub clear : w.ended_cleared ≡ w.ended
  pub uncleared : w.cleared ≡ 0
  pub published : w.published ≡ length v.past * 65536 + length v.taken

pub reopened : (v v3 v4 w : StageView) → v3 ≡ publishing v → v4 ≡ reopening v3 → w ≡ record v4 { ended_cleared = v4.ended } → Reopened v w
reopened v v3 v4 w a b c =
    let next : v4 ≡ reopening (publishing v) = b ∙ ap reopening a in
    let all : w ≡ record (reopening (publishing v)) { ended_cleared = v.sealed_at } = c ∙ ap (λ (z : StageView). record z { ended_cleared = z.ended }) next in record {
      same_room = ap (λ (z : StageView). z.room) all;
      past = ap (λ (z : StageView). z.past) all;
      taken = ap (λ (z : StageView). z.taken) all;
      clear = ap (λ (z : StageView). z.ended_cleared) all ∙ sym (ap (λ (z : StageView). z.ended) all);
      uncleared = ap (λ (z : StageView). z.cleared) all;
      published = ap (λ (z : StageView). z.published) all;
    }

-- what the other row holds is still to be cleared once the next round has begun
pub to_clear : (v v3 v4 : StageView) → v3 ≡ publishing v → v4 ≡ reopening v3 → v.cleared ≡ 0 → 0 < v.sealed_at → v4.ended_cleared < v4.ended
to_clear v v3 v4 a b none some =
    let next : v4 ≡ reopening (publishing v) = b ∙ ap reopening a in
    let cleared : v4.ended_cleared ≡ v.cleared = ap (λ (z : StageView). z.ended_cleared) next in
    let ended : v4.ended ≡ v.sealed_at = ap (λ (z : StageView). z.ended) next in
    omega arith

pub no_records : AreRecords []
no_records = ([], (λ k d l. absurd (omega arith)), refl)
