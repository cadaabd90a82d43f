-- Of a log under its lock: where what a cluster leaves is refused.
use Rattle.std.proofs.Common.{◌≡◌, ◌+◌, ◌*◌, ◌≤◌, ◌++◌, ◌∷◌, [], ℕ, List, All, length, sym, ap, subst, ◌∙◌, arith, length-append}
use Rattle.std.specs.Prelude.{IfErr, IsErrAnd, Result}
use Rattle.std.proofs.lemmas.Result.{err_from_is_err_and}
use Rattle.std.proofs.lemmas.List.Elements.{All-cons, All-head, All-nil}
use Rattle.lc_disk.specs.declared.area.Area.{Ghosts}
use Rattle.lc_record.specs.declared.geometry.Geometry.{Geometry}
use Rattle.lc_stage.specs.Staging.{end_of}
use Rattle.lc_stage.specs.declared.stage_view.StageView.{StageView}
use Rattle.lc_log_side.specs.LogView.{LogView}
use Rattle.lc_log_side.specs.Refusals.{HasRoom}
use Rattle.lc_segments.specs.declared.node_fault.NodeFault.{NodeFault}

-- what a call was refused for is handed on
pub handed_on : {A : Type 0} (res : Result A NodeFault) (fault : NodeFault) (P : NodeFault → Type 0) → IsErrAnd res (λ y. y ≡ fault) → P fault → IfErr res P
handed_on res fault P is its =
    let p = err_from_is_err_and res is in
    subst (λ (r : Result _ NodeFault). IfErr r P) (sym p.1) (subst P (sym p.2) its)

-- the end of what was taken, which is what was stable and the words after it
pub end_behind : (v w : StageView) (round : ℕ) (stable words : List ℕ) → w.past ≡ v.past → round ≡ length v.past → stable ≡ v.taken → w.taken ≡ v.taken ++ words → end_of w ≡ round * 65536 + length stable + length words
end_behind v w round stable words past at same taken =
    let long : length w.taken ≡ length stable + length words = omega (arith, ap (λ (l : List ℕ). length l) taken, length-append v.taken words, ap (λ (l : List ℕ). length l) same) in
    let rounds : length w.past ≡ round = ap (λ (l : List (List ℕ)). length l) past ∙ sym at in
    omega (arith, long, rounds)

module _ {D : Type 0} (a : Ghosts D) where
  -- the room of a log with one area
  pub has_room : (g : Geometry) (log : LogView D) (area : D) (words : List ℕ) → log.area ≡ area ∷ [] → length log.stable + length words ≤ g.words → length (a.now area) ≡ 8 * (g.words + 1) → HasRoom a g log words
  has_room g log area words is fits long = record {
    fits = fits;
    area = subst (All (λ (x : D). length (a.now x) ≡ 8 * (g.words + 1))) (sym is) (All-cons (λ (x : D). length (a.now x) ≡ 8 * (g.words + 1)) area [] long (All-nil (λ (x : D). length (a.now x) ≡ 8 * (g.words + 1))));
  }

  pub area_long : (g : Geometry) (log : LogView D) (area : D) (words : List ℕ) → log.area ≡ area ∷ [] → HasRoom a g log words → length (a.now area) ≡ 8 * (g.words + 1)
  area_long g log area words is room = All-head (λ (x : D). length (a.now x) ≡ 8 * (g.words + 1)) area [] (subst (All (λ (x : D). length (a.now x) ≡ 8 * (g.words + 1))) is room.area)
