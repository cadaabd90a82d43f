-- A commit on the first of the held segments, and one after a truncation.
use Rattle.std.proofs.Common.{◌≡◌, ℕ, zero, suc, ◌+◌, ◌<◌, List, [], ◌∷◌, ◌++◌, length, take, drop, refl, sym, ap, subst, ◌∙◌, arith}
use Rattle.std.specs.Prelude.{Bool, Result}
use Rattle.std.proofs.lemmas.List.{length-map, take-map}
use Rattle.std.proofs.Math.Seq.{take-append_seam, drop-append_seam}
use Rattle.lc_disk.specs.declared.area.Area.{Ghosts}
use Rattle.lc_record.specs.Record.{Chain}
use Rattle.lc_stage.specs.declared.stage_view.StageView.{StageView}
use Rattle.lc_node.specs.Commits.{CommitsOn, segments_in}
use Rattle.lc_segments.specs.Each.{Each}
use Rattle.lc_node.specs.MakingRoom.{CommitsFirst}
use Rattle.lc_segments.specs.Ran.{Tells}
use Rattle.lc_log_side.specs.Truncates.{IsSameHeld}
use Rattle.lc_segments.specs.declared.held.HeldSide.{HeldSide}
use Rattle.lc_node.specs.declared.node.Node.{Node}
use Rattle.lc_segments.specs.declared.node_fault.NodeFault.{NodeFault}

module _ {A : Type 0} where
  written_over : (ys rest : List A) (n : ℕ) → length ys ≡ n → take n (ys ++ rest) ≡ ys
  written_over ys rest n long = subst (λ (k : ℕ). take k (ys ++ rest) ≡ ys) long (take-append_seam ys rest)

  -- two parts of a list that were written back make it up
  pub written_back : (xs ys rest : List A) (n : ℕ) → length xs + length ys ≡ n → take n (xs ++ ys ++ rest) ≡ xs ++ ys
  written_back [] ys rest n long = written_over ys rest n (omega arith)
  written_back (x ∷ xs) ys rest zero long = absurd (omega arith)
  written_back (x ∷ xs) ys rest (suc n) long = ap (λ (l : List A). x ∷ l) (written_back xs ys rest n (omega arith))

  dropped : (xs ys : List A) (n : ℕ) → length xs ≡ n → drop n (xs ++ ys) ≡ ys
  dropped xs ys n long = subst (λ (k : ℕ). drop k (xs ++ ys) ≡ ys) long (drop-append_seam xs ys)

module _ {D : Type 0} where
  pub long_as : (xs ys : List (HeldSide D)) → segments_in xs ≡ segments_in ys → length xs ≡ length ys
  long_as xs ys same = sym (length-map xs (λ (h : HeldSide D). h.side.segment)) ∙ (ap (λ (l : List ℕ). length l) same ∙ length-map ys (λ (h : HeldSide D). h.side.segment))

  -- a commit on the front is one on the first of them
  pub commits_first : (a : Ghosts D) (node : Node D) (tells : Tells) (tries k : ℕ) (olds asked others news written : List (HeldSide D)) (v w : StageView) (r : Result Bool NodeFault)
      → olds ≡ asked ++ others → length asked ≡ k → written ≡ news ++ others → length news ≡ length asked
      → CommitsOn a node tells tries asked news v w r → CommitsFirst a node tells tries k olds written v w r
  commits_first a node tells tries k olds asked others news written v w r whole long back same on =
      let front : take k olds ≡ asked = ap (take k) whole ∙ written_over asked others k long in
      let front_new : take k written ≡ news = ap (take k) back ∙ written_over news others k (same ∙ long) in (
        subst (λ l. CommitsOn a node tells tries l (take k written) v w r) (sym front) (subst (λ l. CommitsOn a node tells tries asked l v w r) (sym front_new) on),
        ap (drop k) back ∙ (dropped news others k (same ∙ long) ∙ sym (ap (drop k) whole ∙ dropped asked others k long)),
      )

  -- a truncation leaves each at its place
  pub same_held : (olds news : List (HeldSide D)) → Each IsSameHeld olds news → segments_in news ≡ segments_in olds
  same_held [] [] same = refl
  same_held [] (g ∷ gs) same = absurd (let long = same.long in omega arith)
  same_held (h ∷ hs) [] same = absurd (let long = same.long in omega arith)
  same_held (h ∷ hs) (g ∷ gs) same =
      let first : g.side.segment ≡ h.side.segment = (same.each 0 h g refl refl).1 in
      let rest : segments_in gs ≡ segments_in hs = same_held hs gs (record { long = (let long = same.long in omega arith); each = λ k x y at to. same.each (suc k) x y at to }) in
      (λ i. first i ∷ rest i)

  -- the first of them still ascend
  pub still_ascend : (k : ℕ) (olds news : List (HeldSide D)) → segments_in news ≡ segments_in olds → Chain (λ a b. a < b) (segments_in (take k olds)) → Chain (λ a b. a < b) (segments_in (take k news))
  still_ascend k olds news same up = subst (Chain (λ a b. a < b)) (sym (take-map (λ (h : HeldSide D). h.side.segment) k olds) ∙ (ap (take k) (sym same) ∙ take-map (λ (h : HeldSide D). h.side.segment) k news)) up
