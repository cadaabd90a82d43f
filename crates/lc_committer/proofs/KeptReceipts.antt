-- Receipts are kept.
use Rattle.std.proofs.Common.{◌≡◌, ℕ, suc, List, ◌∷◌, take, Option, None, Some, refl, sym, ap, subst, ◌∙◌, inl, inr}
use Rattle.std.specs.Prelude.{Bool, true, false, IfErr, Result, Ok, Err}
use Rattle.lc_stage.specs.Staging.{Owns, latest}
use Rattle.lc_stage.specs.declared.receipt.Receipt.{Receipt}
use Rattle.lc_stage.specs.declared.stage_view.Reservation.{Reservation}
use Rattle.lc_stage.specs.declared.stage_view.StageView.{StageView}
use Rattle.lc_disk.specs.declared.area.Area.{Ghosts}
use Rattle.lc_node.specs.Commits.{CommitsAmong, CommitsOn}
use Rattle.lc_node.specs.MakingRoom.{CommitsAlone, CommitsFirst, CommitsInRoom, CommitsOrEmpties, EmptiesAndCommits, TransactsInRoom}
use Rattle.lc_node.specs.Transacting.{EndsIn}
use Rattle.lc_segments.specs.Ran.{Tells}
use Rattle.lc_log_side.specs.Receipts.{IsOfDevice, Learns, Receives}
use Rattle.lc_node.specs.declared.commit_kind.Commit.{Commit}
use Rattle.lc_node.specs.declared.commit_kind.Mode.{Mode}
use Rattle.lc_node.specs.declared.commit_kind.Mode.TheVariants.{Lazy as NotWaiting, Flush as Waiting}
use Rattle.lc_segments.specs.declared.held.HeldSide.{HeldSide}
use Rattle.lc_node.specs.declared.node.Node.{Node}
use Rattle.lc_segments.specs.declared.node_fault.NodeFault.{NodeFault}
use Rattle.lc_committer.specs.Kept.{KeepsReceipts}

same : (v w : StageView) → w.receipts ≡ v.receipts → KeepsReceipts v w
same v w is = λ receipt has. (has.0, subst (λ (l : List Reservation). Owns l has.0) (sym is) has.1, has.2)

more : (v w : StageView) (r : Reservation) → w.receipts ≡ r ∷ v.receipts → KeepsReceipts v w
more v w r is = λ receipt has. (has.0, subst (λ (l : List Reservation). Owns l has.0) (sym is) (suc has.1.0, has.1.1), has.2)

pub learning : (v w : StageView) → Learns v w → KeepsReceipts v w
learning v w learns = same v w (ap (λ (u : StageView). u.receipts) learns.1)

pub receiving : (v w : StageView) (receipt : Receipt) → Receives v receipt w → KeepsReceipts v w
receiving v w receipt got = more v w (latest v.mine) (ap (λ (u : StageView). u.receipts) got.1.1)

-- A commit with room made leaves the receipts as they are

module _ {D : Type 0} (a : Ghosts D) (node : Node D) (tells : Tells) (tries : ℕ) (v w : StageView) where
  on : (olds news : List (HeldSide D)) (r : Result Bool NodeFault) → CommitsOn a node tells tries olds news v w r → w.receipts ≡ v.receipts
  on olds news (Ok true) t = ap (λ (u : StageView). u.receipts) (t.committed refl).closes.is
  on olds news (Ok false) t = ap (λ (u : StageView). u.receipts) (t.nothing refl).0
  on olds news (Err fault) t = ap (λ (u : StageView). u.receipts) t.refused.0

  first : (count : ℕ) (olds news : List (HeldSide D)) (r : Result Bool NodeFault) → CommitsFirst a node tells tries count olds news v w r → w.receipts ≡ v.receipts
  first count olds news r t = on (take count olds) (take count news) r t.0

module _ {D W : Type 0} (a : Ghosts D) (node : Node D) (ran : W → W → Tells) (tries : ℕ) where
  among : (segments : List ℕ) (x y : W) (v w : StageView) (r : Result Bool NodeFault) → CommitsAmong a node ran tries segments x y v w r → w.receipts ≡ v.receipts
  among segments x y v w r (inl not) = ap (λ (u : StageView). u.receipts) not.unseen
  among segments x y v w r (inr t) = on a node (ran x y) tries v w t.olds t.news r t.commits

  emptied : (count : ℕ) (olds : List (HeldSide D)) (x y : W) (v w : StageView) (r : Result Bool NodeFault) → EmptiesAndCommits a node ran tries count olds x y v w r → w.receipts ≡ v.receipts
  emptied count olds x y v w r (inl not) = ap (λ (u : StageView). u.receipts) not.5
  emptied count olds x y v w r (inr t) = first a node (ran x y) tries v w count t.1 t.2 r t.4

  tried : (count : ℕ) (olds : List (HeldSide D)) (x y : W) (v w : StageView) (r : Result Bool NodeFault) → CommitsOrEmpties a node ran tries count olds x y v w r → w.receipts ≡ v.receipts
  tried count olds x y v w r (inl once) = first a node (ran x y) tries v w count olds once.0 r once.1
  tried count olds x y v w r (inr t) = emptied count t.3 t.0 y t.1 w r t.6 ∙ first a node (ran x t.0) tries v t.1 count olds t.3 t.2 t.4

  alone : (segments : List ℕ) (x y : W) (v w : StageView) (r : Result Bool NodeFault) → CommitsAlone a node ran tries segments x y v w r → w.receipts ≡ v.receipts
  alone segments x y v w r (inl not) = ap (λ (u : StageView). u.receipts) not.unseen
  alone segments x y v w r (inr t) = tried t.0 t.1 x y v w r t.3

  in_room : (segments : List ℕ) (x y : W) (v w : StageView) (r : Result Bool NodeFault) → CommitsInRoom a node ran tries segments x y v w r → w.receipts ≡ v.receipts
  in_room segments x y v w r (inl once) = among segments x y v w r once.0
  in_room segments x y v w r (inr t) = alone segments t.0 y t.1 w r t.5 ∙ among segments x t.0 v t.1 t.2 t.3

  ending : (mode : Mode) (u w : StageView) (done : Result Bool NodeFault) (result : Result Commit NodeFault) → EndsIn mode u done w result → KeepsReceipts u w
  ending mode u w (Err fault) result ends = same u w (ap (λ (z : StageView). z.receipts) ends.1)
  ending mode u w (Ok false) result ends = same u w (ap (λ (z : StageView). z.receipts) ends.1)
  ending NotWaiting u w (Ok true) result ends = same u w (ap (λ (z : StageView). z.receipts) ends.1)
  ending Waiting u w (Ok true) (Ok commit) ends = receiving u w ends.0 ends.2
  ending Waiting u w (Ok true) (Err fault) ends = learning u w ends.1

  pub transacting : (segments : List ℕ) (mode : Mode) (x y : W) (v w : StageView) (result : Result Commit NodeFault) → TransactsInRoom a node ran tries segments mode x y v w result → KeepsReceipts v w
  transacting segments mode x y v w result t = λ c has. ending mode t.between w t.done result t.ends c (same v t.between (in_room segments x y v t.between t.done t.commits) c has)

pub settling : (v w : StageView) (result : Result (Option Receipt) NodeFault) → (result ≡ Ok None → w ≡ v) → ((receipt : Receipt) → result ≡ Ok (Some receipt) → Receives v receipt w)
    → IfErr result (λ fault. IsOfDevice fault × Learns v w) → KeepsReceipts v w
settling v w (Ok None) none some refused = same v w (ap (λ (u : StageView). u.receipts) (none refl))
settling v w (Ok (Some receipt)) none some refused = receiving v w receipt (some receipt refl)
settling v w (Err fault) none some refused = learning v w refused.1
