-- Seats that are listed by node.
use Rattle.std.proofs.Common.{◌≡◌, ℕ, zero, suc, List, [], ◌∷◌, All, length, Some, refl, sym, ap, subst, ◌∙◌}
use Rattle.std.specs.Global.{Vec}
use Rattle.std.specs.Prelude.{slice_get}
use Rattle.std.proofs.lemmas.Option.{same_Some as same_some}
use Rattle.lc_stage.specs.declared.seats.CommitSeat.{CommitSeat}
use Rattle.lc_cluster.specs.Cluster.{IsSeatAt, node_at}
use Rattle.lc_cluster.specs.LeftBy.{AreOwnSeats}
use Rattle.lc_log_side.specs.LeftBy.{IsIdleSeatOf}
use Rattle.lc_cluster.specs.declared.cluster.Cluster.{Cluster}
use Rattle.lc_node.specs.declared.node.Node.{Node}
use Rattle.lc_node.proofs.EachPlace.{each_none}

module _ {D : Type 0} (cluster : Cluster D) where
  -- idle seats of a node's stage are seats of the node
  seats_at : (number : ℕ) (node : Node D) (seats : List CommitSeat) → node_at cluster number ≡ Some node → All (IsIdleSeatOf node.stage) seats → All (IsSeatAt cluster number) seats
  seats_at number node seats at own k d within = (let idle = own k d within in (node, at, idle.0, idle.1))

  pub own_of_two : (seats : List (Vec CommitSeat)) (first second : Vec CommitSeat) (here there : Node D) → seats ≡ first ∷ second ∷ [] → length cluster.members.items ≡ 2 → node_at cluster 0 ≡ Some here
      → node_at cluster 1 ≡ Some there → All (IsIdleSeatOf here.stage) first.items → All (IsIdleSeatOf there.stage) second.items → AreOwnSeats cluster seats
  own_of_two seats first second here there are two at_first at_second firsts seconds = record {
    count = ap (λ (l : List (Vec CommitSeat)). length l) are ∙ sym two;
    own = λ node mine got. by_node node mine (ap (λ (l : List (Vec CommitSeat)). slice_get l node) (sym are) ∙ got);
  }
    where
      by_node : (node : ℕ) (mine : Vec CommitSeat) → slice_get (first ∷ second ∷ []) node ≡ Some mine → All (IsSeatAt cluster node) mine.items
      by_node zero mine got = subst (λ (v : Vec CommitSeat). All (IsSeatAt cluster 0) v.items) (same_some first mine got) (seats_at 0 here first.items at_first firsts)
      by_node (suc zero) mine got = subst (λ (v : Vec CommitSeat). All (IsSeatAt cluster 1) v.items) (same_some second mine got) (seats_at 1 there second.items at_second seconds)
      by_node (suc (suc node)) mine got = each_none (λ (n : ℕ) (v : Vec CommitSeat). All (IsSeatAt cluster (suc (suc n))) v.items) [] refl node mine got
