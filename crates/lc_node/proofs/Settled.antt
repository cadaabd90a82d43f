-- What a look for a receipt in a log of a node tells of the seat, and of the node.
use Rattle.std.proofs.Common.{◌≡◌, ℕ, Some, None, refl, subst, inl, inr}
use Rattle.std.specs.Prelude.{Err, Ok, Option, IfNone, IfSome}
use Rattle.lc_disk.specs.declared.area.Area.{Ghosts}
use Rattle.lc_stage.specs.Receipts.{IsReceiptOf}
use Rattle.lc_stage.specs.Staging.{HasReached, latest, learns_durable, with_receipt}
use Rattle.lc_stage.specs.declared.receipt.Receipt.{Receipt}
use Rattle.lc_stage.specs.declared.stage_view.StageView.{StageView}
use Rattle.lc_log_side.specs.Receipts.{Learns}
use Rattle.lc_node.specs.Settling.{FailsIn, LooksIn, SettlesIn}
use Rattle.lc_log_side.specs.Settling.{Looks, Settles, published_end}
use Rattle.lc_node.specs.declared.node.Node.{Node}
use Rattle.lc_segments.specs.declared.node_fault.NodeFault.{NodeFault}

pub looks_of : (x : ℕ) (v w : StageView) (found : Option Receipt) → IfSome found (λ receipt. HasReached x v × IsReceiptOf (latest v.mine) receipt × (w ≡ with_receipt (learns_durable x v)))
    → IfNone found (¬ HasReached x v × (w ≡ learns_durable x v)) → Looks x v found w
looks_of x v w None some none = none
looks_of x v w (Some receipt) some none = some

module _ {D : Type 0} where
  -- the receipt that settles a seat is that of a look in a log of the node, at the old end or at the new
  pub settled_in : (a : Ghosts D) (node : Node D) (v w : StageView) (receipt : Receipt) → SettlesIn a node v (Ok (Some receipt)) w → LooksIn node v (Some receipt) w
  settled_in a node v w receipt s = by_settles s.settles
    where
      by_settles : Settles a node.stage.room s.log v (Ok (Some receipt)) w s.new_log → LooksIn node v (Some receipt) w
      by_settles (inl at_once) = record { log = s.log; own = s.own; new_log = s.new_log; same = at_once.2; looks = at_once.1 }
      by_settles (inr behind) = record { log = s.new_log; own = s.new_own; new_log = s.new_log; same = (refl, refl); looks = behind.1 }

  -- it is of a seat that had seen another durable end as well
  pub looks_before : (node : Node D) (u v w : StageView) (receipt : Receipt) → Learns u v → LooksIn node v (Some receipt) w → LooksIn node u (Some receipt) w
  looks_before node u v w receipt learns l = record {
    log = l.log;
    own = l.own;
    new_log = l.new_log;
    same = l.same;
    looks = subst (λ (x : StageView). Looks (published_end l.log) x (Some receipt) w) learns.1 l.looks;
  }

  pub failed_in : (a : Ghosts D) (node : Node D) (v w : StageView) (fault : NodeFault) → SettlesIn a node v (Err fault) w → FailsIn a node fault
  failed_in a node v w fault s = record { log = s.log; own = s.own; new_log = s.new_log; fails = s.settles.2 }
