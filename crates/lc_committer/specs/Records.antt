-- Where the records of receipts are.
use Rattle.std.specs.Prelude.{◌≡◌, ◌≢◌, ◌<◌, ℕ, List}
use Rattle.lc_stage.specs.Receipts.{IsReceiptOf}
use Rattle.lc_stage.specs.Staging.{Owns}
use Rattle.lc_stage.specs.declared.receipt.Receipt.{Receipt}
use Rattle.lc_stage.specs.declared.stage_view.Reservation.{Reservation}
use Rattle.lc_stage.specs.declared.stage_view.StageView.{StageView}
use Rattle.lc_log_side.specs.Among.{IsAmong}
use Rattle.lc_log_side.specs.LogView.{LogView}
use Rattle.lc_node.specs.Logs.{IsLogOf}
use Rattle.lc_log_side.specs.declared.confirming.Confirmed.{Confirmed}
use Rattle.lc_log_side.specs.declared.confirming.Confirmed.TheVariants.{Here, Earlier}
use Rattle.lc_node.specs.declared.node.Node.{Node}

module _ {D : Type 0} where
  -- it was looked for in a log of the node: where it is of the log's round, it is the stable record at this index, and else a reset
  -- has taken it away
  pub record ConfirmsIn (node : Node D) (v : StageView) (receipt : Receipt) (answer : Confirmed) : Type 0 where
    pub log : LogView D
    pub own : IsLogOf node log
    pub here : receipt.round ≡ log.round → (index : ℕ) × (answer ≡ Here index)
        × ((r : Reservation) → Owns v.receipts r → IsReceiptOf r receipt → IsAmong log.stable index r.place r.words)
    pub earlier : receipt.round ≢ log.round → (answer ≡ Earlier log.round) × (receipt.round < log.round)

  -- and where it is there, its words were copied
  pub record ReadsIn (node : Node D) (v : StageView) (receipt : Receipt) (old : List ℕ) (answer : Confirmed) (new : List ℕ) : Type 0 where
    pub confirms : ConfirmsIn node v receipt answer
    pub words : (index : ℕ) → answer ≡ Here index → (r : Reservation) → Owns v.receipts r → IsReceiptOf r receipt → new ≡ r.words
    pub left : (round : ℕ) → answer ≡ Earlier round → new ≡ old
