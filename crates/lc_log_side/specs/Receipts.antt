-- What a seat knows of its receipts.
use Rattle.lc_stage.specs.declared.stage_view.StageView.{StageView}
use Rattle.lc_stage.specs.declared.stage_view.Reservation.{Reservation}
use Rattle.lc_stage.specs.declared.receipt.Receipt.{Receipt}
use Rattle.std.specs.Prelude.{◌≡◌, ◌⊎◌, ℕ}
use Rattle.lc_stage.specs.Staging.{Owns, latest, learns_durable, with_receipt}
use Rattle.lc_segments.specs.declared.node_fault.NodeFault.{NodeFault}
use Rattle.lc_segments.specs.declared.node_fault.NodeFault.TheVariants.{DeviceFault, Halted}
use Rattle.lc_stage.specs.Receipts.{IsReceiptOf}

-- the seat has a receipt of a reservation of its own, and this is it
abbrev pub HasReceipt : StageView → Receipt → Type 0
HasReceipt v c = (r : Reservation) × Owns v.receipts r × IsReceiptOf r c

-- the seat has only seen a durable end
abbrev pub Learns : StageView → StageView → Type 0
Learns v w = (x : ℕ) × (w ≡ learns_durable x v)

-- and has this receipt of its last closed reservation
abbrev pub Receives : StageView → Receipt → StageView → Type 0
Receives v c w = IsReceiptOf (latest v.mine) c × ((x : ℕ) × (w ≡ with_receipt (learns_durable x v)))

-- the device failed, now or before
abbrev pub IsOfDevice : NodeFault → Type 0
IsOfDevice fault = (fault ≡ DeviceFault) ⊎ (fault ≡ Halted)
