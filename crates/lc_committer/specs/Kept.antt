-- What a committer keeps.
use Rattle.lc_stage.specs.declared.receipt.Receipt.{Receipt}
use Rattle.lc_stage.specs.declared.stage_view.StageView.{StageView}
use Rattle.lc_log_side.specs.Receipts.{HasReceipt}

-- it has each receipt that it had
abbrev pub KeepsReceipts : StageView → StageView → Type 0
KeepsReceipts v w = (receipt : Receipt) → HasReceipt v receipt → HasReceipt w receipt
