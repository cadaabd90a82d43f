-- A side at which a part was counted.
use Rattle.std.proofs.Common.{Some, None, ap}
use Rattle.std.specs.Prelude.{Option}
use Rattle.lc_record.specs.declared.part.Part.{Part}
use Rattle.lc_segments.specs.SegView.{SegView}
use Rattle.lc_segments.specs.Sides.{Counts}
use Rattle.lc_node.specs.Sides.{IsCounted}
use Rattle.lc_segments.specs.declared.held.HeldSide.{HeldSide}

pub counts_side : {D : Type 0} (h : HeldSide D) (side : SegView D) (part : Option Part) → Counts part h.side side → IsCounted h part (record { side = side; loan = h.loan })
counts_side h side None is = ap (λ (s : SegView _). record { side = s; loan = h.loan }) is
counts_side h side (Some part) is = ap (λ (s : SegView _). record { side = s; loan = h.loan }) is
