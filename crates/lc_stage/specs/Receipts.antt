-- What a receipt says of a reservation.
use Rattle.std.specs.Prelude.{◌≡◌, ℕ, ◌+◌, ◌*◌, cond, eqb, length}
use Rattle.lc_stage.specs.declared.receipt.Receipt.{Receipt}
use Rattle.lc_stage.specs.declared.stage_view.Reservation.{Reservation}

-- the receipt is of this reservation
abbrev pub IsReceiptOf : Reservation → Receipt → Type 0
IsReceiptOf r c = (c.round ≡ r.round) × (c.place ≡ r.place) × (c.words ≡ length r.words)

-- the rank of its record by round and place, or 0 where there is none
abbrev pub rank_in : Receipt → ℕ
rank_in c = cond (eqb c.words 0) 0 (1 + c.round * 65536 + c.place)
