-- Of a desk: what a stop of a store would lose.
use Rattle.std.specs.Prelude.{ℕ, not, List}
use Rattle.std.specs.List.{count_by}
use Rattle.lc_desk.specs.Seat.{Seat, is_free}

-- how many of these threads have a transaction that is open or reserved
abbrev pub begun_in : List Seat → ℕ
begun_in seats = count_by (λ seat. not (is_free seat)) seats
