-- States of the small store that are worked out at a stop and at a recovery.
use Rattle.std.specs.Prelude.{ℕ, true, [], ◌∷◌, ◌++◌}
use Rattle.lc_record.specs.Transaction.{Transaction}
use Rattle.lc_model.specs.State.{At, Up, State, fresh}
use Rattle.lc_model.specs.Machine.{begun, flushed_to, halting, placed}
use Rattle.lc_model.specs.Examples.{small, opened, writing, first, second, three, having, stopped}

-- of node 0 on segment 1, by its other thread
abbrev pub fourth : Transaction
fourth = writing 1 41 (opened 0 1 (1 ∷ []))

-- so many steps of node 0's flush are done, which took two of its records; a third is closed since, and of each node
-- one is acknowledged
abbrev pub closed_since : ℕ → State
closed_since steps =
    flushed_to (record (having (three true true true ++ record { transaction = fourth; closed = true } ∷ [])) { ack = λ node. 1 }) 0 steps 2

-- down, with a halted node, and a token that moved
abbrev pub stopped_halted : State
stopped_halted = placed (halting stopped 1) 1 (At 0)

-- up again with the first two
abbrev pub recovered : State
recovered = fresh small (first ∷ second ∷ []) Up

-- a thread of node 0 has locked segment 2 after the recovery
abbrev pub begun_again : State
begun_again = begun small recovered 0 0 (2 ∷ []) []
