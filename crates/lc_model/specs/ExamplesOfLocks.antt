-- States of the small store that are worked out where locks and tokens are in the way.
use Rattle.std.specs.Prelude.{Bool, true, [], ◌∷◌}
use Rattle.lc_record.specs.Transaction.{Transaction}
use Rattle.lc_model.specs.History.{History}
use Rattle.lc_model.specs.State.{State}
use Rattle.lc_model.specs.Machine.{begun}
use Rattle.lc_model.specs.Examples.{small, opened, writing, having, all_at, unflushed, reader, third}

-- of node 0: it read segment 1 and wrote segment 2
abbrev pub read_one : Transaction
read_one = record (writing 2 52 (opened 0 0 (2 ∷ []))) { reading = 1 ∷ [] }

-- of node 1: it wrote segment 1
abbrev pub write_one : Transaction
write_one = writing 1 61 (opened 1 0 (1 ∷ []))

-- of node 1: it read segment 1 too, and locked one for writing that the first did not
abbrev pub read_beside : Transaction
read_beside = record (opened 1 0 (3 ∷ [])) { reading = 1 ∷ [] }

-- these two in this order, both closed
abbrev pub both : Transaction → Transaction → History
both t u = record { transaction = t; closed = true } ∷ record { transaction = u; closed = true } ∷ []

-- node 0 has every token, and its reader's record is closed or not
abbrev pub read_at : Bool → State
read_at closed = all_at 0 (having (record { transaction = read_one; closed = closed } ∷ []))

-- a thread of node 1 has locked segment 1, which is at node 1
abbrev pub held_elsewhere : State
held_elsewhere = record unflushed { running = opened 1 0 (1 ∷ []) ∷ [] }

-- one of node 0's second thread on segment 1, one of its first on segment 2, and one of node 1's first on none are open
abbrev pub three_open : State
three_open = record (all_at 0 (having [])) { running = reader ∷ third ∷ opened 1 0 [] ∷ [] }

-- each of node 0's threads has a record, closed or not
abbrev pub two_reserved : Bool → Bool → State
two_reserved first_closed second_closed =
    all_at 0 (having (record { transaction = third; closed = first_closed } ∷ record { transaction = reader; closed = second_closed } ∷ []))

-- a thread of node 0 has an open transaction of no segments
abbrev pub empty_handed : State
empty_handed = begun small unflushed 0 1 [] []
