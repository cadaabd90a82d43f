-- The places of a node's peers. A node's peers are the others, in the order of their numbers.
use Rattle.std.specs.Prelude.{ℕ, ◌-◌, nat_lt, if◌then◌else◌}

-- where a node has what is for this other one
abbrev pub place_of : ℕ → ℕ → ℕ
place_of node peer = if nat_lt peer node then peer else peer - 1
