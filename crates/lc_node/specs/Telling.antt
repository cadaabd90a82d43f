-- What a running node tells of its log and of its tokens, as was seen under the lock.
use Rattle.std.specs.Prelude.{◌≡◌, ◌↔◌, ℕ, Bool, IsSome, IsTrue, length}
use Rattle.lc_node.specs.Held.{IsHeldOf}
use Rattle.lc_log_side.specs.LogView.{LogView}
use Rattle.lc_node.specs.Logs.{IsLogOf}
use Rattle.lc_segments.specs.declared.held.HeldSide.{HeldSide}
use Rattle.lc_node.specs.declared.node.Node.{Node}

module _ {D : Type 0} where
  -- the stable records of the node's log took so many words
  pub record TakesWords (node : Node D) (count : ℕ) : Type 0 where
    pub log : LogView D
    pub own : IsLogOf node log
    pub words : length log.stable ≡ count

  -- the segment was held at the node, and its token stood there exactly where the answer is yes
  pub record HasTokenOf (node : Node D) (segment : ℕ) (answer : Bool) : Type 0 where
    pub held : HeldSide D
    pub own : IsHeldOf node held
    pub which : held.side.segment ≡ segment
    pub here : IsTrue answer ↔ IsSome held.side.standing.token
