-- What is tested of the records of one log.
use Rattle.std.specs.Prelude.{◌≡◌, ℕ, All}
use Rattle.lc_record.specs.declared.geometry.Geometry.{Geometry}
use Rattle.lc_record.specs.declared.record.Record.{Record}
use Rattle.lc_rest.specs.Adopted.{IsInside}

-- the record names this node, and lies in the segments of the geometry
pub record IsOwn (g : Geometry) (node : ℕ) (r : Record) : Type 0 where
  pub node_is : r.node ≡ node
  pub inside : All (IsInside g) r.ranges
