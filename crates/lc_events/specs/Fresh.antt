-- Of nodes that run: what comes up after a recovery.
use Rattle.std.specs.Prelude.{ℕ, ◌%◌, ◌==◌, if◌then◌else◌}
use Rattle.lc_recover.specs.Recovered.{RecoveredStore, sequence_of}

module _ {D : Type 0} where
  -- how clean the node has seen it then: as the token that stands there calls it
  abbrev pub known_first : RecoveredStore D → ℕ → ℕ → ℕ
  known_first r node segment = if segment % r.geometry.nodes == node then sequence_of r segment else 0
