-- The areas of a store that is up, where they keep to the model of a disk.
use Rattle.lc_disk.specs.declared.area.Area.{Ghosts}
use Rattle.lc_core.specs.Devices.{HonestLogs, HonestSegments}
use Rattle.lc_core.specs.declared.up.Up.{Up}

pub record HonestUp {D : Type 0} (a : Ghosts D) (up : Up D a) : Type 0 where
  pub logs : HonestLogs a up.running.nodes.items
  pub segments : HonestSegments a up.segments.items
