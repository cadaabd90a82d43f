-- A count that can be shown, as contracts see it.
use Rattle.std.specs.Prelude.{ℕ}
use Rattle.lc_disk.specs.declared.count.Count.{Count}
use Rattle.lc_disk.specs.Tally.{tallied}

-- how often it was done
abbrev pub counted : Count → ℕ
counted c = tallied c.tally
