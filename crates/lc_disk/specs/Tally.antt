-- A count with no limit, as contracts see it.
use Rattle.std.specs.Prelude.{ℕ, ◌+◌, Option, None, Some}
use Rattle.std.specs.declared.snapshot.Snapshot.{Snapshot}
use Rattle.lc_disk.specs.declared.tally.Tally.{Tally}
use Rattle.lc_disk.specs.declared.tally.Tally.TheOpen.{Tally-F}
use Rattle.lc_disk.specs.declared.tally.Tally.TheFolds.{fold-Tally}

-- one more than the number before, 0 where there is none
abbrev pub after : Option (Snapshot ℕ) → ℕ
after None = 0
after (Some number) = number.value + 1

-- one more than before
abbrev pub one_more : Tally-F ℕ → ℕ
one_more t = after t.before

-- how often it was done
abbrev pub tallied : Tally → ℕ
tallied = fold-Tally ℕ one_more
