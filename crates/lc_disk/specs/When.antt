-- Which calls of a fuse fail.
use Rattle.std.specs.Prelude.{◌≡◌, ℕ, ◌<◌, ◌≤◌, ◌^◌, ◌-◌}
use Rattle.lc_disk.specs.declared.when.When.{When}
use Rattle.lc_disk.specs.declared.when.When.TheVariants.{At, From}

-- the call of this number fails
abbrev pub Fails : When → ℕ → Type 0
Fails (At failing) call = call ≡ failing
Fails (From first) call = first ≤ call

-- the number of the call that it names
abbrev pub call_of : When → ℕ
call_of (At failing) = failing
call_of (From first) = first

-- its number is below the one at which the counting stops
abbrev pub IsCountable : When → Type 0
IsCountable when = call_of when < 2 ^ 64 - 1
