-- How long a thread looks for its turn before it sleeps.
use Rattle.std.specs.Prelude.{ℕ, ◌+◌, ◌==◌, nat_lt, if◌then◌else◌}
use Rattle.lc_lock.specs.declared.patience.Pause.{Pause}
use Rattle.lc_lock.specs.declared.patience.Pause.TheVariants.{Spin, Yield, Sleep}
use Rattle.lc_lock.specs.declared.patience.TheConstants.{NEAR, SPINS, SPINS_OF_THE_NEXT, YIELDS, YIELDS_OF_THE_NEAR}

-- how often it spins, where so many tickets are served before its own
abbrev pub spins : ℕ → ℕ
spins ahead = if ahead == 1 then SPINS_OF_THE_NEXT else SPINS

-- how often it lets others run, after it has spun
abbrev pub yields : ℕ → ℕ
yields ahead = if nat_lt NEAR ahead then YIELDS else YIELDS_OF_THE_NEAR

-- what it does after so many looks
abbrev pub pause : ℕ → ℕ → Pause
pause looks ahead = if nat_lt looks (spins ahead) then Spin else if nat_lt looks (spins ahead + yields ahead) then Yield else Sleep
