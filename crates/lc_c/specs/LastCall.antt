-- The last call of an area as C reads it.
use Rattle.std.specs.Prelude.{ℕ, Option, None, Some}
use Rattle.lc_c.specs.Mirrors.{mirror_calls, mirror_last}
use Rattle.lc_c.specs.declared.area_call.AreaCall.{AreaCall}
use Rattle.lc_c.specs.declared.area_call.AreaCall.TheVariants.{Write, Sync}
use Rattle.lc_c.specs.declared.last_call.LastCall.{LastCall}
use Rattle.lc_c.specs.declared.mirror_area.MirrorArea.{MirrorArea}

-- so many calls, of which this was the last
abbrev pub told : ℕ → Option AreaCall → LastCall
told calls None = record { kind = 0; calls = calls; at = 0; len = 0 }
told calls (Some (Write at len)) = record { kind = 1; calls = calls; at = at; len = len }
told calls (Some Sync) = record { kind = 2; calls = calls; at = 0; len = 0 }

abbrev pub call_of : MirrorArea → LastCall
call_of m = told (mirror_calls m) (mirror_last m)
