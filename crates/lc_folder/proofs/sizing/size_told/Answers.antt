use Rattle.std.proofs.Common.{◌≡◌}
use Rattle.lc_folder.proofs.sizing.size_told.Goals as goal

pub returns-in-Err-geometry-clause-misfit : goal.returns-in-Err-geometry-clause-misfit
returns-in-Err-geometry-clause-misfit g c = λ its same honest.
    let e : its ≡ c.in-Err-geometry.misfit = cc in
    rw (e, ← c.in-Ok.ensures.logs honest, ← c.in-Ok.ensures.segments honest) c.in-Err-geometry.ensures.misfit
