use Rattle.std.proofs.lemmas.Result.{IfErr-weaker}
use Rattle.lc_folder.proofs.sizing.size_found.Goals as goal

pub returns-in-Ok-None-clause-misfit : goal.returns-in-Ok-None-clause-misfit
returns-in-Ok-None-clause-misfit g c =
    IfErr-weaker c.size_told.result _ _ (λ fault told its same honest. (c.in-Ok-None.ensures.none c.in-Ok-None.field-0-is honest, told its same honest)) c.size_told.ensures.misfit
