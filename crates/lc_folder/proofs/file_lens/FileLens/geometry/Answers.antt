use Rattle.std.proofs.Common.{refl, arith}
use Rattle.lc_folder.specs.Found.{of_logs, of_segments, of_first_log, of_first_segment}
use Rattle.lc_folder.proofs.file_lens.FileLens.geometry.Goals as goal

pub returns-in-Err-clause-misfit : goal.returns-in-Err-clause-misfit
returns-in-Err-clause-misfit c = of_logs c.in-Err.fault c.in-Err.ensures.fault c.log_misfit.ensures

pub returns-in-Err-of-clause-misfit : goal.returns-in-Err-of-clause-misfit
returns-in-Err-of-clause-misfit c = of_segments c.in-Err-of.fault c.in-Err-of.ensures.fault c.segment_misfit.ensures

pub returns-in_default-clause-misfit : goal.returns-in_default-clause-misfit
returns-in_default-clause-misfit c = of_first_log c.in-Ok.logs.len (c.in-Ok.ensures.row.there 0 (omega (arith, c.in-Ok.ensures.row.some))) (c.in_default.ensures.none refl) refl

pub returns-in_default-pages_of-clause-misfit : goal.returns-in_default-pages_of-clause-misfit
returns-in_default-pages_of-clause-misfit c =
    of_first_segment c.in-Ok-of.segments.len (c.in-Ok-of.ensures.row.there 0 (omega (arith, c.in-Ok-of.ensures.row.some))) (c.in_default-pages_of.ensures.none refl) refl
