use Rattle.std.proofs.Common.{arith}
use Rattle.lc_record.proofs.ListLemmas.{OnErr_from as on_err}
use Rattle.lc_text.proofs.FieldLemmas.{spot_len}
use Rattle.lc_text.specs.Line.{words}
use Rattle.lc_text.proofs.parsing.write.Goals as goal

pub returns-in_err-bytes-clause-memory : goal.returns-in_err-bytes-clause-memory
returns-in_err-bytes-clause-memory c =
    on_err c.from_residual.result _ (omega (arith, c.in_err-bytes.ensures.memory, spot_len (words c.args.fields.rest.now) _ c.in-Some.ensures))
