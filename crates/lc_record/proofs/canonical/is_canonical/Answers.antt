use Rattle.lc_record.proofs.RecordLemmas.{passes_decides}
use Rattle.lc_record.proofs.canonical.is_canonical.Goals as goal

pub returns : goal.returns
returns c = passes_decides c.args.«record».now c.as_slice.result.now c.as_slice-2.result.now c.passes.result c.as_slice.ensures c.as_slice-2.ensures c.passes.ensures
