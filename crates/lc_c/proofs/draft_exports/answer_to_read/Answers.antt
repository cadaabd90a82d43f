use Rattle.std.proofs.Common.{[], ◌∙◌, ap, sym}
use Rattle.lc_c.specs.DraftCalls.{answer_to_read}
use Rattle.lc_c.proofs.draft_exports.answer_to_read.Goals as goal

pub returns-in-Ok : goal.returns-in-Ok
returns-in-Ok c = c.of_bytes.ensures [] ∙ sym (ap answer_to_read c.in-Ok.is)
