use Rattle.std.proofs.Common.{◌∙◌, Option, sym, ap}
use Rattle.lc_page.specs.declared.slot.Slot.{Slot}
use Rattle.lc_page.specs.Page.{slot_bytes, page_at}
use Rattle.lc_page.proofs.reading.page_bytes.Goals as goal

pub returns-in-None-clause-bytes : goal.returns-in-None-clause-bytes
returns-in-None-clause-bytes c =
    let told = rw (c.slot_of-first.ensures.bytes, c.slot_of-second.ensures.bytes) at c.present.ensures in
    sym (ap (λ (o : Option Slot). (page_at (slot_bytes c.args.bytes.now c.args.page) o).content) (sym told ∙ c.in-None.is))
